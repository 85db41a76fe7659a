-- Each test is one half of agreeing, as Within says it.
use Rattle.words.specs.laws.Agree.{lo_within, within_hi, agrees_of_within}
use Rattle.words.specs.laws.Decides.{decides_same, decides_eq}
use Rattle.words.proofs.ternary.agrees.Goals as goal

pub returns-then-lo-v : goal.returns-then-lo-v
returns-then-lo-v c =
    decides_same _ _ (λ e. agrees_of_within (record { is = c.if-lo-v.true }) (record { is = e })) (λ g. (within_hi g).is) _ (decides_eq _ _)

pub returns-else-lo-v : goal.returns-else-lo-v
returns-else-lo-v c = decides_same _ _ (λ e. absurd (c.if-lo-v.false e)) (λ g. (lo_within g).is) _ (decides_eq _ _)
