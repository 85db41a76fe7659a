-- The first that is found is the least.
use Rattle.std.proofs.Common.{◌≡◌, ℕ, Bool, true, false, not, arith, rules, tests}
use Rattle.std.proofs.lemmas.Iterator.{first_from_Range}
use Rattle.mending.specs.Order.{placed}
use Rattle.mending.specs.laws.Least.{first_least}
use Rattle.mending.proofs.order.lowest_unplaced.Goals as goal

pub returns : goal.returns
returns c =
    let waits : ℕ → Bool = λ i. not (placed c.args.news.now i) in
    rw c.unwrap_or.ensures
    (first_least waits _ _
    (first_from_Range _ _ _ _ (λ i. waits i ≡ true) (λ i. waits i ≡ false) c.find.ensures.ran
    (λ x q k. grind (arith, tests))
    (λ x q k. (search rules, grind (arith, tests)))))
