-- The least or the greatest value of the other serves best.
use Rattle.std.proofs.Common.{ltb, refl, rules}
use Rattle.words.specs.laws.Agree.{lo_within, within_hi, within_le}
use Rattle.fixed.specs.Fixed.{pair}
use Rattle.fixed.specs.laws.Sound.{lo_agrees, hi_agrees}
use Rattle.picking.proofs.ComparisonLaws.{least_by, most_by}
use Rattle.picking.proofs.comparisons.consistent_below.Goals as goal

pub returns-then-from-t : goal.returns-then-from-t
returns-then-from-t c =
    least_by 64 ltb (λ x. x) (λ x y a b. refl) c.requires.0 (search rules) (lo_agrees {p = pair c.args.pair.lo c.args.pair.hi} c.args.pair.within) (rw c.from.ensures at c.if-from-t.true)
    (λ y a. within_le (lo_within a)) c.inverse_below.ensures

pub returns : goal.returns
returns c =
    most_by 64 ltb (λ x. x) (λ x y a b. refl) c.requires.0 (search rules) (hi_agrees {p = pair c.args.pair.lo c.args.pair.hi} c.args.pair.within) c.requires.1 (rw c.from.ensures at c.if-from-t.false)
    (λ y a. within_le (within_hi a)) c.inverse_below-2.ensures
