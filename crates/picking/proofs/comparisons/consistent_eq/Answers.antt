-- By the target and by whether the other has more than one value.
use Rattle.std.proofs.Common.{le_refl}
use Rattle.boxes.specs.laws.Solves.{solves_all}
use Rattle.picking.proofs.ComparisonLaws.{some_apart, some_other, bit_zero_of}
use Rattle.picking.proofs.comparisons.consistent_eq.Goals as goal

pub returns-then-pair : goal.returns-then-pair
returns-then-pair c =
    some_apart (bit_zero_of c.args.t c.requires c.if-t-eq1.false) c.args.pair.within c.if-pair.true c.apart.ensures

pub returns : goal.returns
returns c =
    solves_all (le_refl 64) c.all.ensures (λ v b. some_other (bit_zero_of c.args.t c.requires c.if-t-eq1.false) c.args.pair.within c.if-pair.false v)
