-- By the target: 0 and 1, all but 0, or as far as the product with the target is a word.
use Rattle.picking.proofs.DivisionLaws.{some_divisor}
use Rattle.picking.proofs.divisions.consistent_divisor.Goals as goal

pub returns : goal.returns
returns c =
    some_divisor c.requires c.ones-m.ensures c.if-t-eq0.false c.if-t-m.false c.range-2.ensures
