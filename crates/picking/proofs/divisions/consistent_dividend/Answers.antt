-- By the target: everything, all but the greatest, or what some divisor takes there.
use Rattle.picking.proofs.DivisionLaws.{some_dividend}
use Rattle.picking.proofs.divisions.consistent_dividend.Goals as goal

pub returns : goal.returns
returns c = some_dividend c.requires c.ones-m.ensures c.if-t-eq0.false c.if-t-m.false
