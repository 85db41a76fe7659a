use Rattle.nodes.specs.inner.Nodes.{Offered.offered, Offered.withheld}
use Rattle.nodes.proofs.due.operands_due.Goals as goal

pub returns-then-is_due : goal.returns-then-is_due
returns-then-is_due c = offered (c.is_due.ensures.yes c.if-is_due.true) c.held.ensures

pub returns-else-is_due : goal.returns-else-is_due
returns-else-is_due c = withheld (c.is_due.ensures.no c.if-is_due.false)
