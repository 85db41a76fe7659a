-- One box: the interval.
use Rattle.boxes.specs.laws.Solves.{span_solves}
use Rattle.picking.proofs.basic.range.Goals as goal

pub returns : goal.returns
returns c = rw c.between.ensures (span_solves c.args.a c.args.b)
