-- A row of two boxes.
use Rattle.picking.proofs.SignedLaws.{ends_solves}
use Rattle.picking.proofs.basic.ends.Goals as goal

pub returns : goal.returns
returns c = ends_solves c.args.a c.args.b
