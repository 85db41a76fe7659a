-- One box: the ternary word whose n low bits are fixed at c.
use Rattle.boxes.specs.laws.Solves.{low_solves}
use Rattle.picking.proofs.basic.ending.Goals as goal

pub returns : goal.returns
returns c = rw c.low_are.ensures (low_solves c.args.n c.args.c c.requires.1)
