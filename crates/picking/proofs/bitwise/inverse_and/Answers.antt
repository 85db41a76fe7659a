-- The other has the one value s.
use Rattle.boxes.specs.laws.Solves.{single_by}
use Rattle.picking.proofs.bitwise.inverse_and.Goals as goal

pub returns : goal.returns
returns c = single_by c.consistent_and.ensures
