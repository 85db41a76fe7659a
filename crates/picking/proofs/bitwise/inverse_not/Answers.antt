-- The complement of t is the one solution.
use Rattle.picking.proofs.BitwiseLaws.{not_by}
use Rattle.picking.proofs.bitwise.inverse_not.Goals as goal

pub returns : goal.returns
returns c = not_by c.requires c.cut.ensures c.only.ensures
