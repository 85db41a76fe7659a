-- Bit by bit as the pair has it, turned over where t has a bit.
use Rattle.picking.proofs.BitwiseLaws.{some_xor_by}
use Rattle.picking.proofs.bitwise.consistent_xor.Goals as goal

pub returns : goal.returns
returns c = some_xor_by c.args.pair.lo c.args.pair.hi c.args.t c.args.pair.within c.agreeing.ensures
