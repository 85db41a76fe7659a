-- A part of the lent bytes, written over.
use Rattle.std.proofs.Common.{arith}
use Rattle.spelling.specs.laws.Written.{mid_sets}
use Rattle.spelling.proofs.bytes.put.Goals as goal

pub returns : goal.returns
returns c = rw c.copy_from_slice.ensures.after (mid_sets c.args.out.now c.args.bytes.now c.args.at _ c.requires (omega arith))
