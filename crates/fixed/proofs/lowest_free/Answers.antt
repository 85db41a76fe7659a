-- The zeros among w digits are those among 64, but at most w.
use Rattle.std.proofs.Common.{arith}
use lib.Bits.{bit_or}
use Rattle.fixed.specs.Fixed.{free_of}
use Rattle.fixed.proofs.Pairs.{fewer}
use Rattle.fixed.proofs.lowest_free.Goals as goal

pub returns : goal.returns
returns c = omega (arith, fewer c.args.w 64 (bit_or (free_of c.args.p) (free_of c.args.q)) (omega arith), c.min.ensures)
