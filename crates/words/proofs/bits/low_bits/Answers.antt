-- The mask is 2 ^ n - 1, since 1 shifted by n < 64 stays within the word, and masking by it is the remainder.
use Rattle.words.specs.laws.Shift.{one_shl}
use lib.Bits.{and_mask}
use Rattle.words.proofs.bits.low_bits.Goals as goal

pub returns : goal.returns
returns c = rw (one_shl c.args.n 64 c.requires) (and_mask c.args.x c.args.n)
