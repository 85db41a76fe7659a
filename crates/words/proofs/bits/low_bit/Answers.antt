-- The count of trailing zeros is the place of the lowest set bit.
use Rattle.words.specs.laws.Zeros.{trailing}
use Rattle.words.proofs.bits.low_bit.Goals as goal

pub returns : goal.returns
returns c = trailing 64 c.args.x c.requires c.ranges.x.fits
