-- 63 less the leading zeros is the place of the highest set bit.
use Rattle.words.specs.laws.Zeros.{leading}
use Rattle.words.proofs.bits.top_bit.Goals as goal

pub returns : goal.returns
returns c = leading 63 c.args.x c.requires c.ranges.x.fits
