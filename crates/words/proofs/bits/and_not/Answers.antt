-- The complement of b is 2 ^ 64 - 1 - b: and_not says what it leaves of a.
use Rattle.words.specs.laws.Less.{and_not}
use Rattle.words.proofs.bits.and_not.Goals as goal

pub returns : goal.returns
returns c = and_not 64 c.args.a c.args.b c.ranges.a.fits c.ranges.b.fits
