-- Taking the low bits off and adding others is `over`; what results is a word again.
use Rattle.words.specs.laws.Narrow.{over_by_sub, over_lt}
use Rattle.words.proofs.bits.set_low.Goals as goal

pub overflow_add-result : goal.overflow_add-result
overflow_add-result c =
    rw (c.cut.ensures, over_by_sub) record { fits = over_lt 64 c.args.n c.args.x c.args.c c.requires.0 c.ranges.x.fits c.requires.1 }

pub returns : goal.returns
returns c = rw c.cut.ensures (over_by_sub _ _ _)
