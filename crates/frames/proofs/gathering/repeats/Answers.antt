-- One kept solution more that does not agree.
use Rattle.words.specs.laws.Decides.{decides_no}
use Rattle.frames.proofs.Keeping.{none_more}
use Rattle.frames.proofs.gathering.repeats.Goals as goal

pub loop-j-preserved : goal.loop-j-preserved
loop-j-preserved c = none_more c.requires c.loop-j-test.true c.loop-j.invariant (decides_no _ _ c.alike.ensures c.if-alike.false)
