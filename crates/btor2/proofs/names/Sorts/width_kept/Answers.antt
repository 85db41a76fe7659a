-- The first place that has the id.
use Rattle.std.proofs.Common.{arith}
use Rattle.btor2.specs.inner.Kept.{there, nowhere}
use Rattle.btor2.proofs.names.Sorts.width_kept.Goals as goal

pub returns-then-self-k : goal.returns-then-self-k
returns-then-self-k c = there c.loop-k.k (omega arith) c.if-self-k.true

pub returns : goal.returns
returns c = nowhere
