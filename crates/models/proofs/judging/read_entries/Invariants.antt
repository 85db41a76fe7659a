use Rattle.std.proofs.Common.{◌-◌, length}
use Rattle.models.specs.inner.Judging.{said, Reading}
use Rattle.models.proofs.judging.read_entries.Given as goal

abbrev pub invariant-loop-entry : goal.invariant-loop-entry
invariant-loop-entry l = Reading l.variables.problem.bytes.now l.variables.index.names.list.now l.text l.given.marks l.given.words l.at l.k (said l.again) (said l.unfit)

abbrev pub decreases-loop-entry : goal.decreases-loop-entry
decreases-loop-entry l = length l.text - l.at
