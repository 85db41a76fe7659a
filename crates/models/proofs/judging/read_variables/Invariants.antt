use Rattle.models.specs.inner.Judging.{Kept}
use Rattle.models.proofs.judging.read_variables.Given as goal

abbrev pub invariant-loop-i : goal.invariant-loop-i
invariant-loop-i l = Kept l.problem.bytes.now l.ids l.i l.count
