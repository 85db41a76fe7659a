use Rattle.tapes.specs.inner.Heights.{Heights}
use Rattle.tapes.proofs.heights.fill_heights.Given as goal

abbrev pub invariant-loop-i : goal.invariant-loop-i
invariant-loop-i l = Heights l.problem.bytes.now l.heights l.i
