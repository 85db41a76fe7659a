use Rattle.std.proofs.Common.{◌≤◌}
use Rattle.nodes.specs.Problem.{problem}
use Rattle.evaluation.specs.inner.Readers.{Linking}
use Rattle.evaluation.proofs.readers.index_readers.Given as goal

abbrev pub invariant-loop-i : goal.invariant-loop-i
invariant-loop-i l = (l.i ≤ (problem l.problem.bytes.now).nodes) × Linking l.problem.bytes.now l.i l.slots
