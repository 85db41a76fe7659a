use Rattle.std.proofs.Common.{◌≡◌, ◌≤◌}
use Rattle.nodes.specs.Problem.{problem}
use Rattle.moves.specs.Moves.{Unsatisfied}
use Rattle.evaluation.specs.inner.Lists.{Count}
use Rattle.moves.proofs.roots.nth_unsatisfied.Given as goal

abbrev pub invariant-loop-j : goal.invariant-loop-j
invariant-loop-j l = (l.j-end ≡ (problem l.problem.bytes.now).entries) × (l.before ≤ l.k) × Count (Unsatisfied (problem l.problem.bytes.now) l.values) l.j l.before
