use Rattle.std.proofs.Common.{◌≤◌}
use Rattle.mending.specs.inner.Chains.{Tried}
use Rattle.mending.proofs.order.try_all.Given as goal

abbrev pub invariant-loop-i : goal.invariant-loop-i
invariant-loop-i l = Tried l.problem l.news (λ j. l.i ≤ j) l.marks
