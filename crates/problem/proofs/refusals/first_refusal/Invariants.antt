use Rattle.std.proofs.Common.{◌≡◌}
use Rattle.problem.specs.Refusals.{Accepted, first_below}
use Rattle.problem.proofs.refusals.first_refusal.Given as goal

abbrev pub invariant-loop-i : goal.invariant-loop-i
invariant-loop-i g l = first_below g.of l.i ≡ Accepted
