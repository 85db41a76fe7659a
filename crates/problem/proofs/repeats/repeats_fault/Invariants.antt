use Rattle.std.proofs.Common.{◌≡◌}
use Rattle.problem.specs.Refusals.{Accepted, first_below, repeat_fault}
use Rattle.problem.proofs.Passed.{Passed}
use Rattle.problem.proofs.repeats.repeats_fault.Given as goal

abbrev pub invariant-loop-j : goal.invariant-loop-j
invariant-loop-j l = Passed l.problem l.j l.passed × (first_below (repeat_fault l.problem) l.j ≡ Accepted)
