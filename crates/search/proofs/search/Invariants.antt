use Rattle.std.proofs.Common.{◌-◌}
use Rattle.search.proofs.Runs.{Going}
use Rattle.search.proofs.search.Given as goal

abbrev pub invariant-loop-problem : goal.invariant-loop-problem
invariant-loop-problem l = Going l.run l.initial.values l.tape l.budget l.values l.so_far

abbrev pub decreases-loop-problem : goal.decreases-loop-problem
decreases-loop-problem l = l.budget - l.so_far.moves
