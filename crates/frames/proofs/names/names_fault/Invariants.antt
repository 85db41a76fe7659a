use Rattle.std.proofs.Common.{◌≡◌}
use Rattle.problem.specs.Refusals.{Accepted, first_below}
use Rattle.frames.specs.Names.{name_fault}
use Rattle.frames.proofs.names.names_fault.Given as goal

abbrev pub invariant-loop-k : goal.invariant-loop-k
invariant-loop-k l = first_below (name_fault l.problem.bytes.now l.names) l.k ≡ Accepted
