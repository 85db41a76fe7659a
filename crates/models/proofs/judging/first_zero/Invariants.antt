use Rattle.std.proofs.Common.{◌≡◌}
use Rattle.models.specs.declared.Judged.TheVariants.{Yes}
use Rattle.models.specs.Judgement.{first_said, zero_at}
use Rattle.models.proofs.judging.first_zero.Given as goal

abbrev pub invariant-loop-j : goal.invariant-loop-j
invariant-loop-j l = first_said (zero_at l.problem.bytes.now l.values) l.j ≡ Yes
