use Rattle.std.proofs.Common.{◌≡◌}
use Rattle.models.specs.declared.Judged.TheVariants.{Yes}
use Rattle.models.specs.Judgement.{first_said, contradicted_at}
use Rattle.models.proofs.judging.any_contradicted.Given as goal

abbrev pub invariant-loop-i : goal.invariant-loop-i
invariant-loop-i l = first_said (contradicted_at l.problem.bytes.now l.values) l.i ≡ Yes
