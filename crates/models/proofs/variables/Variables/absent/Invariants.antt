use Rattle.std.proofs.Common.{◌≡◌}
use Rattle.models.specs.declared.Judged.TheVariants.{Yes}
use Rattle.models.specs.Judgement.{first_said}
use Rattle.models.specs.inner.Judging.{unmarked_at}
use Rattle.models.proofs.variables.Variables.absent.Given as goal

abbrev pub invariant-loop-k : goal.invariant-loop-k
invariant-loop-k l = first_said (unmarked_at l.self.ids.now l.given.marks) l.k ≡ Yes
