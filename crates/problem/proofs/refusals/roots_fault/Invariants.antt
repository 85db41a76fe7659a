use Rattle.problem.specs.Refusals.{root_fault}
use Rattle.problem.proofs.refusals.roots_fault.Given as goal

abbrev pub ghost-first_refusal : goal.ghost-first_refusal
ghost-first_refusal a = root_fault a.test.0.now
