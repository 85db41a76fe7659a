use Rattle.mending.specs.Refusals.{operand_fault}
use Rattle.mending.proofs.faults.operand_faults.Given as goal

abbrev pub ghost-first_refusal : goal.ghost-first_refusal
ghost-first_refusal a = operand_fault a.test.0.now
