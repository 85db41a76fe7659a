use Rattle.mending.specs.Refusals.{early_fault}
use Rattle.mending.proofs.faults.early_faults.Given as goal

abbrev pub ghost-first_refusal : goal.ghost-first_refusal
ghost-first_refusal a = early_fault a.test.0.now
