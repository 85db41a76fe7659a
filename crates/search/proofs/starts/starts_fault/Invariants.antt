use Rattle.search.specs.Call.{start_fault}
use Rattle.search.proofs.starts.starts_fault.Given as goal

abbrev pub ghost-first_refusal : goal.ghost-first_refusal
ghost-first_refusal a = start_fault a.test.0.bytes.now a.test.1.now
