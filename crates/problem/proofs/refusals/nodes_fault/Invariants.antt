use Rattle.problem.specs.Refusals.{node_fault}
use Rattle.problem.proofs.refusals.nodes_fault.Given as goal

abbrev pub ghost-first_refusal : goal.ghost-first_refusal
ghost-first_refusal a = node_fault a.test.0.now
