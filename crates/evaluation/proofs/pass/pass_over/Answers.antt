use Rattle.std.proofs.Common.{arith}
use Rattle.nodes.specs.Problem.{problem}
use Rattle.evaluation.specs.laws.Passing.{asked_few}
use Rattle.evaluation.proofs.pass.pass_over.Goals as goal

pub pass_in-requires-clause-room : goal.pass_in-requires-clause-room
unfolding problem
pass_in-requires-clause-room c = omega (arith, c.if-node_count-le128.true, c.node_count.ensures)

pub pass_in-requires-else-node_count-le128-clause-room : goal.pass_in-requires-else-node_count-le128-clause-room
pass_in-requires-else-node_count-le128-clause-room c = asked_few c.requires
