-- `evaluation::readers::index_readers` meets its contract.
use Rattle.std.proofs.Common.{arith}
use Rattle.nodes.specs.Problem.{problem}
use Rattle.evaluation.specs.laws.Linking.{linking_none}
use Rattle.evaluation.proofs.readers.index_readers.Goals as goal

pub loop-i-init : goal.loop-i-init
unfolding problem
loop-i-init c = (omega (arith, c.node_count-i.ensures), linking_none c.args.problem.accepted c.requires c.node_count-i.ensures)
