-- Each node of an accepted problem is inside.
use Rattle.problem.proofs.View.{node_fits}
use Rattle.problem.proofs.accepted.Problem.node.Goals as goal

pub node_at-requires : goal.node_at-requires
node_at-requires c = node_fits _ c.args.self.accepted _ c.requires
