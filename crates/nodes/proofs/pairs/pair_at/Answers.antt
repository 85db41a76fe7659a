use Rattle.std.proofs.Common.{arith, ◌≤◌}
use Rattle.nodes.specs.Problem.{problem}
use Rattle.nodes.specs.laws.Readings.{narrowed}
use Rattle.nodes.proofs.pairs.pair_at.Goals as goal

pub node-n-requires : goal.node-n-requires
unfolding problem
node-n-requires c = c.requires.inside

pub inner_pair-requires : goal.inner_pair-requires
inner_pair-requires c = let k : 2 ≤ c.node-n.result.kind = omega arith in
    rw c.node-n.ensures.node (narrowed _ _ _ _ c.args.problem.accepted c.requires (rw c.node-n.ensures.node at k))
