-- One height more.
use Rattle.std.proofs.Common.{◌<◌, length, arith}
use Rattle.nodes.specs.Problem.{problem}
use Rattle.tapes.proofs.Links.{node_few, heights_more}
use Rattle.tapes.proofs.heights.fill_heights.Goals as goal

pub bounds-heights-from : goal.bounds-heights-from
unfolding problem
bounds-heights-from c =
    let inside : c.loop-i.i < (problem c.args.problem.bytes.now).nodes = omega (arith, c.loop-i-test.true, c.node_count-i-end.ensures) in
    omega (arith, c.from.ensures, node_few _ _ c.args.problem.accepted inside)

pub loop-i-preserved : goal.loop-i-preserved
unfolding problem
loop-i-preserved c =
    let inside : c.loop-i.i < (problem c.args.problem.bytes.now).nodes = omega (arith, c.loop-i-test.true, c.node_count-i-end.ensures) in
    let there : c.loop-i.i < length c.loop-i.heights = omega (arith, node_few _ _ c.args.problem.accepted inside) in
    rw c.from.ensures (heights_more _ _ _ _ there c.loop-i.invariant c.height_at.ensures)
