-- The greatest of the roots passed, and at the end of all.
use Rattle.std.proofs.Common.{◌≡◌, arith}
use Rattle.nodes.specs.Problem.{problem}
use Rattle.tapes.proofs.Links.{node_few, heights_longest}
use Rattle.tapes.proofs.heights.longest_chain.Goals as goal

pub bounds-heights-from : goal.bounds-heights-from
unfolding problem
bounds-heights-from c = omega (arith, c.from.ensures, node_few _ _ c.args.problem.accepted c.root.ensures.inside)

pub returns : goal.returns
unfolding problem
returns c =
    let e : c.loop-j.j ≡ (problem c.args.problem.bytes.now).entries = omega (arith, c.root_count-j-end.ensures, c.loop-j-test.false) in
    heights_longest _ _ c.args.problem.accepted c.requires _ (rw e at c.loop-j.invariant)
