-- The heights of the operands passed, and at the end of all.
use Rattle.std.proofs.Common.{◌≡◌, ◌<◌, ◌∙◌, arith}
use Rattle.tapes.proofs.Links.{operand_there, height_made}
use Rattle.tapes.proofs.heights.height_at.Goals as goal

pub bounds-heights-from : goal.bounds-heights-from
bounds-heights-from c =
    let j = c.loop-j.j in
    let there : j < c.operand_count.result = omega (arith, c.loop-j-test.true, c.from-count.ensures) in
    (operand_there _ _ _ c.args.problem.accepted c.requires.so_far c.requires.inside _ _ j _ c.node-node.ensures.node c.operand_count.ensures there (c.from.ensures ∙ c.operand.ensures)).0

pub overflow_add-heights : goal.overflow_add-heights
overflow_add-heights c =
    let j = c.loop-j.j in
    let there : j < c.operand_count.result = omega (arith, c.loop-j-test.true, c.from-count.ensures) in
    let small = (operand_there _ _ _ c.args.problem.accepted c.requires.so_far c.requires.inside _ _ j _ c.node-node.ensures.node c.operand_count.ensures there (c.from.ensures ∙ c.operand.ensures)).1 in
    record { fits = omega (arith, small) }

pub returns : goal.returns
returns c =
    let e : c.loop-j.j ≡ c.operand_count.result = omega (arith, c.from-count.ensures, c.loop-j-test.false) in
    height_made _ _ _ c.args.problem.accepted c.requires.so_far c.requires.inside _ _ _ c.node-node.ensures.node c.operand_count.ensures (rw e at c.loop-j.invariant)
