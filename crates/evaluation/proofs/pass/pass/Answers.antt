-- `evaluation::pass::pass` meets its contract.
use Rattle.std.proofs.Common.{refl, ◌∙◌, arith}
use Rattle.evaluation.specs.laws.Passing.{passed_few, passed_long, going_start, going_few, going_evaluable, going_more, going_end, asked_most}
use Rattle.evaluation.proofs.pass.pass.Goals as goal

pub loop-i-init : goal.loop-i-init
loop-i-init c = (c.requires.asked, refl, rw c.from.ensures (going_start c.requires.asked c.requires.clear))

pub pass_node-count-requires-clause-evaluable : goal.pass_node-count-requires-clause-evaluable
pass_node-count-requires-clause-evaluable c = let o = c.loop-i.invariant in going_evaluable o.2 (omega (arith, asked_most o.0))

pub overflow_add-count : goal.overflow_add-count
overflow_add-count c = omega (arith, going_few c.loop-i.invariant.2, passed_few c.pass_node-count.ensures)

pub loop-i-preserved : goal.loop-i-preserved
loop-i-preserved c = let o = c.loop-i.invariant in
    (o.0, passed_long c.pass_node-count.ensures ∙ o.1, going_more o.2 (omega (arith, asked_most o.0)) c.pass_node-count.ensures)

pub returns : goal.returns
returns c = let o = c.loop-i.invariant in going_end o.0 o.2 (omega arith)
