-- The loop's invariant: the first ids are those of the variables below i.
use Rattle.std.proofs.Common.{arith, ap, rules}
use Rattle.problem.specs.declared.layout.Node.{Node}
use Rattle.problem.specs.laws.Facts.{accepted_facts}
use Rattle.models.specs.laws.Variables.{kept_more, kept_same}
use Rattle.models.proofs.judging.read_variables.Goals as goal
use Rattle.models.proofs.judging.read_variables.Goals.{then-node-eq-VARIABLE, else-node-eq-VARIABLE}

pub bounds-ids-count : goal.bounds-ids-count
bounds-ids-count c = omega (arith, c.loop-i.invariant.few, c.loop-i.invariant.room, (accepted_facts c.args.problem.bytes.now c.args.problem.accepted).header.nodes)

pub loop-i-preserved : goal.loop-i-preserved
loop-i-preserved c =
    elim c.if-node-eq-VARIABLE.branch [
      | then-node-eq-VARIABLE w ↦ rw (w.ids-is, w.count-is) (kept_more _ _ _ _ _ c.loop-i.invariant (ap (λ (n : Node). n.kind) c.node.ensures.node) (search rules) (omega (arith, (accepted_facts c.args.problem.bytes.now c.args.problem.accepted).header.nodes, c.node_count-i-end.ensures)))
      | else-node-eq-VARIABLE w ↦ rw (w.ids-is, w.count-is) (kept_same _ _ _ _ _ c.loop-i.invariant (ap (λ (n : Node). n.kind) c.node.ensures.node) (search rules))
    ]
