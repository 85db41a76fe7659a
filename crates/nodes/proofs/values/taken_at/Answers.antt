-- `nodes::values::taken_at` meets its contract: each arm of the match asks after the operands that its kind has, and is the
-- meaning of its kind; what the parts ask comes from the width rule.
use Rattle.std.proofs.Common.{refl, sym, ◌∙◌, arith}
use Rattle.operators.specs.laws.Arms.{rest, join_asks, part_asks}
use Rattle.nodes.specs.Problem.{problem}
use Rattle.nodes.specs.laws.Taking.{own_taken, constant_taken, own_kept, fits, taken}
use Rattle.nodes.proofs.values.taken_at.Goals as goal

pub node-n-requires : goal.node-n-requires
unfolding problem
node-n-requires c = c.requires.evaluable.inside

pub returns-then-not-is_all : goal.returns-then-not-is_all
returns-then-not-is_all c = own_kept c.node-n.ensures.node (rw c.in-0.is refl) (sym c.is_all.ensures ∙ c.if-not-is_all.true)

pub returns-then-not-is_all-2 : goal.returns-then-not-is_all-2
returns-then-not-is_all-2 c = own_kept c.node-n.ensures.node (rw c.in-1.is refl) (sym c.is_all-in-1.ensures ∙ c.if-not-is_all-2.true)

pub flip-value-requires : goal.flip-value-requires
flip-value-requires c = rw c.from-w.ensures (c.node-n.ensures.some, c.node-n.ensures.most, fits c.node-n.ensures.node c.operands_due.ensures c.in_ok-x-in-2.was c.in-2.is (omega arith) c.args.problem.accepted c.requires.evaluable)

pub join-value-requires : goal.join-value-requires
join-value-requires c = let f = fits c.node-n.ensures.node c.operands_due-in-12.ensures c.in_ok-x-in-12.was c.in-12.is (omega arith) c.args.problem.accepted c.requires.evaluable in
    rw (c.from-w.ensures, c.width_of.ensures, rest _ _ _ f.0) (join_asks _ _ _ _ _ c.node-n.ensures.most f)

pub part-value-requires : goal.part-value-requires
part-value-requires c = let f = fits c.node-n.ensures.node c.operands_due-in-13.ensures c.in_ok-x-in-13.was c.in-13.is (omega arith) c.args.problem.accepted c.requires.evaluable in
    rw (c.from-w.ensures, c.from-in-13.ensures) (c.node-n.ensures.some, c.node-n.ensures.most, part_asks _ _ _ _ c.node-n.ensures.some f)

pub right_signed-value-requires : goal.right_signed-value-requires
right_signed-value-requires c = let f = fits c.node-n.ensures.node c.operands_due-in-15.ensures c.in_ok-x-in-15.was c.in-15.is (omega arith) c.args.problem.accepted c.requires.evaluable in rw c.from-w.ensures (c.node-n.ensures.some, c.node-n.ensures.most, f.0)

pub returns-else-not-is_all : goal.returns-else-not-is_all
returns-else-not-is_all c = rw c.from.ensures (own_taken c.node-n.ensures.node c.in-0.is (sym c.is_all.ensures ∙ c.if-not-is_all.false))

pub returns-else-not-is_all-2 : goal.returns-else-not-is_all-2
returns-else-not-is_all-2 c = constant_taken c.node-n.ensures.node c.in-1.is (sym c.is_all-in-1.ensures ∙ c.if-not-is_all-2.false)

pub returns-in_ok-x-in-7 : goal.returns-in_ok-x-in-7
returns-in_ok-x-in-7 c = taken c.node-n.ensures.node c.operands_due-in-7.ensures c.in_ok-x-in-7.was c.in-7.is (omega arith)
    (rw c.from-w.ensures at c.left-value.ensures)
