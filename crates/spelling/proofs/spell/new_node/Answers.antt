-- The nots first, then the line's own.
use native.Mathlib.Omega.{arith}
use Rattle.spelling.specs.laws.Spell.{one_few, nots_few, new_not, new_own, own_below}
use Rattle.spelling.proofs.spell.new_node.Goals as goal

pub returns-then-j-before : goal.returns-then-j-before
returns-then-j-before c = λ h l. new_not c.args.x _ _ _ (rw c.nots_of-before.ensures at c.if-j-before.true) (c.not_node.ensures (rw c.nots_of-before.ensures at c.if-j-before.true))

pub overflow_add-second : goal.overflow_add-second
overflow_add-second c = omega (arith, one_few _ _ c.one_if.ensures)

pub overflow_add-third : goal.overflow_add-third
overflow_add-third c = omega (arith, one_few _ _ c.one_if.ensures, one_few _ _ c.one_if-2.ensures)

pub overflow_add-at : goal.overflow_add-at
overflow_add-at c = omega (arith, nots_few c.args.x.ops, c.nots_of-before.ensures)

pub own_node-requires : goal.own_node-requires
own_node-requires c = omega (arith, nots_few c.args.x.ops, c.nots_of-before.ensures)

pub returns : goal.returns
returns c = λ h l. new_own c.args.x _ _ _ _ _ _ _ _ _ (rw c.nots_of-before.ensures at c.if-j-before.false) (rw c.one_if.ensures) (rw c.one_if-2.ensures) c.placed_at.ensures c.placed_at-2.ensures c.placed_at-3.ensures c.row_of.ensures.form (rw c.nots_of-before.ensures at (c.own_node.ensures h (own_below c.args.x _ _ _ c.nots_of-before.ensures c.row_of.ensures.form c.if-j-before.false l)))
