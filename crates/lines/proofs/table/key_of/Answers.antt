-- The loop's invariant: what stands from the place on is packed.
use Rattle.std.proofs.Common.{refl, arith, ◌-◌}
use Rattle.lines.specs.laws.Keys.{packed_end, packed_turn, bound_starts, bound_few, bound_turn}
use Rattle.lines.proofs.table.key_of.Goals as goal

pub loop-i-init : goal.loop-i-init
loop-i-init c = (packed_end c.args.t.now _ refl, bound_starts _)

pub overflow_mul-n : goal.overflow_mul-n
overflow_mul-n c = omega (arith, bound_few _ c.loop-i.i _ c.loop-i.invariant.1 (omega arith) c.requires)

pub overflow_add-n : goal.overflow_add-n
overflow_add-n c = omega (arith, bound_few _ c.loop-i.i _ c.loop-i.invariant.1 (omega arith) c.requires, c.type_inv.t (c.loop-i.i - 1))

pub loop-i-preserved : goal.loop-i-preserved
loop-i-preserved c =
    (rw c.from.ensures (packed_turn c.args.t.now c.loop-i.i _ c.loop-i.invariant.0 (omega arith) (omega arith)), rw c.from.ensures (bound_turn _ c.loop-i.i _ _ c.loop-i.invariant.1 (c.type_inv.t (c.loop-i.i - 1)).fits (omega arith) (omega arith)))
