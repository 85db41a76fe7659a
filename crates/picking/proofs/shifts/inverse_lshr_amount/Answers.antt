-- The amount is the difference of the highest bits, or any from where nothing is left.
use Rattle.std.proofs.Common.{◌/◌, ◌^◌, sym, refl, ◌∙◌, le_refl, arith}
use Rattle.boxes.specs.laws.Solves.{from_by, only_by, solves_none}
use Rattle.picking.proofs.ShiftLaws.{lshr_gone, lshr_from, lshr_sum}
use Rattle.picking.proofs.shifts.inverse_lshr_amount.Goals as goal

pub returns-then-t-eq0 : goal.returns-then-t-eq0
returns-then-t-eq0 c =
    let e = c.if-t-eq0.true in
    from_by (λ v. c.args.x / 2 ^ v) (le_refl 64) (λ v l. lshr_gone c.top_bit-i.ensures v l ∙ sym e) (λ v m. lshr_from c.top_bit-i.ensures v (m ∙ e)) (rw c.from.ensures at c.range.ensures)

pub returns-then-i-j : goal.returns-then-i-j
returns-then-i-j c =
    solves_none (λ v l m. let e = lshr_sum c.top_bit-i.ensures c.if-t-eq0.false c.top_bit-j.ensures v m in omega (arith, c.if-i-j.true))

pub returns : goal.returns
returns c =
    only_by (λ v. c.args.x / 2 ^ v) (le_refl 64)
    (λ v m. let e = lshr_sum c.top_bit-i.ensures c.if-t-eq0.false c.top_bit-j.ensures v m in omega arith) refl (rw c.from-2.ensures at c.only_if.ensures)
