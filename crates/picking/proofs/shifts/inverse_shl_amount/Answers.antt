-- The amount is the difference of the zeros at the end, or any from where nothing is left.
use Rattle.std.proofs.Common.{◌*◌, ◌%◌, ◌^◌, sym, ◌∙◌, arith}
use Rattle.words.specs.laws.Modular.{cut_cut}
use Rattle.words.specs.laws.Zeros.{tail_lt}
use Rattle.boxes.specs.laws.Solves.{from_by, only_by, solves_none}
use Rattle.picking.proofs.ShiftLaws.{shl_gone, shl_from, shl_sum}
use Rattle.picking.proofs.shifts.inverse_shl_amount.Goals as goal

pub overflow_sub-w : goal.overflow_sub-w
overflow_sub-w c =
    omega (arith, tail_lt _ _ _ _ c.requires.1 c.low_bit-i.ensures)

pub returns-then-t-eq0 : goal.returns-then-t-eq0
returns-then-t-eq0 c =
    let e = c.if-t-eq0.true in
    from_by (λ v. c.args.x * 2 ^ v % 2 ^ c.args.w) c.requires.0.wide
    (λ v l. shl_gone c.requires.0.wide c.low_bit-i.ensures v l ∙ sym e)
    (λ v m. shl_from c.requires.0.wide c.low_bit-i.ensures v (m ∙ e)) (rw c.from.ensures at c.range.ensures)

pub returns-then-j-i : goal.returns-then-j-i
returns-then-j-i c =
    solves_none (λ v l m. let e = shl_sum c.requires.0.wide c.low_bit-i.ensures c.if-t-eq0.false c.low_bit-j.ensures v m in omega (arith, c.if-j-i.true))

pub returns : goal.returns
returns c =
    only_by (λ v. c.args.x * 2 ^ v % 2 ^ c.args.w) c.requires.0.wide
    (λ v m. let e = shl_sum c.requires.0.wide c.low_bit-i.ensures c.if-t-eq0.false c.low_bit-j.ensures v m in omega arith)
    (c.cut.ensures ∙ cut_cut _ 64 _ c.requires.0.wide) (rw c.from-2.ensures at c.only_if.ensures)
