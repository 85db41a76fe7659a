-- All is shifted out from w on; else the low bits are settled, if t's own are clear.
use Rattle.std.proofs.Common.{◌*◌, ◌%◌, ◌^◌, sym, ◌∙◌, le_of_lt, arith}
use Rattle.boxes.specs.laws.Solves.{same_by, solves_by, solves_none}
use Rattle.picking.proofs.ShiftLaws.{shl_past, shl_clear, shl_ends, shl_gives, part_lt}
use Rattle.picking.proofs.shifts.inverse_shl_operand.Goals as goal

pub returns-then-s-from : goal.returns-then-s-from
returns-then-s-from c =
    same_by (λ v. v * 2 ^ c.args.s % 2 ^ c.args.w) c.requires.wide (λ v l. shl_past c.args.w c.args.s v (rw c.from.ensures at c.if-s-from.true)) c.all_if.ensures

pub returns-then-cut-ne0 : goal.returns-then-cut-ne0
returns-then-cut-ne0 c =
    solves_none (λ v l m. c.if-cut-ne0.true (c.cut.ensures ∙ shl_clear c.args.w c.args.s v c.args.t (le_of_lt (rw c.from.ensures at c.if-s-from.false)) m))

pub ending-requires : goal.ending-requires
ending-requires c =
    (omega (arith, c.requires.wide), part_lt c.args.w c.args.s c.args.t (le_of_lt (rw c.from.ensures at c.if-s-from.false)) c.requires.fits)

pub returns : goal.returns
returns c =
    let h = le_of_lt (rw c.from.ensures at c.if-s-from.false) in
    solves_by c.requires.wide c.ending.ensures
    (λ v l m. shl_gives c.args.w c.args.s v c.args.t h (sym c.cut.ensures ∙ c.if-cut-ne0.false) m)
    (λ v l m. shl_ends c.args.w c.args.s v c.args.t h m)
