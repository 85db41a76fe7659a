-- All is shifted out from 64 on; else t with any s bits below, if that is a word.
use Rattle.std.proofs.Common.{◌/◌, ◌^◌, le_refl}
use Rattle.boxes.specs.laws.Solves.{same_by}
use Rattle.picking.proofs.ShiftLaws.{lshr_past, lshr_span, span_fits}
use Rattle.picking.proofs.shifts.inverse_lshr_operand.Goals as goal

pub returns-then-s-ge64 : goal.returns-then-s-ge64
returns-then-s-ge64 c =
    same_by (λ v. v / 2 ^ c.args.s) (le_refl 64) (λ v l. lshr_past c.args.s v l c.if-s-ge64.true) c.all_if.ensures

pub shifted-requires : goal.shifted-requires
shifted-requires c =
    span_fits c.args.s c.args.t c.if-s-ge64.false c.if-k-t.false

pub returns : goal.returns
returns c =
    rw c.shifted.ensures (lshr_span c.args.s c.args.t)
