-- For t = 0 anything; else the shifts by no more than t's zeros.
use Rattle.boxes.specs.laws.Solves.{solves_all}
use Rattle.picking.proofs.ComparisonLaws.{position_one}
use Rattle.picking.proofs.ShiftLaws.{some_shl_zero, some_shl, some_amount}
use Rattle.picking.proofs.shifts.consistent_shl.Goals as goal

pub returns-then-t-eq0 : goal.returns-then-t-eq0
returns-then-t-eq0 c =
    solves_all c.requires.1.wide c.all.ensures (λ v l. some_shl_zero c.args.i c.args.w v c.args.t c.if-t-eq0.true)

pub returns-then-i-eq0 : goal.returns-then-i-eq0
returns-then-i-eq0 c =
    rw c.if-i-eq0.true (some_shl c.requires.1 c.if-t-eq0.false c.low_bit-n.ensures)

pub returns : goal.returns
returns c =
    rw (position_one c.args.i c.requires.0 c.if-i-eq0.false) (some_amount c.requires.1 c.if-t-eq0.false c.low_bit-n.ensures (rw c.from.ensures at c.range.ensures))
