-- For t = 0 anything; else the shifts that keep t's highest bit within w bits.
use Rattle.std.proofs.Common.{arith}
use Rattle.words.specs.laws.Zeros.{top_lt}
use Rattle.boxes.specs.laws.Solves.{solves_all}
use Rattle.picking.proofs.ComparisonLaws.{position_one}
use Rattle.picking.proofs.ShiftLaws.{some_lshr_zero, some_lshr, some_right}
use Rattle.picking.proofs.shifts.consistent_lshr.Goals as goal

pub returns-then-t-eq0 : goal.returns-then-t-eq0
returns-then-t-eq0 c =
    solves_all c.requires.1.wide c.all.ensures (λ v l. some_lshr_zero c.args.i c.args.w v c.args.t l c.if-t-eq0.true)

pub overflow_sub-n : goal.overflow_sub-n
overflow_sub-n c =
    omega (arith, top_lt _ _ _ c.requires.1.fits c.top_bit.ensures)

pub returns-then-i-eq0 : goal.returns-then-i-eq0
returns-then-i-eq0 c =
    rw c.if-i-eq0.true (some_lshr c.requires.1 c.top_bit.ensures)

pub overflow_sub-n-2 : goal.overflow_sub-n-2
overflow_sub-n-2 c =
    omega (arith, top_lt _ _ _ c.requires.1.fits c.top_bit.ensures)

pub returns : goal.returns
returns c =
    rw (position_one c.args.i c.requires.0 c.if-i-eq0.false) (some_right c.requires.1 c.top_bit.ensures (rw c.from.ensures at c.range.ensures))
