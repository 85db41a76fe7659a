-- By the target: above the dividend, from 0 on, or between two quotients.
use Rattle.std.proofs.Common.{sym, ◌∙◌}
use Rattle.picking.proofs.DivisionLaws.{divisor_zero, divisor_ones, divisor_by}
use Rattle.picking.proofs.divisions.inverse_divisor.Goals as goal

pub returns-then-t-eq0 : goal.returns-then-t-eq0
returns-then-t-eq0 c = divisor_zero c.requires.0 c.requires.1 c.if-t-eq0.true c.above.ensures

pub returns-then-t-ones : goal.returns-then-t-ones
returns-then-t-ones c =
    divisor_ones c.requires.0 c.requires.1 (c.if-t-ones.true ∙ c.ones.ensures) c.range.ensures

pub returns : goal.returns
returns c =
    divisor_by c.requires.0 c.requires.1 c.if-t-eq0.false (λ e. c.if-t-ones.false (e ∙ sym c.ones.ensures)) c.range-2.ensures
