-- The half of the words that has the sign.
use Rattle.picking.proofs.SignedLaws.{signs_low, signs_high}
use Rattle.picking.proofs.signed.all_signed.Goals as goal

pub returns-then-t-eq0 : goal.returns-then-t-eq0
returns-then-t-eq0 c = signs_low c.requires.0 c.half-h.ensures c.if-t-eq0.true c.range.ensures

pub returns : goal.returns
returns c = signs_high c.requires.0 c.half-h.ensures (c.requires.1 c.if-t-eq0.false) c.range-2.ensures
