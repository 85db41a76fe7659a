-- One interval, the upper half, or two ends.
use Rattle.picking.proofs.SignedLaws.{above_low, above_high}
use Rattle.picking.proofs.signed.above.Goals as goal

pub returns-then-s-h : goal.returns-then-s-h
returns-then-s-h c = above_low c.requires c.half-h.ensures c.if-s-h.true c.range.ensures

pub returns : goal.returns
returns c = above_high c.requires c.half-h.ensures c.if-s-h.false c.ends.ensures
