-- One interval, the lower half, or two ends.
use Rattle.picking.proofs.SignedLaws.{below_low, below_zero, below_high}
use Rattle.picking.proofs.signed.below.Goals as goal

pub returns-then-s-h : goal.returns-then-s-h
returns-then-s-h c = below_high c.requires c.half-h.ensures c.if-s-h.true c.range.ensures

pub returns-then-s-eq0 : goal.returns-then-s-eq0
returns-then-s-eq0 c = below_zero c.requires c.half-h.ensures c.if-s-h.false c.if-s-eq0.true c.range-then-s-eq0.ensures

pub returns : goal.returns
returns c = below_low c.requires c.half-h.ensures c.if-s-h.false c.if-s-eq0.false c.ends.ensures
