-- One interval, or two ends.
use Rattle.picking.proofs.SignedLaws.{from_low, from_high}
use Rattle.picking.proofs.signed.from.Goals as goal

pub returns-then-s-h : goal.returns-then-s-h
returns-then-s-h c = from_low c.requires c.half-h.ensures c.if-s-h.true c.range.ensures

pub returns : goal.returns
returns c = from_high c.requires c.half-h.ensures c.if-s-h.false c.ends.ensures
