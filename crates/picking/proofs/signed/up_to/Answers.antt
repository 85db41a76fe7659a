-- Two ends, or one interval.
use Rattle.picking.proofs.SignedLaws.{upto_low, upto_high}
use Rattle.picking.proofs.signed.up_to.Goals as goal

pub returns-then-s-h : goal.returns-then-s-h
returns-then-s-h c = upto_low c.requires c.half-h.ensures c.if-s-h.true c.ends.ensures

pub returns : goal.returns
returns c = upto_high c.requires c.half-h.ensures c.if-s-h.false c.range.ensures
