-- Any for 0, or the interval; no product leaves the word.
use Rattle.picking.proofs.DivisionLaws.{dividend_by}
use Rattle.picking.proofs.divisions.inverse_dividend.Goals as goal

pub returns : goal.returns
returns c = dividend_by c.requires.0 c.if-s-eq0.false c.range.ensures
