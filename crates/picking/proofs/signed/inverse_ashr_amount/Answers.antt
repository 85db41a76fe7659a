-- By the signs: the amount of lshr, of the words or of their complements, or nothing.
use Rattle.boxes.specs.laws.Solves.{solves_none}
use Rattle.picking.proofs.SignedLaws.{amount_low, amount_up, amount_down, amount_high}
use Rattle.picking.proofs.signed.inverse_ashr_amount.Goals as goal

pub returns-then-t-h : goal.returns-then-t-h
returns-then-t-h c = amount_low c.requires.0 c.half-h.ensures c.if-x-h.true c.inverse_lshr_amount.ensures

pub returns-then-x-h : goal.returns-then-x-h
returns-then-x-h c = solves_none (λ v l. amount_up c.requires.0 c.half-h.ensures c.if-x-h.true c.if-t-h.false v)

pub returns-then-t-h-2 : goal.returns-then-t-h-2
returns-then-t-h-2 c = solves_none (λ v l. amount_down c.requires.0 c.half-h.ensures c.if-x-h.false c.if-t-h-2.true v)

pub returns : goal.returns
returns c =
    amount_high c.requires.0 c.half-h.ensures c.if-x-h.false c.requires.1 c.flip.ensures c.flip-2.ensures c.inverse_lshr_amount-2.ensures
