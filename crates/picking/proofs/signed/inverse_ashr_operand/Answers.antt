-- Nothing, the box of the shift, or its complements.
use Rattle.boxes.specs.laws.Solves.{solves_none}
use Rattle.picking.proofs.SignedLaws.{operand_none, operand_fits, operand_bounded, operand_same, operand_mirrored}
use Rattle.picking.proofs.signed.inverse_ashr_operand.Goals as goal

pub returns-then-u-w-ne0 : goal.returns-then-u-w-ne0
returns-then-u-w-ne0 c =
    solves_none (operand_none c.requires c.fold-u.ensures c.args.s c.at_most-k.ensures c.if-u-w-ne0.true)

pub shifted-b-requires : goal.shifted-b-requires
shifted-b-requires c =
    operand_fits c.requires c.fold-u.ensures c.args.s c.at_most-k.ensures c.if-u-w-ne0.false

pub returns-then-u-t : goal.returns-then-u-t
returns-then-u-t c =
    rw c.shifted-b.ensures (operand_same c.requires c.fold-u.ensures c.args.s c.at_most-k.ensures c.if-u-w-ne0.false c.if-u-t.true)

pub mirror-requires : goal.mirror-requires
mirror-requires c =
    (c.requires.some, c.requires.wide, rw c.shifted-b.ensures (operand_bounded c.requires c.fold-u.ensures c.args.s c.at_most-k.ensures c.if-u-w-ne0.false))

pub returns : goal.returns
returns c =
    rw (c.mirror.ensures, c.shifted-b.ensures) (operand_mirrored c.requires c.fold-u.ensures c.args.s c.at_most-k.ensures c.if-u-w-ne0.false c.if-u-t.false)
