-- All of a sign, or the row of the shifts, or its complements.
use Rattle.std.proofs.Common.{arith}
use Rattle.picking.proofs.SignedLaws.{top_under, row_same, row_mirrored}
use Rattle.picking.proofs.signed.consistent_ashr_operand.Goals as goal

pub overflow_sub-n-2 : goal.overflow_sub-n-2
overflow_sub-n-2 c = omega (arith, top_under c.requires c.fold-u.ensures c.top_bit.ensures)

pub returns-then-u-t : goal.returns-then-u-t
returns-then-u-t c = row_same c.requires c.fold-u.ensures c.top_bit.ensures c.if-u-t.true

pub returns : goal.returns
returns c = row_mirrored c.requires c.fold-u.ensures c.top_bit.ensures c.if-u-t.false
