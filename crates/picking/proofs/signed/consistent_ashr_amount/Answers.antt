-- Any, or as many as keep the highest bit below the sign.
use Rattle.std.proofs.Common.{arith}
use Rattle.boxes.specs.laws.Solves.{solves_all}
use Rattle.picking.proofs.SignedLaws.{own_shift, top_under, some_ashr_amount}
use Rattle.picking.proofs.signed.consistent_ashr_amount.Goals as goal

pub returns-then-u-eq0 : goal.returns-then-u-eq0
returns-then-u-eq0 c = solves_all c.requires.wide c.all.ensures (λ v l. own_shift c.requires c.fold-u.ensures c.if-u-eq0.true v)

pub overflow_sub-w-2 : goal.overflow_sub-w-2
overflow_sub-w-2 c = omega (arith, top_under c.requires c.fold-u.ensures c.top_bit.ensures)

pub overflow_sub-w-3 : goal.overflow_sub-w-3
overflow_sub-w-3 c = omega (arith, top_under c.requires c.fold-u.ensures c.top_bit.ensures)

pub returns : goal.returns
returns c = some_ashr_amount c.requires c.fold-u.ensures c.top_bit.ensures (rw c.from.ensures at c.range.ensures)
