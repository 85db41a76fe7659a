-- The signed least or greatest value of the other serves best.
use Rattle.fixed.specs.laws.Sound.{sign_over_lt, lo_lt}
use Rattle.fixed.specs.Fixed.{pair}
use Rattle.picking.proofs.SignedLaws.{slt_least_by, slt_most_by}
use Rattle.picking.proofs.signed.consistent_slt.Goals as goal

pub inverse_slt-requires : goal.inverse_slt-requires
inverse_slt-requires c =
    let b = c.requires.1 in
    (c.requires.0, record { some = b.some; wide = b.wide; fits = rw c.sign_over.ensures (sign_over_lt c.args.w c.args.pair.hi c.args.pair.lo b.some b.fits) }, c.requires.2)

pub returns-then-from-t : goal.returns-then-from-t
returns-then-from-t c =
    let b = c.requires.1 in
    slt_least_by b.some c.requires.0 (record { ordered = c.args.pair.within; short = b.fits }) (rw c.from.ensures at c.if-from-t.true) c.sign_over.ensures c.inverse_slt.ensures

pub inverse_slt-requires-2 : goal.inverse_slt-requires-2
inverse_slt-requires-2 c =
    let b = c.requires.1 in
    let l = lo_lt {p = pair c.args.pair.lo c.args.pair.hi} c.args.pair.within b.fits in
    (c.requires.0, record { some = b.some; wide = b.wide; fits = rw c.sign_over-2.ensures (sign_over_lt c.args.w c.args.pair.lo c.args.pair.hi b.some l) }, c.requires.2)

pub returns : goal.returns
returns c =
    let b = c.requires.1 in
    slt_most_by b.some c.requires.0 (record { ordered = c.args.pair.within; short = b.fits }) c.requires.2 (rw c.from.ensures at c.if-from-t.false) c.sign_over-2.ensures c.inverse_slt-2.ensures
