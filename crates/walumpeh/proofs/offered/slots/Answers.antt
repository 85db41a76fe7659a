-- `walumpeh::offered::slots` meets its contract.
use Rattle.walumpeh.proofs.Offers.{slots_law}
use Rattle.walumpeh.proofs.offered.slots.Goals as goal

pub returns : goal.returns
returns c =
    let a = c.standing_at.ensures in
    let b = c.standing_at-2.ensures in
    let d = c.standing_at-3.ensures in
    slots_law c.args.s.now c.args.n c.requires c.placed.result c.placed-2.result c.placed-3.result
    (rw (a.width, a.lo, a.hi, a.value) at c.placed.ensures) (rw (b.width, b.lo, b.hi, b.value) at c.placed-2.ensures)
    (rw (d.width, d.lo, d.hi, d.value) at c.placed-3.ensures)
