-- The slots first, as the width rule asks for them.
use Rattle.walumpeh.proofs.Offers.{shaped_law}
use Rattle.words.specs.laws.Decides.{decides_yes}
use Rattle.walumpeh.proofs.offered.shaped.Goals as goal

pub returns-then-slots : goal.returns-then-slots
returns-then-slots c =
    let a = c.args in
    rw c.from.ensures
    (shaped_law a.s.now a.i a.t a.shape c.requires.0 c.requires.1 (decides_yes _ _ c.slots.ensures c.if-slots.true)
    c.ruled.result c.fits.result c.ruled.ensures (rw c.from-then-slots.ensures at c.fits.ensures))
