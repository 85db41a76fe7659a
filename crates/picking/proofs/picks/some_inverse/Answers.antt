-- Of xor and add the one value, brought to the spot; of the others the pick.
use Rattle.std.proofs.Common.{refl}
use lib.Bits.{xor_comm}
use Rattle.picking.proofs.ArithmeticLaws.{sum_comm}
use Rattle.picking.proofs.SpotLaws.{wide_arm, both_arm, alike_by, wanted_picked}
use Rattle.picking.specs.declared.picks.Values.TheVariants.{Inverse}
use Rattle.picking.proofs.picks.some_inverse.Goals as goal

pub returns-in-4 : goal.returns-in-4
returns-in-4 c =
    wanted_picked 0 c.pick_only.result c.requires Inverse
    (wide_arm c.requires c.in-4.is refl c.other-y.ensures (alike_by xor_comm c.args.i c.turned.ensures))
    (rw (c.at.ensures, c.at-in-4.ensures) at (c.pick_only.ensures 0))

pub returns-in-5 : goal.returns-in-5
returns-in-5 c =
    wanted_picked 0 c.pick_only-in-5.result c.requires Inverse
    (both_arm c.requires c.in-5.is refl c.other-y.ensures (alike_by (sum_comm c.args.s.width) c.args.i c.difference.ensures))
    (rw (c.at-in-5.ensures, c.at-in-5-2.ensures) at (c.pick_only-in-5.ensures 0))
