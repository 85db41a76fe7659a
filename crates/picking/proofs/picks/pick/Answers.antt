-- The members of the set that agree with the pair are the values that are asked for.
use Rattle.picking.proofs.SpotLaws.{wanted_picked}
use Rattle.picking.proofs.picks.pick.Goals as goal

pub returns : goal.returns
returns c =
    wanted_picked c.args.p c.pick_in.result c.requires c.args.values c.set_of.ensures
    (rw (c.at.ensures, c.at-2.ensures) at c.pick_in.ensures)
