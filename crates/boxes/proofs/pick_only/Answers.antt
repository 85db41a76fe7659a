-- Where the value is there and agrees it is the pick.
use Rattle.std.specs.Prelude.{◌&&◌}
use Rattle.words.specs.laws.Decides.{decides_yes, decides_and}
use Rattle.boxes.proofs.BoxLaws.{only_at, decides_is}
use Rattle.boxes.proofs.pick_only.Goals as goal

pub returns-then-agrees-there : goal.returns-then-agrees-there
returns-then-agrees-there c =
    let d = decides_and _ _ c.agrees.result c.args.there c.agrees.ensures (decides_is c.args.there) in
    let y = decides_yes _ (c.agrees.result && c.args.there) d c.if-agrees-there.true in
    only_at c.args.c c.args.there c.args.lo c.args.hi y.0 y.1
