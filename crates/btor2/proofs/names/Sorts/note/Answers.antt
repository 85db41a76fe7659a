-- A sort has a width, and there is room for it.
use Rattle.std.proofs.Common.{◌≡◌, length, arith, rules}
use Rattle.btor2.specs.inner.Kept.{same}
use Rattle.btor2.specs.laws.Sorts.{noted_as}
use Rattle.btor2.proofs.names.Sorts.note.Goals as goal

pub returns-then-width-eq0 : goal.returns-then-width-eq0
returns-then-width-eq0 c = same

pub returns : goal.returns
returns c =
    let i : length c.args.self.now.ids ≡ 64 = search rules in
    let w : length c.args.self.now.widths ≡ 64 = search rules in
    rw c.from-at.ensures (noted_as _ _ _ _ _ _ _ c.width_told-width.ensures c.token_walk.ensures c.small_of.ensures c.if-width-eq0.false (omega arith) (omega arith))
