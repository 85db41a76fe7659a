-- One box more.
use Rattle.std.proofs.Common.{ap, ◌∙◌, subst}
use Rattle.words.specs.Pick.{FirstFrom}
use Rattle.boxes.specs.declared.Box.{Box}
use Rattle.boxes.specs.inner.Boxes.{In, met}
use Rattle.boxes.proofs.UnionLaws.{one_more}
use Rattle.boxes.proofs.unions.first_several.Goals as goal

pub loop-j-preserved : goal.loop-j-preserved
loop-j-preserved c =
    let m = c.meet.ensures ∙ ap (λ (b : Box). met b c.args.pair.lo c.args.pair.hi) c.box_of.ensures in
    rw c.lesser_of-best.ensures
    (one_more c.args.by _ _ _ _ _ _ c.loop-j.invariant (subst (λ (b : Box). FirstFrom (In b) c.args.p c.first_in_box.result) m c.first_in_box.ensures))
