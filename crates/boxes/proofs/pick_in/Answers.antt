-- Variant by variant.
use mathlib.Core.Path.{subst}
use Rattle.words.specs.Pick.{Picked}
use Rattle.boxes.specs.inner.Boxes.{In}
use Rattle.boxes.specs.declared.Box.{Box}
use Rattle.boxes.proofs.BoxLaws.{one_picked}
use Rattle.boxes.proofs.pick_in.Goals as goal

pub returns-in-Only : goal.returns-in-Only
returns-in-Only c = rw c.in-Only.is (c.pick_only.ensures c.args.p)

pub returns-in-One : goal.returns-in-One
returns-in-One c =
    rw c.in-One.is
    (one_picked _ c.args.pair.lo c.args.pair.hi c.args.p c.pick_in_box.result
    (subst (λ (b : Box). Picked (In b) c.args.p c.pick_in_box.result) c.meet.ensures c.pick_in_box.ensures))
