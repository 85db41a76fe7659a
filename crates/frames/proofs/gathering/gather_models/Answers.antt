-- One start more: a model, or passed over.
use Rattle.words.specs.laws.Decides.{decides_yes, decides_no}
use Rattle.frames.specs.laws.Gathering.{going_none, going_passed, going_model}
use Rattle.frames.proofs.gathering.gather_models.Goals.{then-is_model, else-is_model}
use Rattle.frames.proofs.gathering.gather_models.Goals as goal

pub loop-k-init : goal.loop-k-init
loop-k-init c = going_none _ _ _ _ _

pub loop-k-preserved : goal.loop-k-preserved
loop-k-preserved c =
    let m = c.args.made in
    elim c.if-is_model.branch [
      | then-is_model w ↦ rw (w.kept-is, w.tally-is) (going_model m.few m.values_there c.requires c.loop-k.invariant c.loop-k-test.true (decides_yes _ _ c.is_model.ensures w.if-is_model.true) (rw w.solution.ensures at w.take_model-tally.ensures))
      | else-is_model w ↦ rw (w.kept-is, w.tally-is) (going_passed m.few m.values_there c.requires c.loop-k.invariant c.loop-k-test.true (decides_no _ _ c.is_model.ensures w.if-is_model.false))
    ]
