-- The loop's invariant: of no node below i is a fixed bit contradicted.
use Rattle.models.specs.laws.First.{contradicted_passed}
use Rattle.models.proofs.judging.any_contradicted.Goals as goal

pub loop-i-preserved : goal.loop-i-preserved
loop-i-preserved c =
    let e = c.refuse_if.ensures in
    contradicted_passed _ _ c.loop-i.i _ c.is_contradicted.ensures _ (rw c.from.ensures at e) c.loop-i.invariant _ c.in_ok-refuse_if.was
