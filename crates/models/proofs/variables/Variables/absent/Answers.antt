-- The loop's invariant: the first k variables are marked.
use Rattle.models.specs.laws.First.{unmarked_passed}
use Rattle.models.proofs.variables.Variables.absent.Goals as goal

pub loop-k-preserved : goal.loop-k-preserved
loop-k-preserved c = unmarked_passed _ _ c.loop-k.k _ c.from.ensures _ c.refuse_if.ensures c.loop-k.invariant _ c.in_ok-refuse_if.was
