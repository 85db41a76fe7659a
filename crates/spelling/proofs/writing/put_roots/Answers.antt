-- The loop's invariant: i of the roots are put.
use Rattle.std.proofs.Common.{refl, ap, ◌∙◌, arith, length}
use Rattle.std.proofs.Math.Seq.{length-sets}
use Rattle.spelling.specs.laws.Written.{root_none, root_put}
use Rattle.spelling.proofs.writing.put_roots.Goals as goal

pub loop-i-init : goal.loop-i-init
loop-i-init c = (refl, root_none _ _ c.args.rooted.now)

pub loop-i-preserved : goal.loop-i-preserved
loop-i-preserved c = (ap length c.put.ensures ∙ simp length-sets c.loop-i.invariant.0, root_put _ _ _ _ c.loop-i.i _ _ c.args.rooted.now c.loop-i.invariant.1 (omega arith) refl refl (rw c.to_le_bytes.ensures at c.put.ensures))
