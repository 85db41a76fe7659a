use Rattle.batches.proofs.Many.{Left}
use Rattle.batches.proofs.tape_short.Given as goal

abbrev pub invariant-loop-length : goal.invariant-loop-length
invariant-loop-length l = Left l.tape l.lengths l.left l.length-index
