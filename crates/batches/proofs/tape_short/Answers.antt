-- A length that is more than what is left: the sum is more than the tape.
use Rattle.batches.proofs.Many.{left_short}
use Rattle.batches.proofs.tape_short.Goals as goal

pub returns-then-left-length : goal.returns-then-left-length
returns-then-left-length c = left_short c.loop-length.invariant c.loop-length-test.true c.if-left-length.true
