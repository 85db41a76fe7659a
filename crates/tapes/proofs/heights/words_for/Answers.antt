-- The words fit.
use Rattle.std.proofs.Common.{arith}
use Rattle.tapes.proofs.Links.{words_fit}
use Rattle.tapes.proofs.heights.words_for.Goals as goal

pub overflow_mul-result-2 : goal.overflow_mul-result-2
overflow_mul-result-2 c = record { fits = rw c.from.ensures (words_fit c.args.budget c.args.h (omega (arith, c.ranges.budget)) c.requires) }
