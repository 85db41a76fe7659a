-- One computed test; there are few positions, so that the place is within the number.
use Rattle.std.proofs.Common.{arith}
use Rattle.moves.proofs.Steps.{few_listed, place_is}
use Rattle.moves.proofs.step.numbered.Goals as goal

pub overflow_cast-result : goal.overflow_cast-result
overflow_cast-result c = omega (arith, few_listed _ c.requires.0)

pub overflow_mul-result-2 : goal.overflow_mul-result-2
overflow_mul-result-2 c = omega (arith, few_listed _ c.requires.0)

pub overflow_add-result : goal.overflow_add-result
overflow_add-result c = omega (arith, few_listed _ c.requires.0)

pub overflow_cast-result-2 : goal.overflow_cast-result-2
overflow_cast-result-2 c = omega (arith, few_listed _ c.requires.0)

pub overflow_shr-result : goal.overflow_shr-result
overflow_shr-result c = omega (arith, few_listed _ c.requires.0)

pub returns : goal.returns
returns c = place_is _ _ c.requires.0 c.requires.1
