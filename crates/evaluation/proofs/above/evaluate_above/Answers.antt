-- `evaluation::above::evaluate_above` meets its contract.
use Rattle.evaluation.specs.inner.Evaluation.{Asked.part}
use Rattle.evaluation.specs.laws.Passing.{alone, due}
use Rattle.evaluation.proofs.above.evaluate_above.Goals as goal

pub returns-then-link-eq0 : goal.returns-then-link-eq0
returns-then-link-eq0 c = alone c.requires (rw c.from-begin.ensures at c.if-link-eq0.true)

pub pass_over-requires : goal.pass_over-requires
pass_over-requires c = rw c.from-begin.ensures (part (due c.requires (rw c.from-begin.ensures at c.if-link-eq0.false)))
