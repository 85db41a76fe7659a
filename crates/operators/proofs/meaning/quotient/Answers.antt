-- All ones for b = 0, else the quotient.
use Rattle.operators.specs.laws.Arms.{chosen}
use Rattle.operators.proofs.meaning.quotient.Goals as goal

pub returns-then-b-eq0 : goal.returns-then-b-eq0
returns-then-b-eq0 c = rw c.if-b-eq0.true c.ones.ensures

pub returns : goal.returns
returns c = chosen _ _ _ c.if-b-eq0.false
