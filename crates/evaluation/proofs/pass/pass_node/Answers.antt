use Rattle.evaluation.specs.laws.Passing.{passed_on}
use Rattle.evaluation.proofs.pass.pass_node.Goals as goal

pub returns : goal.returns
returns c = rw (c.from.ensures, c.from-2.ensures) (passed_on c.taken_at.ensures c.in-Some.is)
