-- A refusal by 1 to 14, or the start.
use Rattle.search.specs.Call.{Called.refuses}
use Rattle.nodes.specs.Problem.{problem}
use Rattle.nodes.specs.laws.Good.{good_of}
use Rattle.search.proofs.Runs.{refused_of}
use Rattle.search.proofs.run.Goals as goal

pub returns-in-Err : goal.returns-in-Err
returns-in-Err c = rw c.from.ensures (refuses _ (refused_of _ _ _ (rw c.in-Err.is at c.lent.ensures.refused)))

pub run_in-requires-2-clause-room : goal.run_in-requires-2-clause-room
unfolding problem
run_in-requires-2-clause-room c = (good_of _ c.in-Ok.accepted.accepted).few
