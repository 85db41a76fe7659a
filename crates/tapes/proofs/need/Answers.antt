-- A refusal is the check's.
use Rattle.tapes.specs.Needed.{Needed.refuses}
use Rattle.tapes.proofs.need.Goals as goal

pub returns-in-Err : goal.returns-in-Err
returns-in-Err c = refuses _ c.in-Err.ensures.refused
