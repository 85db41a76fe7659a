-- H, and the words for the budget.
use Rattle.tapes.specs.Needed.{Needed.needs as needed}
use Rattle.tapes.proofs.need_of.Goals as goal

pub returns : goal.returns
returns c = rw c.words_for.ensures (needed c.args.problem.accepted c.longest_chain-h.ensures)
