-- 15, or the run.
use Rattle.std.proofs.Common.{sym, ◌∙◌}
use Rattle.words.specs.laws.Decides.{decides_yes, decides_no}
use Rattle.nodes.specs.Problem.{problem}
use Rattle.search.specs.Run.{Whole.closed, Whole.searched}
use Rattle.search.specs.Call.{Called.refuses, Called.runs}
use Rattle.search.proofs.Runs.{refusals_there, agrees_of, begins}
use Rattle.search.proofs.run_one.Goals as goal

pub returns-in-Err : goal.returns-in-Err
returns-in-Err c =
    rw c.from.ensures (refuses _ (refusals_there _ _ c.requires.ready.filled.accepted c.requires.places (sym c.starts_fault.ensures ∙ c.in-Err.is)))

pub evaluate-requires-clause-places : goal.evaluate-requires-clause-places
unfolding problem
evaluate-requires-clause-places c = c.requires.places

pub evaluate-requires-clause-agrees : goal.evaluate-requires-clause-agrees
evaluate-requires-clause-agrees c =
    agrees_of _ _ (refusals_there _ _ c.requires.ready.filled.accepted c.requires.places (sym c.starts_fault.ensures ∙ c.in_default.is))

pub returns-then-ready : goal.returns-then-ready
unfolding problem
returns-then-ready c =
    rw (c.evaluate.ensures, c.settled.ensures, c.begin.ensures, c.node_count.ensures)
    (runs (refusals_there _ _ c.requires.ready.filled.accepted c.requires.places (sym c.starts_fault.ensures ∙ c.in_default.is))
    (closed (decides_yes _ _ c.requires.ready.decided c.if-ready.true)))

pub search-requires-clause-held : goal.search-requires-clause-held
search-requires-clause-held c =
    begins _ _ (refusals_there _ _ c.requires.ready.filled.accepted c.requires.places (sym c.starts_fault.ensures ∙ c.in_default.is)) c.evaluate.ensures

pub returns : goal.returns
returns c =
    runs (refusals_there _ _ c.requires.ready.filled.accepted c.requires.places (sym c.starts_fault.ensures ∙ c.in_default.is))
    (searched (decides_no _ _ c.requires.ready.decided c.if-ready.false) (rw c.evaluate.ensures at c.search.ensures))
