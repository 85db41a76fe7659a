-- What the inner functions of the run ask and answer, in terms of the definitions. (Not needed to read what the run promises.)
use Rattle.std.specs.Prelude.{ℕ, ◌≤◌, ◌≡◌, Bool, List, length}
use Rattle.words.specs.inner.Decides.{Decides}
use Rattle.nodes.specs.Problem.{problem}
use Rattle.problem.specs.Layout.{node_count}
use Rattle.problem.specs.Refusals.{Accepted, checked}
use Rattle.search.specs.declared.Answer.{Answer}
use Rattle.search.specs.declared.ready.Ready.{Ready}
use Rattle.moves.specs.Moves.{ClosedRoot}
use Rattle.search.specs.Run.{Run}
use Rattle.nodes.specs.inner.Nodes.{Unfilled, Filled}
use Rattle.evaluation.specs.inner.Readers.{Unindexed, Indexed}

-- an accepted problem, and a place for each node
pub record Lent (s vs : List ℕ) : Type 0 where
  pub accepted : checked s ≡ Accepted
  pub places : node_count s ≤ length vs

-- what is worked out of an accepted problem once for all starts: the pairs, the index of readers, and whether a root is fixed at 0
pub record Prepared (s los his slots : List ℕ) (closed : Bool) : Type 0 where
  pub filled : Filled s los his
  pub indexed : Indexed s slots
  pub decided : Decides (ClosedRoot (problem s)) closed

-- that of a `Ready`
abbrev pub Readied : Ready → Type 0
Readied r = Prepared r.pairs.problem.bytes.now r.pairs.los.now r.pairs.his.now r.slots.now r.closed

-- the room for that: a place for each node in two lists, and four zeros for each node in a third
pub record Unprepared (s los his slots : List ℕ) : Type 0 where
  pub unfilled : Unfilled s los his
  pub unindexed : Unindexed s slots

-- the search from values at which all nodes were evaluated: the values and the answer at its end
abbrev pub Searched : List ℕ → List ℕ → List ℕ → ℕ → List ℕ → Answer → Type 0
Searched s vs ws B out a = Run (problem s) B vs ws 0 0 (problem s).nodes out a
