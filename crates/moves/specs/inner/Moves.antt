-- What the functions of a step and a move ask and answer, in terms of the definitions. (Not needed to read what a run promises.)
use Rattle.std.specs.Prelude.{ℕ, zero, suc, ◌+◌, ◌*◌, ◌^◌, ◌≤◌, ◌<◌, ◌≡◌, Bool, true, false, List, [], ◌∷◌, ◌++◌, length, set, drop, Option, Some, None}
use Rattle.words.specs.Agree.{Agrees}
use Rattle.nodes.specs.Problem.{Prob, pair_lo, pair_hi, problem, evaluate}
use Rattle.picking.specs.declared.spot.Spot.{Spot}
use Rattle.picking.specs.Spot.{at, positions, Fair}
use Rattle.essentials.specs.inner.Marks.{marked}
use Rattle.moves.specs.declared.step.Way.{Way}
use Rattle.moves.specs.declared.turn.Setting.{Setting}
use Rattle.moves.specs.declared.turn.Stop.{Stop}
use Rattle.moves.specs.declared.turn.Turn.{Turn}
use Rattle.moves.specs.declared.tape.Tape.{Tape}
use Rattle.moves.specs.declared.view.Prepared.{Prepared}
use Rattle.evaluation.specs.Readers.{Above}
use Rattle.evaluation.specs.inner.Lists.{Count}
use Rattle.moves.specs.Step.{Out, goes, blocked}
use Rattle.moves.specs.Moves.{End, sets, stuck, short, ClosedRoot, Unsatisfied, Move}
use Rattle.nodes.specs.inner.Good.{Held}
use Rattle.nodes.specs.inner.Nodes.{Filled}

module _ (P : Prob) where
  -- a target of node n agrees with its pair
  abbrev pub Aimed : ℕ → ℕ → Type 0
  Aimed n t = Agrees (pair_lo P n) (pair_hi P n) t

-- ---- step.rt

-- what a pick at position i comes to
abbrev pub out_of : ℕ → Option ℕ → Out
out_of i (Some v) = goes i v
out_of i None = blocked

-- what a step comes to
abbrev pub way_out : Option Way → Out
way_out (Some w) = goes w.position w.value
way_out None = blocked

abbrev pub grown : Bool → List ℕ → ℕ → List ℕ
grown true l i = l ++ (i ∷ [])
grown false l i = l

-- those of the first n positions that m marks, in order
abbrev pub members : ℕ → ℕ → List ℕ
members zero m = []
members (suc n) m = grown (marked m n) (members n m) n

-- of all three positions
unfoldable pub listed : ℕ → List ℕ
listed m = members 3 m

-- the operand at position i is not fully fixed
abbrev pub Open : Spot → ℕ → Type 0
Open S i = at S.los i ≡ at S.his i → ⊥

-- past the positions that the node has, the pairs are fully fixed
abbrev pub FixedPast : Spot → Type 0
FixedPast S = (i : ℕ) → positions S ≤ i → i < 3 → at S.los i ≡ at S.his i

-- what a step is given: where the node has positions, its facts; no open position but those; and a target of its width
pub record Stepping (S : Spot) (t : ℕ) : Type 0 where
  pub fair : 0 < positions S → Fair S
  pub past : FixedPast S
  pub target : t < 2 ^ S.width

-- ---- lib.rt

-- the problem of a move
abbrev pub prob_in : Prepared → Prob
prob_in r = problem r.pairs.problem.bytes.now

-- the code has a place on the tape where the definition has the rest of it
abbrev pub stop_of : Option Setting → ℕ → List ℕ → End
stop_of (Some x) s ws = sets x.node x.value s ws
stop_of None s ws = stuck s ws

abbrev pub end_of : List ℕ → Option Stop → End
end_of tape (Some r) = stop_of r.set r.steps (drop r.next tape)
end_of tape None = short

-- from place `start` with `made` steps made: the next place is on the tape, and each step took two words
abbrev pub Placed : ℕ → ℕ → ℕ → Option Stop → Type 0
Placed size start made (Some r) = (r.next ≤ size) × (r.next + 2 * made ≡ start + 2 * r.steps)
Placed size start made None = Unit {0}

-- values of the nodes of a problem with all its pairs, where no root is fixed at 0
pub record Searching (s los his vs : List ℕ) : Type 0 where
  pub filled : Filled s los his
  pub open_roots : ClosedRoot (problem s) → ⊥
  pub held : Held (problem s) vs

-- a walk: a node that 1 is a target of, and a place on the tape
pub record Walking (r : Prepared) (vs : List ℕ) (tape : Tape) (n made : ℕ) : Type 0 where
  pub held : Held (prob_in r) vs
  pub node : n < (prob_in r).nodes
  pub aimed : Aimed (prob_in r) n 1
  pub made_le : made ≤ tape.at

-- a move: so many root entries are not satisfied, of which one is drawn at place k of the tape, after so many steps
pub record Drawing (r : Prepared) (vs : List ℕ) (tape : Tape) (count made : ℕ) : Type 0 where
  pub held : Held (prob_in r) vs
  pub counted : Count (Unsatisfied (prob_in r) vs) (prob_in r).entries count
  pub some : 0 < count
  pub made_le : made ≤ tape.at

-- a finished move, which sets a variable or none: the values us afterwards, the number r of nodes evaluated, the steps t made so
-- far and the next place l
pub data Finishes (P : Prob) (vs tape : List ℕ) (k made : ℕ) (us : List ℕ) (r t l : ℕ) : Type 0 where
  sets_one : {n v : ℕ} → Move P vs (drop k tape) made (sets n v t (drop l tape)) → us ≡ evaluate P (set vs n v) → Count (Above P n) P.nodes r → Finishes P vs tape k made us r t l
  sets_none : Move P vs (drop k tape) made (stuck t (drop l tape)) → us ≡ vs → r ≡ 0 → Finishes P vs tape k made us r t l

abbrev pub Turned : Prob → List ℕ → List ℕ → ℕ → ℕ → List ℕ → Option Turn → Type 0
Turned P vs tape k made us (Some r) =
    Finishes P vs tape k made us r.above r.steps r.next × (r.next ≤ length tape) × (r.next + 2 * made ≡ k + 1 + 2 * r.steps)
Turned P vs tape k made us None = Move P vs (drop k tape) made short × (us ≡ vs)

-- j is a member below n, and k members are below it
pub record Nth (A : ℕ → Type 0) (n k j : ℕ) : Type 0 where
  pub inside : j < n
  pub member : A j
  pub before : Count A j k
