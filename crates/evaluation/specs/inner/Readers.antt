-- What the functions of the readers' index ask and answer, in terms of the definitions.
use Rattle.std.specs.Prelude.{◌≡◌, Bool, true, false, not, ◌&&◌, ◌⊎◌, List, [], ◌∷◌, ℕ, zero, suc, ◌+◌, ◌*◌, ◌≤◌, ◌<◌, max, ltb, eqb, length, get_or, set}
use Rattle.problem.specs.declared.layout.Node.{Node}
use Rattle.problem.specs.Refusals.{Accepted, checked}
use Rattle.picking.specs.declared.spot.Three.{Three}
use Rattle.nodes.specs.Problem.{problem, Variable}
use Rattle.nodes.specs.inner.Nodes.{ids, operand_count, operand_at}
use Rattle.evaluation.specs.Readers.{Reads, Above, Index}
use Rattle.evaluation.specs.inner.Lists.{ListsFrom}

-- of three ids, the one at position i stands at no earlier position
abbrev pub fresh : Three → ℕ → Bool
fresh x zero = true
fresh x (suc zero) = not (eqb x.b x.a)
fresh x (suc (suc i)) = not (eqb x.c x.a) && not (eqb x.c x.b)

-- position i of a node with so many operands has a link
unfoldable pub linked : ℕ → Three → ℕ → Bool
linked k x i = ltb i k && fresh x i

abbrev pub links : Node → ℕ → Bool
links n j = linked (operand_count n) (ids n) j

-- slot 4m + 1 is to hold no less than e
unfoldable pub raised : ℕ → ℕ → List ℕ → List ℕ
raised m e slots = set slots (4 * m + 1) (max (get_or slots (4 * m + 1) 0) e)

-- slot p put in front of the chain of m's readers, where there is a link, and slot 4m + 1 raised to e
unfoldable pub in_front : Bool → ℕ → ℕ → ℕ → List ℕ → List ℕ
in_front true m p e slots = set (set (raised m e slots) p (get_or (raised m e slots) (4 * m) 0)) (4 * m) p
in_front false m p e slots = slots

-- a chain all of whose links are slots from q on
pub data ChainFrom (q : ℕ) (slots : List ℕ) : ℕ → List ℕ → Type 0 where
  ends : {at : ℕ} → at ≡ 0 → ChainFrom q slots at []
  link :
      {at i j : ℕ} {l : List ℕ}
      → at ≡ 4 * i + 1 + j
      → j < 3
      → q ≤ at
      → ChainFrom q slots (get_or slots at 0) l
      → ChainFrom q slots at (i ∷ l)

-- a link that can be put there
pub record Linkable (slots : List ℕ) (n : Node) (i j : ℕ) : Type 0 where
  pub few : i < 1024
  pub position : j < 3
  pub own : 4 * i + 4 ≤ length slots
  pub begin : links n j ≡ true → 4 * operand_at n j + 1 < length slots

-- node m has no links in an index of the nodes from i on
abbrev pub Unlinked : List ℕ → ℕ → ℕ → Type 0
Unlinked s i m = (m < i) ⊎ Variable (problem s) m

-- then its slot 4m + 1 tells where what is above it ends: what is above a node from i on that reads it stands before that
pub record Ended (s : List ℕ) (i : ℕ) (slots : List ℕ) (m : ℕ) : Type 0 where
  pub most : get_or slots (4 * m + 1) 0 ≤ (problem s).nodes
  pub past :
      (n k : ℕ)
      → i ≤ n
      → n < (problem s).nodes
      → Reads (problem s) m n
      → Above (problem s) n k
      → k < get_or slots (4 * m + 1) 0

-- of the nodes from i on, those that read m stand in its chain; no slot before theirs is a link
pub record Linking (s : List ℕ) (i : ℕ) (slots : List ℕ) : Type 0 where
  pub accepted : checked s ≡ Accepted
  pub room : 4 * (problem s).nodes ≤ length slots
  pub readers : ℕ → List ℕ
  pub chain : (m : ℕ) → m < (problem s).nodes → ChainFrom (4 * i) slots (get_or slots (4 * m) 0) (readers m)
  pub each : (m : ℕ) → m < (problem s).nodes → ListsFrom (Reads (problem s) m) (problem s).nodes i (readers m)
  pub end : (m : ℕ) → Unlinked s i m → Ended s i slots m

-- four zeros for each node
pub record Unindexed (s slots : List ℕ) : Type 0 where
  pub room : 4 * (problem s).nodes ≤ length slots
  pub none : (k : ℕ) → get_or slots k 0 ≡ 0

-- what the run's working state has beside an accepted problem: the index, and for each variable where what is above it ends
pub record Indexed (s slots : List ℕ) : Type 0 where
  pub room : 4 * (problem s).nodes ≤ length slots
  pub index : Index (problem s) slots
  pub end : (v : ℕ) → Variable (problem s) v → Ended s 0 slots v
