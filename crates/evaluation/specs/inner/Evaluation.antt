-- What the pass over the nodes and the functions that are made of it ask and answer, in terms of the definitions.
use Rattle.std.specs.Prelude.{◌≡◌, Bool, true, false, List, ℕ, ◌≤◌, ◌<◌, length, get_or, set}
use Rattle.problem.specs.Layout.{node_at}
use Rattle.problem.specs.Refusals.{Accepted, checked}
use Rattle.nodes.specs.Problem.{problem, Variable, value_of, evaluate}
use Rattle.nodes.specs.Values.{Evaluated, VariablesAgree}
use Rattle.evaluation.specs.Readers.{Reads, Above}
use Rattle.evaluation.specs.inner.Lists.{Count}
use Rattle.nodes.specs.inner.Nodes.{Wanted}
use Rattle.evaluation.specs.inner.Readers.{Indexed}

-- ---- pass.rt

-- what becomes of values and marks at node i, and how many are evaluated
pub data Passed (s : List ℕ) (i : ℕ) (all : Bool) (vs marks : List ℕ) : List ℕ → List ℕ → ℕ → Type 0 where
  renewed :
      {us next : List ℕ} {r : ℕ}
      → Wanted all marks (node_at s i)
      → us ≡ set vs i (value_of (problem s) vs i)
      → next ≡ set marks i 1
      → r ≡ 1
      → Passed s i all vs marks us next r
  left :
      {us next : List ℕ} {r : ℕ} → (Wanted all marks (node_at s i) → ⊥) → us ≡ vs → next ≡ marks → r ≡ 0 → Passed s i all vs marks us next r

-- marks for all nodes, none set
pub record Clear (s marks : List ℕ) : Type 0 where
  pub some : 0 < length marks
  pub room : (problem s).nodes ≤ length marks
  pub none : (k : ℕ) → get_or marks k 0 ≡ 0

-- ---- above.rt

-- an accepted problem s, and a place for each node, where the variables agree with their pairs
pub record Assigned (s vs : List ℕ) : Type 0 where
  pub accepted : checked s ≡ Accepted
  pub places : (problem s).nodes ≤ length vs
  pub agrees : VariablesAgree (problem s) vs

-- values vs in which variable v was set after they were evaluated
pub record Changed (s slots vs : List ℕ) (v : ℕ) : Type 0 where
  pub assigned : Assigned s vs
  pub indexed : Indexed s slots
  pub inside : v < (problem s).nodes
  pub variable : Variable (problem s) v
  pub before : List ℕ
  pub evaluated : Evaluated (problem s) before
  pub value : ℕ
  pub is : vs ≡ set before v value

-- all nodes are evaluated, and r of them lie above v
pub record Renewal (s vs : List ℕ) (v : ℕ) (us : List ℕ) (r : ℕ) : Type 0 where
  pub values : us ≡ evaluate (problem s) vs
  pub count : Count (Above (problem s) v) (problem s).nodes r

-- the same, where `first` is the first node that reads v, and all nodes above v but itself stand before `end`
pub record Due (s vs : List ℕ) (v first end : ℕ) : Type 0 where
  pub slots : List ℕ
  pub changed : Changed s slots vs v
  pub inside : first < (problem s).nodes
  pub reads : Reads (problem s) v first
  pub least : (n : ℕ) → n < first → Reads (problem s) v n → ⊥
  pub most : end ≤ (problem s).nodes
  pub past : (k : ℕ) → v < k → Above (problem s) v k → k < end

-- what a pass over all nodes asks, and one over those above v; and what each answers
pub data Asked (s vs : List ℕ) (v first end : ℕ) : Bool → Type 0 where
  whole : Assigned s vs → v ≡ 0 → first ≡ 0 → end ≡ (problem s).nodes → Asked s vs v first end true
  part : Due s vs v first end → Asked s vs v first end false

pub data Answered (s vs : List ℕ) (v : ℕ) : Bool → List ℕ → ℕ → Type 0 where
  whole : {us : List ℕ} {r : ℕ} → us ≡ evaluate (problem s) vs → Answered s vs v true us r
  part : {us : List ℕ} {r : ℕ} → Renewal s vs v us r → Answered s vs v false us r
