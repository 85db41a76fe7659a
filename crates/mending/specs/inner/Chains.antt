-- Who reads each node of a file whose nodes stand in any order, as chains of slots; and the ready nodes as marks.
use Rattle.std.specs.Prelude.{◌≡◌, Bool, true, cond, ◌⊎◌, List, ℕ, suc, ◌+◌, ◌*◌, ◌/◌, ◌%◌, ◌≤◌, ◌<◌, length, get_or, set}
use Rattle.words.specs.inner.Marks.{Marked}
use Rattle.problem.specs.Layout.{node_count, node_at}
use Rattle.problem.specs.inner.Facts.{HeaderFacts}
use Rattle.mending.specs.Order.{operands_of, field, ready, lowest_ready}
use Rattle.mending.specs.inner.Order.{Readable, Inside}

-- ---- readers.rt

-- slot t is an operand of node t div 3, at position t modulo 3, and it names x
pub record Slot (s : List ℕ) (t x : ℕ) : Type 0 where
  pub operand : t % 3 < operands_of (node_at s (t / 3))
  pub names : field (node_at s (t / 3)) (t % 3) ≡ x

-- slot t stands in the chain from `at` on. A chain has each slot's number + 1, and 0 at its end
pub data On (nexts : List ℕ) (t : ℕ) : ℕ → Type 0 where
  here : {at : ℕ} → at ≡ suc t → On nexts t at
  there : {at : ℕ} (a : ℕ) → at ≡ suc a → On nexts t (get_or nexts a 0) → On nexts t at

-- each of the first t slots stands in the chain of the node that it names; a chain goes down
pub record Chained (s : List ℕ) (t : ℕ) (heads nexts : List ℕ) : Type 0 where
  pub heads_long : length heads ≡ 1024
  pub nexts_long : length nexts ≡ 3072
  pub falls : (j : ℕ) → get_or nexts j 0 ≤ j
  pub below : (x : ℕ) → get_or heads x 0 ≤ t
  pub covers : (j x : ℕ) → j < t → Slot s j x → On nexts j (get_or heads x 0)

-- a slot can be put in front of the chain of x
pub record Linkable (operand : Bool) (slot x : ℕ) : Type 0 where
  pub named : operand ≡ true → x < 1024
  pub room : slot < 3072

-- and stands there, if it is an operand
pub record Linked (operand : Bool) (slot x : ℕ) (heads nexts heads' nexts' : List ℕ) : Type 0 where
  pub heads_are : heads' ≡ cond operand (set heads x (slot + 1)) heads
  pub nexts_are : nexts' ≡ cond operand (set nexts slot (get_or heads x 0)) nexts

-- the slots of the nodes below i are in chains
pub record Linking (s : List ℕ) (i : ℕ) (heads nexts : List ℕ) : Type 0 where
  pub header : HeaderFacts s
  pub inside : Inside s
  pub node : i < node_count s
  pub chained : Chained s (3 * i) heads nexts

-- none is
pub record Unlinked (s heads nexts : List ℕ) : Type 0 where
  pub header : HeaderFacts s
  pub inside : Inside s
  pub chained : Chained s 0 heads nexts

-- ---- order.rt

-- the marks are ready nodes, and each ready node is marked, except perhaps those left
pub record Tried (s news : List ℕ) (left : ℕ → Type 0) (marks : List ℕ) : Type 0 where
  pub words : length marks ≡ 16
  pub sound : (j : ℕ) → Marked marks j → (j < node_count s) × (ready s news j ≡ true)
  pub full : (j : ℕ) → j < node_count s → ready s news j ≡ true → Marked marks j ⊎ left j

-- the marks are the ready nodes
abbrev pub Exact : List ℕ → List ℕ → List ℕ → Type 0
Exact s news marks = Tried s news (λ j. ⊥) marks

-- node j is left: a slot of it stands in the chain from `at` on
pub record Pending (nexts : List ℕ) (at j : ℕ) : Type 0 where
  pub slot : ℕ
  pub of : slot / 3 ≡ j
  pub on : On nexts slot at

-- node i can be tried
pub record Triable (s : List ℕ) (i : ℕ) (marks : List ℕ) : Type 0 where
  pub stands : Readable s i
  pub small : i < 1024
  pub words : length marks ≡ 16

-- nothing is marked
pub record Unmarked (s marks : List ℕ) : Type 0 where
  pub header : HeaderFacts s
  pub words : length marks ≡ 16
  pub none : (j : ℕ) → Marked marks j → ⊥

-- the readers of x are left
pub record Waking (s heads nexts news marks : List ℕ) (x : ℕ) : Type 0 where
  pub chained : Chained s (3 * node_count s) heads nexts
  pub node : x < node_count s
  pub tried : Tried s news (Pending nexts (get_or heads x 0)) marks

-- id is the lowest that is ready, and k is its new id
pub record Settling (s heads nexts news marks : List ℕ) (id k : ℕ) : Type 0 where
  pub chained : Chained s (3 * node_count s) heads nexts
  pub places : length news ≡ node_count s
  pub exact : Exact s news marks
  pub lowest : id ≡ lowest_ready s news
  pub number : k < node_count s

pub record Settled (s news : List ℕ) (id k : ℕ) (news' marks' : List ℕ) : Type 0 where
  pub news_are : news' ≡ set news id k
  pub exact : Exact s news' marks'
