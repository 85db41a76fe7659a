-- What the functions that find the order ask and promise of each other.
use Rattle.std.specs.Prelude.{◌≡◌, true, List, ℕ, ◌+◌, ◌*◌, ◌≤◌, ◌<◌, length}
use Rattle.problem.specs.declared.layout.Node.{Node}
use Rattle.problem.specs.Layout.{node_count, node_at}
use Rattle.mending.specs.Order.{operands_of, field, placed, numbers}

-- node i stands in the bytes s
abbrev pub Readable : List ℕ → ℕ → Type 0
Readable s i = 9 + 24 * i + 24 ≤ length s

-- every operand of a node is placed
unfoldable pub Met : List ℕ → Node → Type 0
Met l n = (p : ℕ) → p < operands_of n → placed l (field n p) ≡ true

-- node i reads node x
pub record Reads (s : List ℕ) (i x : ℕ) : Type 0 where
  pub position : ℕ
  pub below : position < operands_of (node_at s i)
  pub is : field (node_at s i) position ≡ x

-- every operand id is one of a node: 21 is not given
unfoldable pub Inside : List ℕ → Type 0
Inside s = (i : ℕ) → i < node_count s → (p : ℕ) → p < operands_of (node_at s i) → field (node_at s i) p < node_count s

-- every operand's id is below its reader's: 9 is not given
unfoldable pub InOrder : List ℕ → Type 0
InOrder s = (i : ℕ) → i < node_count s → (p : ℕ) → p < operands_of (node_at s i) → field (node_at s i) p < i

-- every old id is placed in the end: 22 is not given
unfoldable pub AllPlaced : List ℕ → Type 0
AllPlaced s = (i : ℕ) → i < node_count s → placed (numbers s (node_count s)) i ≡ true
