-- Request R-12, what is written: nodes in the new order with their operands renumbered, roots renumbered in their places,
-- the header as it was; and the map.
use Rattle.std.specs.Prelude.{cond, List, [], ◌∷◌, ◌++◌, ℕ, zero, suc, ◌/◌, ◌%◌, ltb, take, drop}
use Rattle.problem.specs.declared.layout.Node.{Node}
use Rattle.problem.specs.Layout.{node_count, root_count, node_start, node_at, root_at}
use Rattle.mending.specs.Order.{operands_of, field, old, new}

-- the two bytes of a number of 16 bits
abbrev pub bytes16 : ℕ → List ℕ
bytes16 v = v % 256 ∷ v / 256 ∷ []

-- f 0, f 1, .., f (n - 1), one after the other
unfoldable pub joined : (ℕ → List ℕ) → ℕ → List ℕ
joined f zero = []
joined f (suc n) = joined f n ++ f n

-- a node's 24 bytes with the fields a, b, c given anew
unfoldable pub with_fields : List ℕ → ℕ → ℕ → ℕ → List ℕ
with_fields part a b c = take 2 part ++ bytes16 a ++ bytes16 b ++ bytes16 c ++ drop 8 part

module _ (s : List ℕ) where
  -- a node's field at a position, renumbered where it names an operand
  unfoldable pub renumbered : Node → ℕ → ℕ
  renumbered n p = cond (ltb p (operands_of n)) (new s (field n p)) (field n p)

  -- the bytes of old node i in the mended file
  unfoldable pub moved_bytes : ℕ → List ℕ
  moved_bytes i =
      with_fields (take 24 (drop (node_start i) s)) (renumbered (node_at s i) 0) (renumbered (node_at s i) 1)
      (renumbered (node_at s i) 2)

  unfoldable pub node_bytes : ℕ → List ℕ
  node_bytes k = moved_bytes (old s k)

  unfoldable pub root_bytes : ℕ → List ℕ
  root_bytes j = bytes16 (new s (root_at s j))

  -- "renumbers operands and roots": the mended file
  unfoldable pub mended : List ℕ
  mended = take 9 s ++ joined node_bytes (node_count s) ++ joined root_bytes (root_count s)

  -- "and writes, for each new id, the old id": the map
  unfoldable pub old_ids : List ℕ
  old_ids = joined (λ k. old s k ∷ []) (node_count s)
