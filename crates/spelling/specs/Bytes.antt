-- The bytes of nodes and roots.
use Rattle.std.specs.Prelude.{List, [], ◌∷◌, ◌++◌, ℕ, zero, suc, ◌/◌, ◌%◌}
use Rattle.problem.specs.declared.layout.Node.{Node}

-- a number's lowest n bytes, the lowest first
unfoldable pub little_endian : ℕ → ℕ → List ℕ
little_endian zero v = []
little_endian (suc n) v = v % 256 ∷ little_endian n (v / 256)

-- a node's bytes: kind and width, the fields, lo and hi
unfoldable pub kind_bytes : ℕ → ℕ → List ℕ
kind_bytes kind width = little_endian 1 kind ++ little_endian 1 width

unfoldable pub field_bytes : ℕ → ℕ → ℕ → List ℕ
field_bytes a b c = little_endian 2 a ++ little_endian 2 b ++ little_endian 2 c

unfoldable pub pair_bytes : ℕ → ℕ → List ℕ
pair_bytes lo hi = little_endian 8 lo ++ little_endian 8 hi

unfoldable pub node_bytes : Node → List ℕ
node_bytes n = kind_bytes n.kind n.width ++ field_bytes n.a n.b n.c ++ pair_bytes n.lo n.hi

unfoldable pub all_nodes : List Node → List ℕ
all_nodes [] = []
all_nodes (n ∷ ns) = node_bytes n ++ all_nodes ns

unfoldable pub all_roots : List ℕ → List ℕ
all_roots [] = []
all_roots (r ∷ rs) = little_endian 2 r ++ all_roots rs
