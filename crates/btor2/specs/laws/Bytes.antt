-- The bytes of a state, read again by the problem's own layout: header, nodes and roots are those of the state.
use Rattle.std.specs.Prelude.{◌≡◌, ℕ, zero, suc, ◌+◌, ◌*◌, ◌/◌, ◌%◌, ◌≤◌, ◌<◌, take}
use Rattle.std.proofs.Math.Path.{refl, sym}
use Rattle.std.proofs.Common.{◌∙◌, length-append, take_at, get_or-drop}
use mathlib.Core.List.{List, [], ◌∷◌, ◌++◌, append_assoc}
use native.Mathlib.Omega.{arith}
use Rattle.std.proofs.Math.ListN.{length, get_or, drop}
use Rattle.std.proofs.Math.Seq.{drop-append-add, drop_at}
use Rattle.problem.specs.declared.layout.Node.{Node}
use Rattle.problem.specs.Layout.{le16, le32, le64, version, node_count, root_count, node_of, node_at, root_at}
use Rattle.spelling.specs.Nodes.{invert}
use Rattle.btor2.specs.Conversion.{State, bytes_of}
use Rattle.spelling.specs.Bytes.{little_endian, kind_bytes, field_bytes, pair_bytes, node_bytes, all_nodes, all_roots}
use Rattle.spelling.specs.laws.Written.{node_long, all_long, roots_long}

-- ---- numbers

pub two_bytes : (v : ℕ) → v % 256 + 256 * (v / 256 % 256) ≡ v % 65536
two_bytes v = omega arith

two_more : (v : ℕ) → v / 256 / 256 ≡ v / 65536
two_more v = omega arith

pub four_bytes : (v : ℕ) → v % 65536 + 65536 * (v / 65536 % 65536) ≡ v % 4294967296
four_bytes v = omega arith

four_more : (v : ℕ) → v / 65536 / 65536 ≡ v / 4294967296
four_more v = omega arith

pub eight_bytes : (v : ℕ) → v < 18446744073709551616 → v % 4294967296 + 4294967296 * (v / 4294967296 % 4294967296) ≡ v
eight_bytes v h = omega arith

-- ---- a node

-- every field has its size
pub record Sized (m : Node) : Type 0 where
  pub kind_fits : m.kind < 256
  pub width_fits : m.width < 256
  pub a_fits : m.a < 65536
  pub b_fits : m.b < 65536
  pub c_fits : m.c < 65536
  pub lo_fits : m.lo < 18446744073709551616
  pub hi_fits : m.hi < 18446744073709551616

small16 : (v : ℕ) → v < 65536 → v % 256 + 256 * (v / 256 % 256) ≡ v
small16 v h = omega arith

small8 : (v : ℕ) → v < 256 → v % 256 ≡ v
small8 v h = omega arith

small64 : (v : ℕ) → v < 18446744073709551616
    → ((v % 256 + 256 * (v / 256 % 256)) + 65536 * (v / 256 / 256 % 256 + 256 * (v / 256 / 256 / 256 % 256)))
    + 4294967296
    * ((v / 256 / 256 / 256 / 256 % 256 + 256 * (v / 256 / 256 / 256 / 256 / 256 % 256))
    + 65536 * (v / 256 / 256 / 256 / 256 / 256 / 256 % 256 + 256 * (v / 256 / 256 / 256 / 256 / 256 / 256 / 256 % 256)))
    ≡ v
small64 v h =
    rw (two_bytes v, two_more v, two_bytes (v / 65536), two_more (v / 65536), two_bytes (v / 65536 / 65536), two_more (v / 65536 / 65536), two_bytes (v / 65536 / 65536 / 65536), four_more v, four_bytes v, four_bytes (v / 4294967296))
    (eight_bytes v h)

node_is : (m : Node) (k w a b c lo hi : ℕ) → k ≡ m.kind → w ≡ m.width → a ≡ m.a → b ≡ m.b → c ≡ m.c → lo ≡ m.lo → hi ≡ m.hi
    → ◌≡◌ {A = Node} (record { kind = k; width = w; a = a; b = b; c = c; lo = lo; hi = hi }) m
node_is m k w a b c lo hi e f g h i j l = rw (e, f, g, h, i, j, l)

pub node_read : (m : Node) → Sized m → node_of (node_bytes m) ≡ m
unfolding node_of node_bytes kind_bytes field_bytes pair_bytes little_endian le16 le32 le64
node_read m S =
    node_is m _ _ _ _ _ _ _ (small8 m.kind S.kind_fits) (small8 m.width S.width_fits) (small16 m.a S.a_fits) (small16 m.b S.b_fits)
    (small16 m.c S.c_fits) (small64 m.lo S.lo_fits) (small64 m.hi S.hi_fits)

-- ---- the whole

-- nodes one after the other, whatever follows
part_at : (ns : List Node) (rest : List ℕ) (i : ℕ) → i < length ns → take 24 (drop (24 * i) (all_nodes ns ++ rest)) ≡ node_bytes (get_or ns i (invert 0 0))
unfolding all_nodes
part_at [] rest i h = absurd (omega arith)
part_at (m ∷ ns) rest zero h =
    rw (append_assoc (node_bytes m) (all_nodes ns) rest) (take_at (node_bytes m) (all_nodes ns ++ rest) 24 (node_long m))
part_at (m ∷ ns) rest (suc i) h =
    let z : 24 * suc i ≡ length (node_bytes m) + 24 * i = omega (arith, node_long m) in
    rw (append_assoc (node_bytes m) (all_nodes ns) rest, z, drop-append-add (node_bytes m) (all_nodes ns ++ rest) (24 * i)) (part_at ns rest i (omega arith))

-- roots one after the other
root_part : (rs : List ℕ) (j : ℕ) → j < length rs → get_or rs j 0 < 65536 → le16 (all_roots rs) (2 * j) ≡ get_or rs j 0
unfolding all_roots little_endian le16
root_part [] j h l = absurd (omega arith)
root_part (r ∷ rs) zero h l = small16 r l
root_part (r ∷ rs) (suc j) h l =
    let z : 2 * suc j ≡ suc (suc (2 * j)) = omega arith in
    let y : 2 * suc j + 1 ≡ suc (suc (2 * j + 1)) = omega arith in
    rw (y, z) (root_part rs j (omega arith) l)

-- the header, and what follows it
abbrev header : ℕ → ℕ → List ℕ
header n r = 84 ∷ 66 ∷ 86 ∷ little_endian 2 1 ++ little_endian 2 n ++ little_endian 2 r

header_nine : (n r : ℕ) → length (header n r) ≡ 9
unfolding little_endian
header_nine n r = refl

module _ (σ : State) (fn : length σ.nodes ≤ 1024) (fr : length σ.roots ≤ 256) where
  abbrev s : List ℕ
  s = bytes_of σ

  split : s ≡ header (length σ.nodes) (length σ.roots) ++ (all_nodes σ.nodes ++ all_roots σ.roots)
  unfolding bytes_of
  split = append_assoc (header (length σ.nodes) (length σ.roots)) (all_nodes σ.nodes) (all_roots σ.roots)

  pub mark_t : get_or s 0 0 ≡ 84
  unfolding bytes_of little_endian
  mark_t = refl

  pub mark_b : get_or s 1 0 ≡ 66
  unfolding bytes_of little_endian
  mark_b = refl

  pub mark_v : get_or s 2 0 ≡ 86
  unfolding bytes_of little_endian
  mark_v = refl

  pub version_one : version s ≡ 1
  unfolding bytes_of little_endian le16
  version_one = refl

  pub nodes_told : node_count s ≡ length σ.nodes
  unfolding bytes_of little_endian le16
  nodes_told = small16 (length σ.nodes) (omega arith)

  pub roots_told : root_count s ≡ length σ.roots
  unfolding bytes_of little_endian le16
  roots_told = small16 (length σ.roots) (omega arith)

  pub whole : length s ≡ 9 + 24 * length σ.nodes + 2 * length σ.roots
  whole =
      rw split
      (length-append (header (length σ.nodes) (length σ.roots)) (all_nodes σ.nodes ++ all_roots σ.roots)
      ∙ omega (arith, header_nine (length σ.nodes) (length σ.roots), length-append (all_nodes σ.nodes) (all_roots σ.roots), all_long σ.nodes, roots_long σ.roots))

  past : (k : ℕ) → drop (9 + k) s ≡ drop k (all_nodes σ.nodes ++ all_roots σ.roots)
  past k =
      let z : 9 + k ≡ length (header (length σ.nodes) (length σ.roots)) + k = omega (arith, header_nine (length σ.nodes) (length σ.roots)) in
      rw (split, z) (drop-append-add (header (length σ.nodes) (length σ.roots)) (all_nodes σ.nodes ++ all_roots σ.roots) k)

  pub node_told : (i : ℕ) → i < length σ.nodes → Sized (get_or σ.nodes i (invert 0 0)) → node_at s i ≡ get_or σ.nodes i (invert 0 0)
  unfolding node_at
  node_told i h z = rw (past (24 * i), part_at σ.nodes (all_roots σ.roots) i h) (node_read (get_or σ.nodes i (invert 0 0)) z)

  pub root_told : (j : ℕ) → j < length σ.roots → get_or σ.roots j 0 < 65536 → root_at s j ≡ get_or σ.roots j 0
  unfolding root_at le16
  root_told j h l =
      let p : (k : ℕ) → get_or s (9 + 24 * length σ.nodes + k) 0 ≡ get_or (all_roots σ.roots) k 0 = λ k. at_root k in
      let e : 9 + 24 * node_count s + 2 * j ≡ 9 + 24 * length σ.nodes + 2 * j = omega (arith, nodes_told) in
      let f : (9 + 24 * length σ.nodes + 2 * j) + 1 ≡ 9 + 24 * length σ.nodes + (2 * j + 1) = omega arith in
      rw (e, f, p (2 * j), p (2 * j + 1)) (root_part σ.roots j h l)
    where
      at_root : (k : ℕ) → get_or s (9 + 24 * length σ.nodes + k) 0 ≡ get_or (all_roots σ.roots) k 0
      at_root k =
          let d : drop (9 + 24 * length σ.nodes) s ≡ all_roots σ.roots = past (24 * length σ.nodes) ∙ drop_at (all_nodes σ.nodes) (all_roots σ.roots) (24 * length σ.nodes) (all_long σ.nodes) in
          sym (get_or-drop (9 + 24 * length σ.nodes) s k 0) ∙ rw d
