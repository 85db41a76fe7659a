-- The mended file read back: its header and length are the file's, its nodes and roots the file's, moved and renumbered; and a
-- file in order comes back byte for byte.
use Rattle.std.specs.Prelude.{◌≡◌, Bool, ℕ, ◌+◌, ◌*◌, ◌≤◌, ◌<◌, ltb, length, take, drop}
use Rattle.std.proofs.Math.Path.{refl, sym, ap, ap₂}
use Rattle.std.proofs.Common.{◌∙◌, length-take, length-drop, get_or-drop, take-add, take_all, length-take-le}
use Rattle.std.proofs.Math.Bool.{true, false, cond}
use mathlib.Core.List.{List, ◌++◌, append_assoc}
use native.Mathlib.Omega.{arith}
use Rattle.std.proofs.Math.ListN.{get_or, length-append, get_or-append}
use Rattle.std.proofs.Math.Seq.{get_or-take}
use Rattle.problem.specs.declared.layout.Node.{Node}
use Rattle.problem.specs.Layout.{le16, node_count, root_count, node_start, node_of, node_at, root_start, root_at}
use Rattle.problem.specs.inner.Facts.{HeaderFacts}
use Rattle.mending.specs.Order.{operands_of, field, old, new}
use Rattle.mending.specs.inner.Order.{AllPlaced, InOrder}
use Rattle.mending.specs.laws.Order.{old_lt}
use Rattle.mending.specs.Mended.{joined, with_fields, renumbered, moved_bytes, node_bytes, root_bytes, mended}
use Rattle.mending.specs.laws.Joined.{length_joined, part_joined, rejoined, middle, last, back, fielded, fields_node, fields_same, two_bytes, low, high}
use Rattle.mending.specs.laws.InOrder.{in_order_old, in_order_new}

-- a node with its operands renumbered
abbrev pub moved_node : List ℕ → Node → Node
moved_node s n = fielded n (renumbered s n 0) (renumbered s n 1) (renumbered s n 2)

length_fields : (part : List ℕ) (a b c : ℕ) → length part ≡ 24 → length (with_fields part a b c) ≡ 24
unfolding with_fields
length_fields part a b c h = simp (length-append, length-take, length-drop) (omega arith)

module _ (s : List ℕ) (H : HeaderFacts s) where
  part_length : (i : ℕ) → i < node_count s → length (take 24 (drop (node_start i) s)) ≡ 24
  part_length i h = length-take-le 24 (drop (node_start i) s) (let w = H.whole in omega (arith, length-drop (node_start i) s))

  -- ---- where all can be placed
  module _ (few : node_count s ≤ 1024) (all : AllPlaced s) where
    pub node_length : (k : ℕ) → k < node_count s → length (node_bytes s k) ≡ 24
    unfolding node_bytes moved_bytes
    node_length k h = length_fields _ _ _ _ (part_length (old s k) (old_lt s few all k h))

    root_length : (j : ℕ) → j < root_count s → length (root_bytes s j) ≡ 2
    unfolding root_bytes
    root_length j h = refl

    pub nodes_length : length (joined (node_bytes s) (node_count s)) ≡ 24 * node_count s
    nodes_length = length_joined (node_bytes s) 24 (node_count s) node_length

    roots_length : length (joined (root_bytes s) (root_count s)) ≡ 2 * root_count s
    roots_length = length_joined (root_bytes s) 2 (root_count s) root_length

    head_length : length (take 9 s) ≡ 9
    head_length = length-take-le 9 s H.long

    pub length_mended : length (mended s) ≡ length s
    unfolding mended
    length_mended =
        let w = H.whole in
        omega (arith, length-append (take 9 s ++ joined (node_bytes s) (node_count s)) (joined (root_bytes s) (root_count s)), length-append (take 9 s) (joined (node_bytes s) (node_count s)), head_length, nodes_length, roots_length)

    -- ---- the header
    header_byte : (p : ℕ) → p < 9 → get_or (mended s) p 0 ≡ get_or s p 0
    unfolding mended
    header_byte p h =
        ap (λ (l : List ℕ). get_or l p 0) (append_assoc (take 9 s) (joined (node_bytes s) (node_count s)) (joined (root_bytes s) (root_count s)))
        ∙ get_or-append (take 9 s) (joined (node_bytes s) (node_count s) ++ joined (root_bytes s) (root_count s)) 0 p (let l = head_length in omega arith)
        ∙ get_or-take 9 s p 0 h

    header_number : (p : ℕ) → p < 8 → le16 (mended s) p ≡ le16 s p
    unfolding le16
    header_number p h = ap₂ (λ (x y : ℕ). x + 256 * y) (header_byte p (omega arith)) (header_byte (p + 1) (omega arith))

    pub mended_nodes : node_count (mended s) ≡ node_count s
    mended_nodes = header_number 5 (omega arith)

    pub mended_roots : root_count (mended s) ≡ root_count s
    mended_roots = header_number 7 (omega arith)

    pub mended_header : HeaderFacts (mended s)
    mended_header =
        record {
          long = rw length_mended H.long;
          mark_t = header_byte 0 (omega arith) ∙ H.mark_t;
          mark_b = header_byte 1 (omega arith) ∙ H.mark_b;
          mark_v = header_byte 2 (omega arith) ∙ H.mark_v;
          version_one = header_number 3 (omega arith) ∙ H.version_one;
          nodes = rw mended_nodes H.nodes;
          roots = rw mended_roots H.roots;
          whole = length_mended ∙ H.whole ∙ ap₂ (λ (n r : ℕ). 9 + 24 * n + 2 * r) (sym mended_nodes) (sym mended_roots);
        }

    -- ---- the nodes
    node_part : (k : ℕ) → k < node_count s → take 24 (drop (node_start k) (mended s)) ≡ node_bytes s k
    unfolding mended
    node_part k h =
        middle (take 9 s) (joined (node_bytes s) (node_count s)) (joined (root_bytes s) (root_count s)) 9 24 (24 * k) head_length
        (let l = nodes_length in omega arith)
        ∙ part_joined (node_bytes s) 24 (node_count s) node_length k h

    pub mended_node : (k : ℕ) → k < node_count s → node_at (mended s) k ≡ moved_node s (node_at s (old s k))
    unfolding node_at node_bytes moved_bytes
    mended_node k h =
        ap node_of (node_part k h)
        ∙ fields_node (take 24 (drop (node_start (old s k)) s)) _ _ _ (let l = part_length (old s k) (old_lt s few all k h) in omega arith)

    -- ---- the roots
    root_byte : (j e : ℕ) → j < root_count s → e < 2 → get_or (mended s) (root_start s j + e) 0 ≡ get_or (root_bytes s j) e 0
    unfolding mended
    root_byte j e h l =
        let z = joined (root_bytes s) (root_count s) in
        let i : root_start s j + e ≡ (9 + 24 * node_count s) + (2 * j + e) = omega arith in
        ap (λ (p : ℕ). get_or (take 9 s ++ joined (node_bytes s) (node_count s) ++ z) p 0) i
        ∙ last (take 9 s) (joined (node_bytes s) (node_count s)) z (9 + 24 * node_count s) (2 * j + e) (omega (arith, head_length, nodes_length))
        ∙ sym (get_or-drop (2 * j) z e 0)
        ∙ sym (get_or-take 2 (drop (2 * j) z) e 0 l)
        ∙ ap (λ (x : List ℕ). get_or x e 0) (part_joined (root_bytes s) 2 (root_count s) root_length j h)

    root_number : (j : ℕ) → j < root_count s → le16 (mended s) (root_start s j) ≡ new s (root_at s j)
    unfolding le16 root_bytes
    root_number j h =
        ap₂ (λ (x y : ℕ). x + 256 * y) (ap (λ (p : ℕ). get_or (mended s) p 0) (omega arith) ∙ root_byte j 0 h (omega arith)) (root_byte j 1 h (omega arith))
        ∙ back (new s (root_at s j))

    pub mended_root : (j : ℕ) → j < root_count s → root_at (mended s) j ≡ new s (root_at s j)
    unfolding root_at
    mended_root j h = ap (λ (n : ℕ). le16 (mended s) (9 + 24 * n + 2 * j)) mended_nodes ∙ root_number j h

  -- ---- "A file in order comes back byte for byte"
  module _ (few : node_count s ≤ 1024) (ordered : InOrder s) (small : (i : ℕ) → get_or s i 0 < 256) where
    same_field : (n : Node) (p : ℕ) → renumbered s n p ≡ field n p
    unfolding renumbered
    same_field n p = either (ltb p (operands_of n))
      where
        either : (t : Bool) → cond t (new s (field n p)) (field n p) ≡ field n p
        either true = in_order_new s few ordered (field n p)
        either false = refl

    part_small : (i p : ℕ) → p < 8 → get_or (take 24 (drop (node_start i) s)) p 0 < 256
    part_small i p h =
        rw (get_or-take 24 (drop (node_start i) s) p 0 (omega arith), get_or-drop (node_start i) s p 0) (small (node_start i + p))

    same_node : (k : ℕ) → k < node_count s → node_bytes s k ≡ take 24 (drop (9 + 24 * k) s)
    unfolding node_bytes moved_bytes node_at node_of
    same_node k h =
        rw (in_order_old s few ordered k h, same_field (node_at s k) 0, same_field (node_at s k) 1, same_field (node_at s k) 2)
        (fields_same (take 24 (drop (node_start k) s)) (let l = part_length k h in omega arith) (part_small k))

    same_root : (j : ℕ) → j < root_count s → root_bytes s j ≡ take 2 (drop (9 + 24 * node_count s + 2 * j) s)
    unfolding root_bytes root_at le16
    same_root j h =
        let q = root_start s j in
        rw (in_order_new s few ordered (le16 s q), low (get_or s q 0) (get_or s (q + 1) 0) (small q), high (get_or s q 0) (get_or s (q + 1) 0) (small q))
        (two_bytes s q (let w = H.whole in omega arith))

    pub in_order_same : mended s ≡ s
    unfolding mended
    in_order_same =
        let n = node_count s in
        let r = root_count s in
        rw (rejoined s 9 24 (node_bytes s) n same_node, rejoined s (9 + 24 * n) 2 (root_bytes s) r same_root, ← (take-add 9 (24 * n) s), ← (take-add (9 + 24 * n) (2 * r) s))
        (take_all (9 + 24 * n + 2 * r) s (let w = H.whole in omega arith))
