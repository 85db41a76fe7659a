-- Laws of nodes and roots put into bytes one after the other.
use Rattle.std.specs.Prelude.{◌≡◌, refl, List, [], ◌∷◌, ◌++◌, ℕ, ◌+◌, ◌*◌, ◌≤◌, ◌<◌, length, get_or, take, drop, set}
use Rattle.std.proofs.Common.{sym, ap, ◌∙◌, append_assoc, append-nil, arith, add-one, zero-add, length-append, take_all, drop-drop, take-suc, take_at, length-take-le}
use Rattle.std.specs.Int.{w16, to_le_bytes}
use Rattle.std.proofs.lemmas.List.Edits.{sets, sets-eq}
use borrow.Rule.Slice.PartMut.{put_mid}
use Rattle.problem.specs.declared.layout.Node.{Node}
use Rattle.spelling.specs.Nodes.{invert}
use Rattle.spelling.specs.Bytes.{node_bytes, all_nodes, kind_bytes, field_bytes, little_endian, all_roots}
use Rattle.spelling.specs.laws.Byte.{Run, sets_append, then_put, put_run, low_bytes, low_run, kind_long, fields_long, pair_long}
use Rattle.spelling.specs.inner.Written.{header_bytes}

-- ---- nodes put one after the other

pub node_long : (m : Node) → length (node_bytes m) ≡ 24
unfolding node_bytes
node_long m =
    length-append (kind_bytes m.kind m.width ++ field_bytes m.a m.b m.c) _
    ∙ rw (length-append (kind_bytes m.kind m.width) (field_bytes m.a m.b m.c), kind_long m.kind m.width, fields_long m.a m.b m.c, pair_long m.lo m.hi)

pub all_long : (ns : List Node) → length (all_nodes ns) ≡ 24 * length ns
unfolding all_nodes
all_long [] = refl
all_long (m ∷ ns) = length-append (node_bytes m) (all_nodes ns) ∙ omega (arith, node_long m, all_long ns)

pub all_append : (ms ns : List Node) → all_nodes (ms ++ ns) ≡ all_nodes ms ++ all_nodes ns
unfolding all_nodes
all_append [] ns = refl
all_append (m ∷ ms) ns = rw (all_append ms ns) (sym (append_assoc (node_bytes m) (all_nodes ms) (all_nodes ns)))

all_one : (m : Node) → all_nodes (m ∷ []) ≡ node_bytes m
unfolding all_nodes
all_one m = append-nil (node_bytes m)

-- j of the nodes ns are put from place 24 n on; then one more
pub nodes_turn : (l₀ l₁ l₂ : List ℕ) (n j at : ℕ) (ns : List Node) (m : Node)
    → l₁ ≡ sets l₀ (24 * n) (all_nodes (take j ns))
    → j < length ns
    → m ≡ get_or ns j (invert 0 0)
    → at ≡ 24 * (n + j)
    → l₂ ≡ sets l₁ at (node_bytes m)
    → l₂ ≡ sets l₀ (24 * n) (all_nodes (take (j + 1) ns))
nodes_turn l₀ l₁ l₂ n j at ns m e h q a f =
    let z : length (all_nodes (take j ns)) ≡ 24 * j = all_long (take j ns) ∙ ap (λ (i : ℕ). 24 * i) (length-take-le j ns (omega arith)) in
    let w : at ≡ 24 * n + length (all_nodes (take j ns)) = omega arith in
    let y : all_nodes (take j ns) ++ node_bytes m ≡ all_nodes (take (j + 1) ns) =
    rw (add-one, take-suc ns j (invert 0 0) h, all_append (take j ns) (get_or ns j (invert 0 0) ∷ []), all_one (get_or ns j (invert 0 0)), q) in
    f ∙ rw (w, e, sets_append (all_nodes (take j ns)) (node_bytes m) l₀ (24 * n)) (ap (λ xs. sets l₀ (24 * n) xs) y)

pub nodes_none : (l : List ℕ) (n : ℕ) (ns : List Node) → l ≡ sets l (24 * n) (all_nodes (take 0 ns))
unfolding all_nodes
nodes_none l n ns = refl

-- ---- roots and bytes put one after the other

pub root_none : (l : List ℕ) (at : ℕ) (rs : List ℕ) → l ≡ sets l at (all_roots (take 0 rs))
unfolding all_roots
root_none l at rs = refl

roots_append : (ms ns : List ℕ) → all_roots (ms ++ ns) ≡ all_roots ms ++ all_roots ns
unfolding all_roots
roots_append [] ns = refl
roots_append (m ∷ ms) ns = rw (roots_append ms ns) (sym (append_assoc (little_endian 2 m) (all_roots ms) (all_roots ns)))

roots_one : (m : ℕ) → all_roots (m ∷ []) ≡ little_endian 2 m
unfolding all_roots
roots_one m = append-nil (little_endian 2 m)

pub roots_long : (rs : List ℕ) → length (all_roots rs) ≡ 2 * length rs
unfolding all_roots little_endian
roots_long [] = refl
roots_long (r ∷ rs) = omega (arith, roots_long rs)

pub root_put : (l₀ l₁ l₂ : List ℕ) (from j at v : ℕ) (rs : List ℕ)
    → l₁ ≡ sets l₀ from (all_roots (take j rs))
    → j < length rs
    → v ≡ get_or rs j 0
    → at ≡ from + 2 * j
    → l₂ ≡ sets l₁ at (to_le_bytes w16 v)
    → l₂ ≡ sets l₀ from (all_roots (take (j + 1) rs))
root_put l₀ l₁ l₂ from j at v rs e h q a f =
    let z : length (all_roots (take j rs)) ≡ 2 * j = roots_long (take j rs) ∙ ap (λ (i : ℕ). 2 * i) (length-take-le j rs (omega arith)) in
    let w : at ≡ from + length (all_roots (take j rs)) = omega arith in
    let y : all_roots (take j rs) ++ little_endian 2 v ≡ all_roots (take (j + 1) rs) =
    rw (add-one, take-suc rs j 0 h, roots_append (take j rs) (get_or rs j 0 ∷ []), roots_one (get_or rs j 0), q) in
    f ∙ ap (λ bs. sets l₁ at bs) (low_bytes 2 v) ∙ rw (w, e, sets_append (all_roots (take j rs)) (little_endian 2 v) l₀ from) (ap (λ xs. sets l₀ from xs) y)

-- what a put leaves in front and what it adds
pub prefix_grows : (l xs : List ℕ) (n : ℕ) → n + length xs ≤ length l → take (n + length xs) (sets l n xs) ≡ take n l ++ xs
prefix_grows l xs n h =
    rw (sets-eq xs l n h)
    (take_at (take n l ++ xs) (drop (n + length xs) l) (n + length xs) (length-append (take n l) xs ∙ rw (length-take-le n l (omega arith))))

-- all of them
pub nodes_all : (l₀ l : List ℕ) (n j : ℕ) (ns : List Node) → l ≡ sets l₀ (24 * n) (all_nodes (take j ns)) → length ns ≤ j
    → l ≡ sets l₀ (24 * n) (all_nodes ns)
nodes_all l₀ l n j ns e h = rw (take_all j ns h) at e

-- the header's mark and three numbers
pub header_put : (l₀ l₁ l₂ l₃ l₄ : List ℕ) (nodes roots : ℕ)
    → l₁ ≡ sets l₀ 0 (84 ∷ 66 ∷ 86 ∷ [])
    → l₂ ≡ sets l₁ 3 (to_le_bytes w16 1)
    → l₃ ≡ sets l₂ 5 (to_le_bytes w16 nodes)
    → l₄ ≡ sets l₃ 7 (to_le_bytes w16 roots)
    → l₄ ≡ sets l₀ 0 (header_bytes nodes roots)
unfolding header_bytes little_endian
header_put l₀ l₁ l₂ l₃ l₄ nodes roots e f g h =
    (then_put l₄ (then_put l₃ (then_put l₂ (put_run l₀ l₁ 0 3 5653076 e) (low_run l₁ l₂ 3 2 1 f)) (low_run l₂ l₃ 5 2 nodes g)) (low_run l₃ l₄ 7 2 roots h)
    ).filled

-- header, nodes and roots
header_long : (nodes roots : ℕ) → length (header_bytes nodes roots) ≡ 9
unfolding header_bytes little_endian
header_long nodes roots = refl

pub write_run : (out l₁ l₂ l₃ bytes rooted : List ℕ) (nodes roots : ℕ)
    → 24 * nodes ≤ length bytes
    → l₁ ≡ sets out 0 (header_bytes nodes roots)
    → l₂ ≡ sets l₁ 9 (take (24 * nodes) bytes)
    → l₃ ≡ sets l₂ (9 + 24 * nodes) (all_roots (take roots rooted))
    → l₃ ≡ sets out 0 (header_bytes nodes roots ++ take (24 * nodes) bytes ++ all_roots (take roots rooted))
write_run out l₁ l₂ l₃ bytes rooted nodes roots h e f g =
    let r₁ : Run out 0 9 l₁ (header_bytes nodes roots) = record { filled = e; long = header_long nodes roots } in
    let r₂ : Run l₁ (0 + 9) (24 * nodes) l₂ (take (24 * nodes) bytes) = record { filled = f; long = length-take-le (24 * nodes) bytes h } in
    let r₃ : Run l₂ (0 + (9 + 24 * nodes)) (length (all_roots (take roots rooted))) l₃ (all_roots (take roots rooted)) = record { filled = g ∙ rw (zero-add (9 + 24 * nodes)); long = refl } in
    (then_put l₃ (then_put l₂ r₁ r₂) r₃).filled

-- a part of the lent bytes written over
pub mid_sets : (out ys : List ℕ) (at k : ℕ) → at + length ys ≤ length out → k ≡ length ys → put_mid at k out ys ≡ sets out at ys
mid_sets out ys at k h e = rw e (rw (drop-drop (length ys) at out) (sym (append_assoc (take at out) ys (drop (at + length ys) out)) ∙ sym (sets-eq ys out at h)))

-- a list copied word by word: a turn
pub copy_turn : (l₀ l₁ : List ℕ) (from j at : ℕ) (s : List ℕ)
    → l₁ ≡ sets l₀ from (take j s)
    → j < length s
    → at ≡ from + j
    → set l₁ at (get_or s j 0) ≡ sets l₀ from (take (j + 1) s)
copy_turn l₀ l₁ from j at s e h a =
    let w : at ≡ from + length (take j s) = omega (arith, length-take-le j s (omega arith)) in
    let y : take j s ++ get_or s j 0 ∷ [] ≡ take (j + 1) s = rw (add-one, take-suc s j 0 h) in
    rw (w, e) (sets_append (take j s) (get_or s j 0 ∷ []) l₀ from ∙ ap (λ xs. sets l₀ from xs) y)

-- ---- the same by the definition of a number's bytes

pub roots_turn : (l₀ l₁ l₂ : List ℕ) (from j at v : ℕ) (rs : List ℕ)
    → l₁ ≡ sets l₀ from (all_roots (take j rs))
    → j < length rs
    → v ≡ get_or rs j 0
    → at ≡ from + 2 * j
    → l₂ ≡ sets l₁ at (little_endian 2 v)
    → l₂ ≡ sets l₀ from (all_roots (take (j + 1) rs))
roots_turn l₀ l₁ l₂ from j at v rs e h q a f =
    let z : length (all_roots (take j rs)) ≡ 2 * j = roots_long (take j rs) ∙ ap (λ (i : ℕ). 2 * i) (length-take-le j rs (omega arith)) in
    let w : at ≡ from + length (all_roots (take j rs)) = omega arith in
    let y : all_roots (take j rs) ++ little_endian 2 v ≡ all_roots (take (j + 1) rs) =
    rw (add-one, take-suc rs j 0 h, roots_append (take j rs) (get_or rs j 0 ∷ []), roots_one (get_or rs j 0), q) in
    f ∙ rw (w, e, sets_append (all_roots (take j rs)) (little_endian 2 v) l₀ from) (ap (λ xs. sets l₀ from xs) y)

-- the header's four numbers
pub header_run : (l₀ l₁ l₂ l₃ l₄ : List ℕ) (nodes roots : ℕ)
    → l₁ ≡ sets l₀ 0 (little_endian 3 5653076)
    → l₂ ≡ sets l₁ 3 (little_endian 2 1)
    → l₃ ≡ sets l₂ 5 (little_endian 2 nodes)
    → l₄ ≡ sets l₃ 7 (little_endian 2 roots)
    → l₄ ≡ sets l₀ 0 (header_bytes nodes roots)
unfolding header_bytes
header_run l₀ l₁ l₂ l₃ l₄ nodes roots e f g h =
    (then_put l₄ (then_put l₃ (then_put l₂ (put_run l₀ l₁ 0 3 5653076 e) (put_run l₁ l₂ 3 2 1 f)) (put_run l₂ l₃ 5 2 nodes g)) (put_run l₃ l₄ 7 2 roots h)
    ).filled
