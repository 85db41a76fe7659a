-- Loops that place nodes, and that lay the mended file piece by piece: what a turn adds, and what stands at the end.
use mathlib.Core.Path.{◌≡◌, refl, sym, ap, ap₂, ◌∙◌}
use mathlib.Core.Bool.{cond, not}
use mathlib.Core.List.{List, [], ◌∷◌, ◌++◌}
use Prim.Native.Nat.{ℕ, ◌+◌, ◌-◌, ◌*◌, ◌≤◌, ◌<◌}
use native.Mathlib.Numerals.{add-one}
use native.Mathlib.Omega.{arith}
use lib.Dec.{ltb}
use lib.ListN.{length, get_or, set, take, drop, length-append, length-drop}
use lib.Seq.{length-take-le, take_all, take_at}
use Rattle.problem.specs.Refusals.{Checked, Accepted, ◌then◌, refusal, checked}
use Rattle.problem.specs.laws.First.{line_at_start, line_more}
use Rattle.problem.specs.declared.layout.Node.{Node}
use Rattle.problem.specs.Layout.{node_count, root_count, node_start, node_at, root_at}
use Rattle.problem.specs.inner.Facts.{HeaderFacts}
use Rattle.mending.specs.Order.{least, operands_of, placed, never_placed, lowest_ready, numbers, old, new}
use Rattle.mending.specs.Mended.{bytes16, joined, with_fields, renumbered, node_bytes, root_bytes, moved_bytes, mended, old_ids}
use Rattle.mending.specs.inner.Laid.{laid}
use Rattle.mending.specs.Refusals.{circle_fault, at_old, mended_fault}
use Rattle.mending.specs.inner.Order.{AllPlaced}
use Rattle.mending.specs.laws.Order.{numbers_next, old_lt}
use Rattle.mending.specs.laws.Joined.{length_joined, singles_length, single_at}
use Rattle.mending.specs.laws.Laid.{length_laid, laid_piece, laid_then, laid_front, laid_whole}
use Rattle.mending.specs.laws.Mended.{node_length, nodes_length, length_mended}
use Rattle.mending.specs.inner.Mending.{Placed}

-- what is laid changes no length
pub kept : (b c xs : List ℕ) (i : ℕ) → c ≡ laid b i xs → length c ≡ length b
kept b c xs i e = ap length e ∙ length_laid b i xs

pub all_laid :
    (b c : List ℕ) (f : ℕ → List ℕ) (i i' k k' : ℕ) → c ≡ laid b i (joined f k) → i ≡ i' → k ≡ k' → c ≡ laid b i' (joined f k')
all_laid b c f i i' k k' e p q = e ∙ ap₂ (λ (m n : ℕ). laid b m (joined f n)) p q

-- ---- placing
abbrev pub ids : List ℕ → ℕ → List ℕ
ids s k = joined (λ j. old s j ∷ []) k

length_ids : (s : List ℕ) (k : ℕ) → length (ids s k) ≡ k
length_ids s k = singles_length (old s) k

pub numbers_turn :
    (s news after : List ℕ) (k id : ℕ)
    → news ≡ numbers s k
    → id ≡ lowest_ready s news
    → after ≡ set news id k
    → after ≡ numbers s (k + 1)
unfolding old
numbers_turn s news after k id e f g =
    let h : id ≡ old s k = f ∙ ap (lowest_ready s) e in
    g ∙ ap₂ (λ (l : List ℕ) (i : ℕ). set l i k) e h ∙ sym (ap (numbers s) (add-one k) ∙ numbers_next s k)

pub olds_turn :
    (s news olds olds₀ : List ℕ) (k id : ℕ)
    → news ≡ numbers s k
    → id ≡ lowest_ready s news
    → olds ≡ laid olds₀ 0 (ids s k)
    → set olds k id ≡ laid olds₀ 0 (ids s (k + 1))
unfolding laid old
olds_turn s news olds olds₀ k id e f g =
    ap (set olds k) (f ∙ ap (lowest_ready s) e) ∙ laid_piece olds₀ olds (λ j. old s j ∷ []) 0 k k g (omega (arith, length_ids s k))

pub placed_end :
    (s news olds olds₀ : List ℕ) (k : ℕ)
    → k ≡ node_count s
    → length olds₀ ≡ node_count s
    → news ≡ numbers s k
    → olds ≡ laid olds₀ 0 (ids s k)
    → Placed s news olds
unfolding old_ids
placed_end s news olds olds₀ k q l e g =
    record {
      news_are = e ∙ ap (numbers s) q;
      olds_are = g ∙ laid_whole olds₀ (ids s k) (length_ids s k ∙ q ∙ sym l) ∙ ap (ids s) q;
    }

-- the map read back
pub id_at : (s : List ℕ) (n k : ℕ) → k < n → get_or (ids s n) k 0 ≡ old s k
id_at s = single_at (old s)

-- ---- the roots
pub root_turn :
    (s news out₀ out after : List ℕ) (start j q id : ℕ)
    → news ≡ numbers s (node_count s)
    → q ≡ root_at s j
    → id ≡ get_or news q q
    → out ≡ laid out₀ start (joined (root_bytes s) j)
    → after ≡ laid out (start + 2 * j) (bytes16 id)
    → after ≡ laid out₀ start (joined (root_bytes s) (j + 1))
unfolding new root_bytes
root_turn s news out₀ out after start j q id e f g h a =
    let w : id ≡ new s (root_at s j) = g ∙ ap₂ (λ (l : List ℕ) (x : ℕ). get_or l x x) e f in
    a ∙ ap (λ (v : ℕ). laid out (start + 2 * j) (bytes16 v)) w
    ∙ laid_piece out₀ out (root_bytes s) start j (start + 2 * j) h (ap (λ (n : ℕ). start + n) (length_joined (root_bytes s) 2 j (λ k l. refl)))

-- ---- the nodes
pub node_turn :
    (s olds out₀ out after : List ℕ) (k i : ℕ)
    → HeaderFacts s
    → AllPlaced s
    → olds ≡ old_ids s
    → k < node_count s
    → i ≡ get_or olds k 0
    → out ≡ laid out₀ 9 (joined (node_bytes s) k)
    → after ≡ laid out (9 + 24 * k) (moved_bytes s i)
    → after ≡ laid out₀ 9 (joined (node_bytes s) (k + 1))
unfolding node_bytes old_ids
node_turn s olds out₀ out after k i H all e l f h a =
    let w : i ≡ old s k = f ∙ ap (λ (x : List ℕ). get_or x k 0) e ∙ id_at s (node_count s) k l in
    a ∙ ap (λ (o : ℕ). laid out (9 + 24 * k) (moved_bytes s o)) w
    ∙ laid_piece out₀ out (node_bytes s) 9 k (9 + 24 * k) h
    (ap (λ (n : ℕ). 9 + n) (length_joined (node_bytes s) 24 k (λ j b. node_length s H H.nodes all j (omega arith))))

-- a node's bytes, piece by piece
pub fields_laid :
    (part b c₁ c₂ c₃ c₄ after : List ℕ) (at x y z : ℕ)
    → length part ≡ 24
    → c₁ ≡ laid b at (take 2 part)
    → c₂ ≡ laid c₁ (at + 2) (bytes16 x)
    → c₃ ≡ laid c₂ (at + 4) (bytes16 y)
    → c₄ ≡ laid c₃ (at + 6) (bytes16 z)
    → after ≡ laid c₄ (at + 8) (take (length part - 8) (drop 8 part))
    → after ≡ laid b at (with_fields part x y z)
unfolding with_fields
fields_laid part b c₁ c₂ c₃ c₄ after at x y z l e₁ e₂ e₃ e₄ e₅ =
    let h : length (take 2 part) ≡ 2 = length-take-le 2 part (omega arith) in
    let f₂ = laid_then b c₁ c₂ (take 2 part) (bytes16 x) at (at + 2) e₁ (omega arith) e₂ in
    let f₃ = laid_then b c₂ c₃ (take 2 part ++ bytes16 x) (bytes16 y) at (at + 4) f₂ (simp length-append (omega arith)) e₃ in
    let f₄ = laid_then b c₃ c₄ (take 2 part ++ bytes16 x ++ bytes16 y) (bytes16 z) at (at + 6) f₃ (simp length-append (omega arith)) e₄ in
    laid_then b c₄ after (take 2 part ++ bytes16 x ++ bytes16 y ++ bytes16 z) (drop 8 part) at (at + 8) f₄ (simp length-append (omega arith))
    (e₅ ∙ ap (laid c₄ (at + 8)) (take_all (length part - 8) (drop 8 part) (omega (arith, length-drop 8 part))))

pub node_part : (s : List ℕ) (i : ℕ) → take (node_start i + 24 - node_start i) (drop (node_start i) s) ≡ take 24 (drop (node_start i) s)
node_part s i =
    let e : node_start i + 24 - node_start i ≡ 24 = omega arith in ap (λ (m : ℕ). take m (drop (node_start i) s)) e

pub node_laid :
    (s news part out after : List ℕ) (i at : ℕ) (n : Node) (count x y z : ℕ)
    → news ≡ numbers s (node_count s)
    → n ≡ node_at s i
    → count ≡ operands_of n
    → x ≡ cond (ltb 0 count) (get_or news n.a n.a) n.a
    → y ≡ cond (ltb 1 count) (get_or news n.b n.b) n.b
    → z ≡ cond (ltb 2 count) (get_or news n.c n.c) n.c
    → part ≡ take 24 (drop (node_start i) s)
    → after ≡ laid out at (with_fields part x y z)
    → after ≡ laid out at (moved_bytes s i)
unfolding moved_bytes renumbered new
node_laid s news part out after i at n count x y z e f g p q r h a = cc

-- what is read from the map is a node
pub ids_length : (s olds : List ℕ) → olds ≡ old_ids s → length olds ≡ node_count s
unfolding old_ids
ids_length s olds e = ap length e ∙ length_ids s (node_count s)

pub id_below : (s olds : List ℕ) (k : ℕ) → HeaderFacts s → AllPlaced s → olds ≡ old_ids s → k < node_count s → get_or olds k 0 < node_count s
unfolding old_ids
id_below s olds k H all e l =
    rw (e, id_at s (node_count s) k l) (old_lt s H.nodes all k l)

-- the whole file: the header, the nodes, the roots
pub file_laid :
    (s b c d after : List ℕ)
    → HeaderFacts s
    → AllPlaced s
    → c ≡ laid b 0 (take 9 s)
    → d ≡ laid c 9 (joined (node_bytes s) (node_count s))
    → after ≡ laid d (9 + 24 * node_count s) (joined (root_bytes s) (root_count s))
    → after ≡ laid b 0 (mended s)
unfolding mended
file_laid s b c d after H all e f g =
    let h : length (take 9 s) ≡ 9 = length-take-le 9 s H.long in
    let n = nodes_length s H H.nodes all in
    laid_then b d after (take 9 s ++ joined (node_bytes s) (node_count s)) (joined (root_bytes s) (root_count s)) 0 (9 + 24 * node_count s)
    (laid_then b c d (take 9 s) (joined (node_bytes s) (node_count s)) 0 9 e (omega arith) f) (simp length-append (omega arith)) g

-- ---- answers

pub circle_line :
    (s news : List ℕ) (n id : ℕ) (r : Checked)
    → news ≡ numbers s (node_count s)
    → n ≡ node_count s
    → id ≡ least (λ i. not (placed news i)) n
    → r ≡ (Accepted then cond (ltb id n) (refusal 22 id) Accepted)
    → r ≡ circle_fault s
unfolding circle_fault never_placed
circle_line s news n id r e f g h =
    let w : id ≡ least (λ i. not (placed (numbers s (node_count s)) i)) (node_count s) =
    g ∙ ap₂ (λ (l : List ℕ) (m : ℕ). least (λ i. not (placed l i)) m) e f in
    line_more _ [] 22 _ _ Accepted r (line_at_start _) refl
    (h ∙ ap₂ (λ (x m : ℕ). Accepted then cond (ltb x m) (refusal 22 x) Accepted) w f)

-- the mended file, read back from the bytes that it was written into
pub file_answer :
    (s olds b after : List ℕ) (q r : Checked)
    → HeaderFacts s
    → AllPlaced s
    → length s ≤ length b
    → olds ≡ old_ids s
    → after ≡ laid b 0 (mended s)
    → q ≡ checked (take (length s) after)
    → r ≡ at_old olds q
    → r ≡ mended_fault s
unfolding mended_fault
file_answer s olds b after q r H all room o e f g =
    let m = length_mended s H H.nodes all in
    let t : take (length s) after ≡ mended s =
    ap (take (length s)) (e ∙ laid_front b (mended s) (length s) m room) ∙ take_at (mended s) (drop (length s) b) (length s) m in
    g ∙ ap₂ at_old o (f ∙ ap checked t)
