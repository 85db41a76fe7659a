-- Laws of pieces of one length laid one after the other, and of a node's bytes with its fields given anew.
use Rattle.std.specs.Prelude.{◌≡◌, List, [], ◌∷◌, ◌++◌, length, get_or, take, drop}
use Rattle.std.proofs.Math.Path.{refl, sym}
use Rattle.std.proofs.Common.{ap, ◌∙◌, subst, append_assoc, not-suc-le-zero, mul-zero, add-one, arith, get_or-append-add, take_all, take-add, drop-cons, drop-drop}
use Prim.Native.Nat.{ℕ, zero, suc, ◌+◌, ◌*◌, ◌/◌, ◌%◌, ◌≤◌, ◌<◌}
use Rattle.std.proofs.Math.Nat.{mul-suc, mul-le-mul_left}
use Rattle.std.proofs.Math.Decide.{ℕ_discrete}
use Rattle.std.proofs.Math.ListN.{length-append, length-drop, get_or-append}
use Rattle.std.proofs.lemmas.List.{get_or_at, drop-append-le}
use Rattle.std.proofs.Math.Seq.{drop-append-add, take-append-le, drop_at}
use Rattle.problem.specs.declared.layout.Node.{Node}
use Rattle.problem.specs.Layout.{le16, le32, le64, node_of}
use Rattle.mending.specs.Mended.{joined, with_fields}

module _ (f : ℕ → List ℕ) where
  pub joined_none : joined f 0 ≡ []
  unfolding joined
  joined_none = refl

  pub joined_more : (n : ℕ) → joined f (suc n) ≡ joined f n ++ f n
  unfolding joined
  joined_more n = refl

  module _ (c : ℕ) where
    pub length_joined : (n : ℕ) → ((k : ℕ) → k < n → length (f k) ≡ c) → length (joined f n) ≡ c * n
    unfolding joined
    length_joined zero h = sym (mul-zero c)
    length_joined (suc n) h =
        omega (arith, length-append (joined f n) (f n), length_joined n (λ k l. h k (omega arith)), h n (omega arith), mul-suc c n)

    -- piece k read back
    pub part_joined : (n : ℕ) → ((k : ℕ) → k < n → length (f k) ≡ c) → (k : ℕ) → k < n → take c (drop (c * k) (joined f n)) ≡ f k
    unfolding joined
    part_joined zero h k l = absurd (not-suc-le-zero l)
    part_joined (suc n) h k l =
        let len = length_joined n (λ k l. h k (omega arith)) in
        elim (ℕ_discrete k n) [
          | yes e ↦
              rw (e, drop_at (joined f n) (f n) (c * n) len)
              (take_all c (f n) (let m = h n (omega arith) in omega arith))
          | no x ↦
              let u : c * suc k ≤ c * n = mul-le-mul_left c (omega arith) in
              let v = mul-suc c k in
              let w = length-drop (c * k) (joined f n) in
              rw (drop-append-le (c * k) (joined f n) (f n) (omega arith), take-append-le c (drop (c * k) (joined f n)) (f n) (omega arith))
              (part_joined n (λ k l. h k (omega arith)) k (omega arith))
        ]

-- numbers one by one: how many, and each read back
pub singles_length : (f : ℕ → ℕ) (n : ℕ) → length (joined (λ j. f j ∷ []) n) ≡ n
singles_length f n = length_joined (λ j. f j ∷ []) 1 n (λ j l. refl) ∙ omega arith

pub single_at : (f : ℕ → ℕ) (n k : ℕ) → k < n → get_or (joined (λ j. f j ∷ []) n) k 0 ≡ f k
single_at f zero k h = absurd (not-suc-le-zero h)
single_at f (suc n) k h =
    ap (λ (l : List ℕ). get_or l k 0) (joined_more (λ j. f j ∷ []) n)
    ∙ (elim (ℕ_discrete k n) [
      | yes e ↦ rw e (get_or_at (joined (λ j. f j ∷ []) n) (f n) [] 0 n (singles_length f n))
      | no x ↦
          get_or-append (joined (λ j. f j ∷ []) n) (f n ∷ []) 0 k (omega (arith, singles_length f n)) ∙ single_at f n k (omega arith)
    ])

-- pieces cut from a list, laid one after the other again
pub rejoined : (s : List ℕ) (from c : ℕ) (f : ℕ → List ℕ) (n : ℕ) → ((k : ℕ) → k < n → f k ≡ take c (drop (from + c * k) s)) → joined f n ≡ take (c * n) (drop from s)
unfolding joined
rejoined s from c f zero h = rw (mul-zero c)
rejoined s from c f (suc n) h =
    rw (rejoined s from c f n (λ k l. h k (omega arith)), h n (omega arith), mul-suc c n, take-add (c * n) c (drop from s), drop-drop (c * n) from s)

-- a piece of the middle one of three lists, and an element of the last
pub middle : (x y z : List ℕ) (n c m : ℕ) → length x ≡ n → m + c ≤ length y → take c (drop (n + m) (x ++ y ++ z)) ≡ take c (drop m y)
middle x y z n c m e h =
    let u = length-drop m y in
    rw (← e, append_assoc x y z, drop-append-add x (y ++ z) m, drop-append-le m y z (omega arith))
    (take-append-le c (drop m y) z (omega arith))

pub last : (x y z : List ℕ) (n m : ℕ) → length x + length y ≡ n → get_or (x ++ y ++ z) (n + m) 0 ≡ get_or z m 0
last x y z n m e = let u : length (x ++ y) ≡ n = length-append x y ∙ e in rw (← u) (get_or-append-add (x ++ y) z m 0)

pub two_bytes : (s : List ℕ) (q : ℕ) → q + 2 ≤ length s → get_or s q 0 ∷ get_or s (q + 1) 0 ∷ [] ≡ take 2 (drop q s)
two_bytes s q h = rw (drop-cons s q 0 (omega arith), drop-cons s (suc q) 0 (omega arith), add-one q)

-- ---- a node's bytes

-- a list of 8 or more by its first eight
opened : (l : List ℕ) → 8 ≤ length l
    → l ≡ get_or l 0 0 ∷ get_or l 1 0 ∷ get_or l 2 0 ∷ get_or l 3 0 ∷ get_or l 4 0 ∷ get_or l 5 0 ∷ get_or l 6 0 ∷ get_or l 7 0 ∷ drop 8 l
opened l h =
    drop-cons l 0 0 (omega arith)
    ∙ rw (drop-cons l 1 0 (omega arith), drop-cons l 2 0 (omega arith), drop-cons l 3 0 (omega arith), drop-cons l 4 0 (omega arith), drop-cons l 5 0 (omega arith), drop-cons l 6 0 (omega arith), drop-cons l 7 0 (omega arith))

-- a node with other fields a, b, c
abbrev pub fielded : Node → ℕ → ℕ → ℕ → Node
fielded n a b c = record { kind = n.kind; width = n.width; a = a; b = b; c = c; lo = n.lo; hi = n.hi }

pub back : (v : ℕ) → v % 256 + 256 * (v / 256) ≡ v
back v = omega arith

pub low : (x y : ℕ) → x < 256 → (x + 256 * y) % 256 ≡ x
low x y h = omega arith

pub high : (x y : ℕ) → x < 256 → (x + 256 * y) / 256 ≡ y
high x y h = omega arith

open_node : (x₀ x₁ x₂ x₃ x₄ x₅ x₆ x₇ : ℕ) (r : List ℕ) (a b c : ℕ)
    → node_of (with_fields (x₀ ∷ x₁ ∷ x₂ ∷ x₃ ∷ x₄ ∷ x₅ ∷ x₆ ∷ x₇ ∷ r) a b c)
    ≡ fielded (node_of (x₀ ∷ x₁ ∷ x₂ ∷ x₃ ∷ x₄ ∷ x₅ ∷ x₆ ∷ x₇ ∷ r)) a b c
unfolding with_fields node_of le64 le32 le16
open_node x₀ x₁ x₂ x₃ x₄ x₅ x₆ x₇ r a b c = rw (back a, back b, back c)

open_same : (x₀ x₁ x₂ x₃ x₄ x₅ x₆ x₇ : ℕ) (r : List ℕ)
    → (x₂ < 256) × (x₄ < 256) × (x₆ < 256)
    → with_fields (x₀ ∷ x₁ ∷ x₂ ∷ x₃ ∷ x₄ ∷ x₅ ∷ x₆ ∷ x₇ ∷ r) (x₂ + 256 * x₃) (x₄ + 256 * x₅) (x₆ + 256 * x₇)
    ≡ x₀ ∷ x₁ ∷ x₂ ∷ x₃ ∷ x₄ ∷ x₅ ∷ x₆ ∷ x₇ ∷ r
unfolding with_fields
open_same x₀ x₁ x₂ x₃ x₄ x₅ x₆ x₇ r h =
    rw (low x₂ x₃ h.0, high x₂ x₃ h.0, low x₄ x₅ h.1, high x₄ x₅ h.1, low x₆ x₇ h.2, high x₆ x₇ h.2)

pub fields_node : (part : List ℕ) (a b c : ℕ) → 8 ≤ length part → node_of (with_fields part a b c) ≡ fielded (node_of part) a b c
fields_node part a b c h =
    subst (λ (l : List ℕ). node_of (with_fields l a b c) ≡ fielded (node_of l) a b c) (sym (opened part h)) (open_node _ _ _ _ _ _ _ _ _ a b c)

-- a node's own fields given anew, where bytes are bytes
pub fields_same :
    (part : List ℕ)
    → 8 ≤ length part
    → ((i : ℕ) → i < 8 → get_or part i 0 < 256)
    → with_fields part (le16 part 2) (le16 part 4) (le16 part 6) ≡ part
unfolding le16
fields_same part h small =
    subst (λ (l : List ℕ). with_fields l (le16 part 2) (le16 part 4) (le16 part 6) ≡ l) (sym (opened part h))
    (open_same _ _ _ _ _ _ _ _ _ (small 2 (omega arith), small 4 (omega arith), small 6 (omega arith)))
