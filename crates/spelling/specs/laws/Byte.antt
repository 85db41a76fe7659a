-- Laws of numbers and nodes put into bytes.
use Rattle.std.specs.Prelude.{◌≡◌, refl, List, [], ◌∷◌, ◌++◌, ℕ, zero, suc, ◌+◌, ◌/◌, ◌%◌, ◌^◌, ◌<◌, length, set, ◌-◌}
use Rattle.std.specs.Int.{w16, w64, bytes_low_first, to_le_bytes}
use Rattle.std.proofs.Common.{sym, ap, ◌∙◌, arith, add-zero, length-append, pow-suc, mod-eq_of_lt, add-one}
use Rattle.std.proofs.Math.Nat.{div-div-eq-div-mul}
use Rattle.std.proofs.lemmas.List.Edits.{sets}
use Rattle.std.proofs.Math.Seq.{length-sets}
use Rattle.spelling.specs.Bytes.{little_endian, kind_bytes, field_bytes, pair_bytes, node_bytes}
use Rattle.problem.specs.declared.layout.Node.{Node}

-- the bytes of a number, as the language has them
low_from : (i k n : ℕ) → bytes_low_first (suc i) k n ≡ little_endian k (n / 256 ^ suc i)
unfolding little_endian
low_from i zero n = refl
low_from i (suc k) n =
    let e : n / 256 ^ suc i / 256 ≡ n / 256 ^ suc (suc i) = div-div-eq-div-mul n (256 ^ suc i) 256 ∙ ap (λ (m : ℕ). n / m) (sym (pow-suc 256 (suc i))) in
    rw (low_from (suc i) k n, e)

pub low_bytes : (k n : ℕ) → bytes_low_first 0 k n ≡ little_endian k n
unfolding little_endian
low_bytes zero n = refl
low_bytes (suc k) n = rw (low_from 0 k n)

pub length_bytes : (n v : ℕ) → length (little_endian n v) ≡ n
unfolding little_endian
length_bytes zero v = refl
length_bytes (suc n) v = ap suc (length_bytes n (v / 256))

-- one after the other
pub sets_append : (xs ys l : List ℕ) (i : ℕ) → sets (sets l i xs) (i + length xs) ys ≡ sets l i (xs ++ ys)
sets_append [] ys l i = rw (add-zero i)
sets_append (x ∷ xs) ys l i = let e : i + suc (length xs) ≡ suc i + length xs = omega arith in rw e (sets_append xs ys (set l i x) (suc i))

-- l is l₀ with m bytes xs from a place on; and more bytes after them
pub record Run (l₀ : List ℕ) (at m : ℕ) (l xs : List ℕ) : Type 0 where
  pub filled : l ≡ sets l₀ at xs
  pub long : length xs ≡ m

pub then_put :
    {l₀ l xs ys : List ℕ} {at m n : ℕ} (l' : List ℕ) → Run l₀ at m l xs → Run l (at + m) n l' ys → Run l₀ at (m + n) l' (xs ++ ys)
then_put {l₀} {l} {xs} {ys} {at} {m} {n} l' r q =
    record {
      filled = q.filled ∙ rw (r.filled, ← r.long) (sets_append xs ys l₀ at);
      long = omega (arith, length-append xs ys, q.long, r.long);
    }

pub put_run : (l₀ l : List ℕ) (at n v : ℕ) → l ≡ sets l₀ at (little_endian n v) → Run l₀ at n l (little_endian n v)
put_run l₀ l at n v e = record { filled = e; long = length_bytes n v }

pub low_run : (l₀ l : List ℕ) (at n v : ℕ) → l ≡ sets l₀ at (bytes_low_first 0 n v) → Run l₀ at n l (little_endian n v)
low_run l₀ l at n v e = put_run l₀ l at n v (rw (low_bytes n v) at e)

pub run_length : {l₀ l xs : List ℕ} {at m : ℕ} → Run l₀ at m l xs → length l ≡ length l₀
run_length {l₀} {l} {xs} {at} r = ap length r.filled ∙ length-sets l₀ at xs

pub kind_long : (k w : ℕ) → length (kind_bytes k w) ≡ 2
unfolding kind_bytes little_endian
kind_long k w = refl

pub fields_long : (a b c : ℕ) → length (field_bytes a b c) ≡ 6
unfolding field_bytes little_endian
fields_long a b c = refl

pub pair_long : (x y : ℕ) → length (pair_bytes x y) ≡ 16
unfolding pair_bytes little_endian
pair_long x y = refl

-- a node's bytes, put one number after the other
pub node_put :
    (n : Node) (l₀ l₁ l₂ l₃ l₄ l₅ l₆ : List ℕ) (at : ℕ)
    → n.kind < 256
    → n.width < 256
    → l₁ ≡ sets l₀ at (n.kind ∷ n.width ∷ [])
    → l₂ ≡ sets l₁ (at + 2) (to_le_bytes w16 n.a)
    → l₃ ≡ sets l₂ (at + 4) (to_le_bytes w16 n.b)
    → l₄ ≡ sets l₃ (at + 6) (to_le_bytes w16 n.c)
    → l₅ ≡ sets l₄ (at + 8) (to_le_bytes w64 n.lo)
    → l₆ ≡ sets l₅ (at + 16) (to_le_bytes w64 n.hi)
    → l₆ ≡ sets l₀ at (node_bytes n)
unfolding node_bytes kind_bytes field_bytes pair_bytes little_endian
node_put n l₀ l₁ l₂ l₃ l₄ l₅ l₆ at h k e a b c f g =
    let r : Run l₀ at 2 l₁ (n.kind % 256 ∷ n.width % 256 ∷ []) = record { filled = e ∙ rw (mod-eq_of_lt h, mod-eq_of_lt k); long = refl } in
    (then_put l₆ (then_put l₅ (then_put l₄ (then_put l₃ (then_put l₂ r (low_run l₁ l₂ (at + 2) 2 n.a a)) (low_run l₂ l₃ (at + 4) 2 n.b b)) (low_run l₃ l₄ (at + 6) 2 n.c c)) (low_run l₄ l₅ (at + 8) 8 n.lo f)) (low_run l₅ l₆ (at + 16) 8 n.hi g)).filled

-- ---- bytes put one by one

-- what is still to be put: n bytes of v from place i on
pub put_one : (l : List ℕ) (i n v : ℕ) → 0 < n → sets l i (little_endian n v) ≡ sets (set l i (v % 256)) (i + 1) (little_endian (n - 1) (v / 256))
unfolding little_endian
put_one l i zero v h = absurd (omega arith)
put_one l i (suc n) v h = let e : suc n - 1 ≡ n = omega arith in rw (e, add-one)

pub put_none : (l : List ℕ) (i n v : ℕ) → n ≡ 0 → sets l i (little_endian n v) ≡ l
unfolding little_endian
put_none l i n v h = rw h

pub put_starts : (l : List ℕ) (i n v : ℕ) → sets l i (little_endian n v) ≡ sets l (i + 0) (little_endian (n - 0) v)
put_starts l i n v = let e : n - 0 ≡ n = omega arith in rw (add-zero i, e)

-- the parts of a node's bytes, and all of them
pub kind_run : (l₀ l₁ l₂ : List ℕ) (at k w : ℕ) → l₁ ≡ sets l₀ at (little_endian 1 k) → l₂ ≡ sets l₁ (at + 1) (little_endian 1 w)
    → Run l₀ at 2 l₂ (kind_bytes k w)
unfolding kind_bytes
kind_run l₀ l₁ l₂ at k w e f = then_put l₂ (put_run l₀ l₁ at 1 k e) (put_run l₁ l₂ (at + 1) 1 w f)

pub pair_run : (l₀ l₁ l₂ : List ℕ) (at x y : ℕ) → l₁ ≡ sets l₀ at (little_endian 8 x) → l₂ ≡ sets l₁ (at + 8) (little_endian 8 y)
    → Run l₀ at 16 l₂ (pair_bytes x y)
unfolding pair_bytes
pair_run l₀ l₁ l₂ at x y e f = then_put l₂ (put_run l₀ l₁ at 8 x e) (put_run l₁ l₂ (at + 8) 8 y f)

-- a turn of the loop: i of count bytes are put
pub put_turn :
    (whole l : List ℕ) (at i count v : ℕ)
    → whole ≡ sets l (at + i) (little_endian (count - i) v)
    → i < count
    → whole ≡ sets (set l (at + i) (v % 256)) (at + (i + 1)) (little_endian (count - (i + 1)) (v / 256))
put_turn whole l at i count v k h =
    let e : (at + i) + 1 ≡ at + (i + 1) = omega arith in
    let f : (count - i) - 1 ≡ count - (i + 1) = omega arith in
    k ∙ put_one l (at + i) (count - i) v (omega arith) ∙ rw (e, f)

pub fields_run :
    (l₀ l₁ l₂ l₃ : List ℕ) (at a b c : ℕ)
    → l₁ ≡ sets l₀ at (little_endian 2 a)
    → l₂ ≡ sets l₁ (at + 2) (little_endian 2 b)
    → l₃ ≡ sets l₂ (at + 4) (little_endian 2 c)
    → Run l₀ at 6 l₃ (field_bytes a b c)
unfolding field_bytes
fields_run l₀ l₁ l₂ l₃ at a b c e f g =
    then_put l₃ (then_put l₂ (put_run l₀ l₁ at 2 a e) (put_run l₁ l₂ (at + 2) 2 b f)) (put_run l₂ l₃ (at + 4) 2 c g)

pub node_run :
    (n : Node) (l₀ l₁ l₂ l₃ : List ℕ) (at : ℕ)
    → l₁ ≡ sets l₀ at (kind_bytes n.kind n.width)
    → l₂ ≡ sets l₁ (at + 2) (field_bytes n.a n.b n.c)
    → l₃ ≡ sets l₂ (at + 8) (pair_bytes n.lo n.hi)
    → Run l₀ at 24 l₃ (node_bytes n)
unfolding node_bytes
node_run n l₀ l₁ l₂ l₃ at e f g =
    let r₁ : Run l₀ at 2 l₁ (kind_bytes n.kind n.width) = record { filled = e; long = kind_long _ _ } in
    let r₂ : Run l₁ (at + 2) 6 l₂ (field_bytes n.a n.b n.c) = record { filled = f; long = fields_long _ _ _ } in
    let r₃ : Run l₂ (at + 8) 16 l₃ (pair_bytes n.lo n.hi) = record { filled = g; long = pair_long _ _ } in
    then_put l₃ (then_put l₂ r₁ r₂) r₃
