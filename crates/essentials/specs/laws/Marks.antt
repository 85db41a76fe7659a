-- Laws of positions as the bits of a number.
use Rattle.std.specs.Prelude.{◌≡◌, refl, ◌⊎◌, Bool, true, false, ◌&&◌, ℕ, zero, suc, ◌+◌, ◌*◌, ◌%◌, ◌^◌, ◌≤◌, ◌<◌, min, eqb}
use Rattle.std.proofs.Common.{sym, ap, ◌∙◌, inl, inr, lt_of_le_of_lt, mod-lt, not-suc-le-zero, pow-suc, arith, pow_pos}
use Rattle.std.proofs.Math.Nat.{zero-min}
use Rattle.std.specs.Int.Bits.{bit_and}
use Rattle.std.proofs.lemmas.Nat.{and_le_l}
use mir.Val.{bool_byte}
use Rattle.words.specs.Bits.{bit}
use Rattle.words.specs.laws.Bits.{bit_lt, bit_of_and, bit_high, bit_ext, bit_of_zero, bit_over_low, bit_over_high, lt_or_ge, bit_cut, bit_cut_high}
use Rattle.words.specs.inner.Decides.{Decides}
use Rattle.words.specs.laws.Decides.{decides_unique, decides_same, decides_and}
use Rattle.words.specs.laws.Zeros.{trailing}
use Rattle.essentials.specs.inner.Marks.{marked, Marks, mark}

-- ---- made bit by bit

pub byte_lt : (b : Bool) → bool_byte b < 2
byte_lt true = omega arith
byte_lt false = omega arith

byte_bit : (b : Bool) → marked (bool_byte b) 0 ≡ b
unfolding bit
byte_bit true = refl
byte_bit false = refl

module _ {A : ℕ → Type 0} where
  pub unmarked : Marks A 0 0
  unmarked = record { short = omega arith; each = λ i h. absurd (not-suc-le-zero h) }

  more : {n m : ℕ} (b : Bool) → Marks A n m → Decides (A n) b → Marks A (suc n) (bool_byte b * 2 ^ n + m)
  more {n} {m} b g d = record { short = short b; each = λ i h. go i h (lt_or_ge i n) }
    where
      short : (b : Bool) → bool_byte b * 2 ^ n + m < 2 ^ suc n
      short true = omega (arith, g.short, pow-suc 2 n)
      short false = omega (arith, g.short, pow-suc 2 n)

      go : (i : ℕ) → i < suc n → (i < n) ⊎ (n ≤ i) → Decides (A i) (marked (bool_byte b * 2 ^ n + m) i)
      go i h (inl l) = rw (bit_over_low i (bool_byte b) m n g.short l) (g.each i l)
      go i h (inr l) =
          let e : i ≡ n = omega arith in
          let f : n + 0 ≡ n = omega arith in
          rw (e, rw f at (bit_over_high 0 (bool_byte b) m n g.short), byte_bit b) d

  pub marks_one : (a : Bool) → Decides (A 0) a → Marks A 1 (mark a false false)
  marks_one a x = let e : mark a false false ≡ bool_byte a * 1 + 0 = omega arith in rw e (more a unmarked x)

  pub marks_two : (a b : Bool) → Decides (A 0) a → Decides (A 1) b → Marks A 2 (mark a b false)
  marks_two a b x y = let e : mark a b false ≡ bool_byte b * 2 + (bool_byte a * 1 + 0) = omega arith in rw e (more b (more a unmarked x) y)

  pub marks_three : (a b c : Bool) → Decides (A 0) a → Decides (A 1) b → Decides (A 2) c → Marks A 3 (mark a b c)
  marks_three a b c x y z =
      let e : mark a b c ≡ bool_byte c * 4 + (bool_byte b * 2 + (bool_byte a * 1 + 0)) = omega arith in
      rw e (more c (more b (more a unmarked x) y) z)

-- ---- what is marked and what is not

bit_byte : (x : ℕ) → x < 2 → x ≡ bool_byte (eqb x 1)
bit_byte zero h = refl
bit_byte (suc zero) h = refl
bit_byte (suc (suc x)) h = absurd (omega arith)

least_bit : (x y : ℕ) → x < 2 → y < 2 → eqb (min x y) 1 ≡ (eqb x 1 && eqb y 1)
least_bit zero y h l = ap (λ (z : ℕ). eqb z 1) (zero-min y)
least_bit (suc zero) y h l = let e : min 1 y ≡ y = omega arith in ap (λ (z : ℕ). eqb z 1) e
least_bit (suc (suc x)) y h l = absurd (omega arith)

marked_both : (m k i : ℕ) → marked (bit_and m k) i ≡ (marked m i && marked k i)
marked_both m k i = ap (λ (z : ℕ). eqb z 1) (bit_of_and i m k) ∙ least_bit (bit i m) (bit i k) (bit_lt i m) (bit_lt i k)

module _ {A : ℕ → Type 0} {n m : ℕ} (g : Marks A n m) where
  pub marks_unique : {k : ℕ} → Marks A n k → m ≡ k
  marks_unique {k} h = bit_ext m k (λ i. go i (lt_or_ge i n))
    where
      go : (i : ℕ) → (i < n) ⊎ (n ≤ i) → bit i m ≡ bit i k
      go i (inl l) =
          bit_byte (bit i m) (bit_lt i m) ∙ ap bool_byte (decides_unique (A i) (marked m i) (marked k i) (g.each i l) (h.each i l))
          ∙ sym (bit_byte (bit i k) (bit_lt i k))
      go i (inr l) = bit_high i m n g.short l ∙ sym (bit_high i k n h.short l)

  -- a number that is not 0 marks a position
  pub marks_some : 0 < m → (i : ℕ) × (i < n) × A i
  unfolding bit
  marks_some h = let t = trailing n m h g.short in (_, t.short, rw t.set at (g.each _ t.short))

  pub marks_none : m ≡ 0 → (i : ℕ) → i < n → A i → ⊥
  marks_none e i h = rw (e, bit_of_zero i) at (g.each i h)

  -- the positions that are marked twice
  pub marks_both : {B : ℕ → Type 0} {k : ℕ} → Marks B n k → Marks (λ i. A i × B i) n (bit_and m k)
  marks_both {B} {k} h =
      record {
        short = lt_of_le_of_lt (and_le_l m k) g.short;
        each = λ i l. rw (marked_both m k i) (decides_and (A i) (B i) (marked m i) (marked k i) (g.each i l) (h.each i l));
      }

  pub marks_same : {B : ℕ → Type 0} → ((i : ℕ) → i < n → A i → B i) → ((i : ℕ) → i < n → B i → A i) → Marks B n m
  marks_same {B} to back = record { short = g.short; each = λ i l. decides_same (A i) (B i) (to i l) (back i l) (marked m i) (g.each i l) }

-- where no position from n on is a member, the members below n are all
pub marks_fewer : {A : ℕ → Type 0} {n j m : ℕ} → Marks A j m → n ≤ j → ((i : ℕ) → n ≤ i → i < j → A i → ⊥) → Marks A n m
marks_fewer {A} {n} {j} {m} g le x =
    let e : m ≡ m % 2 ^ n = bit_ext m (m % 2 ^ n) (λ i. go i (lt_or_ge i n)) in
    record { short = omega (arith, e, mod-lt m (pow_pos n)); each = λ i l. g.each i (omega arith) }
  where
    high : (i : ℕ) → n ≤ i → (i < j) ⊎ (j ≤ i) → bit i m ≡ 0
    high i l (inl u) =
        bit_byte (bit i m) (bit_lt i m) ∙ ap bool_byte (decides_unique (A i) (marked m i) false (g.each i u) (x i l u))
    high i l (inr u) = bit_high i m j g.short u

    go : (i : ℕ) → (i < n) ⊎ (n ≤ i) → bit i m ≡ bit i (m % 2 ^ n)
    go i (inl l) = sym (bit_cut i m n l)
    go i (inr l) = high i l (lt_or_ge i j) ∙ sym (bit_cut_high i m n l)
