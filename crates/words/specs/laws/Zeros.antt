-- The highest and the lowest set bit of a word by the counts of leading and trailing zeros. All at any width.
use Rattle.std.specs.Prelude.{◌≡◌, ℕ, zero, suc, ◌+◌, ◌-◌, ◌/◌, ◌%◌, ◌^◌, ◌<◌, ◌≤◌, min, refl}
use Rattle.std.proofs.Common.{sym, ap, ◌∙◌, div-one, pow-suc, le_trans, le_antisymm, lt_of_not-le, not-le_of_lt, le_of_suc-le-suc, not-suc-le-zero, suc-add, arith, pow_pos, pow_mono}
use Rattle.std.proofs.Math.Nat.{mod-one, pow-succ', div-div-eq-div-mul, zero-min, min-zero, suc-min-suc}
use Rattle.std.proofs.Math.Arith.{mod-mul}
use Rattle.std.specs.Int.Count.{count_trailing_zeros, under, count_leading_zeros}
use Rattle.std.proofs.lemmas.Nat.{leading_top}
use Rattle.words.specs.Bits.{bit}
use Rattle.words.specs.laws.Bits.{bit_zero, bit_half, bit_set_lt, bit_cut, bit_of_zero}
use Rattle.words.specs.inner.Words.{Tail, Top}

-- ---- the lowest set bit

pub trailing : (d n : ℕ) → 0 < n → n < 2 ^ d → Tail d n (count_trailing_zeros d n)
unfolding count_trailing_zeros
trailing zero n h l = absurd (none n h l)
  where
    none : (n : ℕ) → 0 < n → n < 1 → ⊥
    none n h l = omega arith
trailing (suc d) n h l = go (n % 2) refl (λ (e : n % 2 ≡ 0). trailing d (n / 2) (omega arith) (omega (arith, pow-suc 2 d)))
  where
    go : (r : ℕ) → n % 2 ≡ r → (n % 2 ≡ 0 → Tail d (n / 2) (count_trailing_zeros d (n / 2))) → Tail (suc d) n (under r (count_trailing_zeros d (n / 2)))
    go zero e ih =
        let t = count_trailing_zeros d (n / 2) in
        let g = ih e in
        record {
          short = omega (arith, g.short);
          clear = ap (λ (x : ℕ). n % x) (pow-suc 2 t) ∙ mod-mul n (pow_pos t) (pow_pos 1) ∙ omega (arith, g.clear);
          set = ap (λ (x : ℕ). x % 2) (ap (λ (x : ℕ). n / x) (pow-succ' 2 t) ∙ sym (div-div-eq-div-mul n 2 (2 ^ t))) ∙ g.set;
        }
    go (suc r) e ih = record { short = omega arith; clear = mod-one n; set = ap (λ (x : ℕ). x % 2) (div-one n) ∙ omega arith }

-- its place is within any width that holds the word
pub tail_lt : (w d s k : ℕ) → s < 2 ^ w → Tail d s k → k < w
unfolding bit
tail_lt w d s k h g = bit_set_lt k s w h g.set

-- no other place is the lowest
pub tail_unique : {d n s t : ℕ} → Tail d n s → Tail d n t → s ≡ t
unfolding bit
tail_unique {d} {n} {s} {t} g h = le_antisymm (not_past s t g.clear h.set) (not_past t s h.clear g.set)
  where
    not_past : (k j : ℕ) → n % 2 ^ k ≡ 0 → n / 2 ^ j % 2 ≡ 1 → k ≤ j
    not_past k j clear set =
        le_of_suc-le-suc (lt_of_not-le (λ (l : suc j ≤ k). let z : bit j n ≡ 0 = sym (bit_cut j n k l) ∙ ap (bit j) clear ∙ bit_of_zero j in omega arith))

-- ---- the count of trailing zeros, bit by bit

-- the bits below the lowest set one are 0
pub trailing_bit : (i k n : ℕ) → i < count_trailing_zeros k n → bit i n ≡ 0
unfolding count_trailing_zeros
trailing_bit i zero n h = absurd (not-suc-le-zero h)
trailing_bit zero (suc k) n h = go (n % 2) refl h
  where
    go : (d : ℕ) → n % 2 ≡ d → zero < under d (count_trailing_zeros k (n / 2)) → bit zero n ≡ 0
    go zero e h = bit_zero n ∙ e
    go (suc d) e h = absurd (not-suc-le-zero h)
trailing_bit (suc i) (suc k) n h = go (λ l. trailing_bit i k (n / 2) l) (n % 2) h
  where
    go : (i < count_trailing_zeros k (n / 2) → bit i (n / 2) ≡ 0) → (d : ℕ) → suc i < under d (count_trailing_zeros k (n / 2)) → bit (suc i) n ≡ 0
    go ih zero h = sym (bit_half i n) ∙ ih (le_of_suc-le-suc h)
    go ih (suc d) h = absurd (not-suc-le-zero h)

-- the zeros among fewer digits
pub trailing_min : (k d n : ℕ) → count_trailing_zeros k n ≡ min k (count_trailing_zeros (k + d) n)
unfolding count_trailing_zeros
trailing_min zero d n = sym (zero-min (count_trailing_zeros (zero + d) n))
trailing_min (suc k) d n =
    go (n % 2) (trailing_min k d (n / 2)) ∙ ap (λ (m : ℕ). min (suc k) (count_trailing_zeros m n)) (sym (suc-add k d))
  where
    go : (e : ℕ) → count_trailing_zeros k (n / 2) ≡ min k (count_trailing_zeros (k + d) (n / 2)) → under e (count_trailing_zeros k (n / 2)) ≡ min (suc k) (under e (count_trailing_zeros (k + d) (n / 2)))
    go zero h = ap suc h ∙ sym (suc-min-suc k (count_trailing_zeros (k + d) (n / 2)))
    go (suc e) h = sym (min-zero (suc k))

-- ---- the highest set bit

pub leading : (d n : ℕ) → 0 < n → n < 2 ^ suc d → Top (suc d) n (d - count_leading_zeros (suc d) n)
leading d n h l =
    let t = leading_top (suc d) n h l in
    let e : d - count_leading_zeros (suc d) n ≡ t.0 = omega (arith, t.1) in
    rw e record { short = omega (arith, t.1); from = t.2; below = t.3 }

-- its place is within any width that holds the word
pub top_lt : {d : ℕ} (w t j : ℕ) → t < 2 ^ w → Top d t j → j < w
top_lt w t j h top = lt_of_not-le (λ (k : w ≤ j). not-le_of_lt h (le_trans (pow_mono k) top.from))

-- no other place is the highest
pub top_unique : {d n j k : ℕ} → Top d n j → Top d n k → j ≡ k
top_unique {d} {n} {j} {k} g h = le_antisymm (le_of_suc-le-suc (top_lt (suc k) n j h.below g)) (le_of_suc-le-suc (top_lt (suc j) n k g.below h))
