-- Laws of ternary words and of the values that agree with one. All at any width.
use Rattle.std.specs.Prelude.{◌≡◌, ℕ, ◌+◌, ◌-◌, ◌*◌, ◌/◌, ◌%◌, ◌^◌, ◌<◌, ◌≤◌, min}
use Rattle.std.proofs.Common.{sym, ap, ap₂, ◌∙◌, ⊎_elim, zero-le, le_trans, le_of_eq, mod-lt, lt_of_le_of_lt, le_antisymm, arith, pow_pos}
use Rattle.std.proofs.Math.Nat.{min-le_right, min-eq_left}
use Rattle.std.proofs.Math.Pow.{split, ones_sub-lt}
use Rattle.std.specs.Int.Bits.{bit_and, and_self}
use Rattle.std.proofs.lemmas.Nat.{and_le_r, and_shr, and_mod, and_block}
use Rattle.words.specs.Bits.{bit}
use Rattle.words.specs.laws.Bits.{bit_lt, bit_of_zero, bit_high, bit_of_and, bit_ext, bit_shl, bit_shl_low, bit_not, ones_bit, lt_or_ge, split_at}
use Rattle.words.specs.Agree.{Agrees, Within}

pub bits_of_within : {a b : ℕ} → Within a b → (i : ℕ) → bit i a ≤ bit i b
bits_of_within {a} {b} h i =
    let e : bit i a ≡ min (bit i a) (bit i b) = ap (bit i) (sym h.is) ∙ bit_of_and i a b in
    le_trans (le_of_eq e) (min-le_right (bit i a) (bit i b))

pub within_of_bits : (a b : ℕ) → ((i : ℕ) → bit i a ≤ bit i b) → Within a b
within_of_bits a b h = record { is = bit_ext (bit_and a b) a (λ i. bit_of_and i a b ∙ min-eq_left (h i)) }

-- the two ways of saying that a value agrees
pub agrees_of_within : {lo hi v : ℕ} → Within lo v → Within v hi → Agrees lo hi v
agrees_of_within a b = record { over = bits_of_within a; under = bits_of_within b }

pub lo_within : {lo hi v : ℕ} → Agrees lo hi v → Within lo v
lo_within {lo} {hi} {v} g = within_of_bits lo v g.over

pub within_hi : {lo hi v : ℕ} → Agrees lo hi v → Within v hi
within_hi {lo} {hi} {v} g = within_of_bits v hi g.under

-- ---- the order of words as sets of bits

pub within_le : {a b : ℕ} → Within a b → a ≤ b
within_le {a} {b} h = le_trans (le_of_eq (sym h.is)) (and_le_r a b)

pub within_refl : (a : ℕ) → Within a a
within_refl a = record { is = and_self a }

pub within_trans : {a b c : ℕ} → Within a b → Within b c → Within a c
within_trans {a} {b} {c} h k = within_of_bits a c (λ i. le_trans (bits_of_within h i) (bits_of_within k i))

pub within_antisym : {a b : ℕ} → Within a b → Within b a → a ≡ b
within_antisym h k = le_antisymm (within_le h) (within_le k)

pub within_zero : (b : ℕ) → Within 0 b
within_zero b = within_of_bits 0 b (λ i. le_trans (le_of_eq (bit_of_zero i)) zero-le)

pub within_ones : {v : ℕ} (w : ℕ) → v < 2 ^ w → Within v (2 ^ w - 1)
within_ones {v} w h =
    within_of_bits v (2 ^ w - 1)
    (λ i. ⊎_elim (λ (l : i < w). rw (ones_bit i w l) (omega (arith, bit_lt i v))) (λ (l : w ≤ i). rw (bit_high i v w h l) zero-le) (lt_or_ge i w))

pub agrees_lt : {lo hi v : ℕ} (w : ℕ) → hi < 2 ^ w → Agrees lo hi v → v < 2 ^ w
agrees_lt w h g = lt_of_le_of_lt (within_le (within_hi g)) h

-- what agrees with a pair that is fully fixed is its one value
pub agrees_only : {lo hi v : ℕ} → Agrees lo hi v → lo ≡ hi → v ≡ lo
agrees_only {lo} {hi} {v} a e = within_antisym (rw (← e) at (within_hi a)) (lo_within a)

-- a bit is within 1
pub bit_within_one : (x : ℕ) → x < 2 → Within x 1
bit_within_one x h = within_ones 1 h

-- ---- what keeps the order

pub within_div : {a b : ℕ} (k : ℕ) → Within a b → Within (a / 2 ^ k) (b / 2 ^ k)
within_div {a} {b} k h = record { is = sym (and_shr a b k) ∙ ap (λ (n : ℕ). n / 2 ^ k) h.is }

pub within_mod : {a b : ℕ} (k : ℕ) → Within a b → Within (a % 2 ^ k) (b % 2 ^ k)
within_mod {a} {b} k h = record { is = sym (and_mod a b k) ∙ ap (λ (n : ℕ). n % 2 ^ k) h.is }

-- the high parts and the low parts apart
pub within_join : (k a b : ℕ) → Within (a / 2 ^ k) (b / 2 ^ k) → Within (a % 2 ^ k) (b % 2 ^ k) → Within a b
within_join k a b h l = record {
  is =
      ap₂ bit_and (sym (split a k)) (sym (split b k))
      ∙ and_block k (a / 2 ^ k) (b / 2 ^ k) (a % 2 ^ k) (b % 2 ^ k) (mod-lt a (pow_pos k)) (mod-lt b (pow_pos k))
      ∙ ap₂ (λ (x y : ℕ). x * 2 ^ k + y) h.is l.is
      ∙ split a k;
}

pub within_over : {a b c d : ℕ} (k : ℕ) → c < 2 ^ k → d < 2 ^ k → Within a b → Within c d → Within (a * 2 ^ k + c) (b * 2 ^ k + d)
within_over {a} {b} {c} {d} k hc hd h l = record { is = and_block k a b c d hc hd ∙ ap₂ (λ (x y : ℕ). x * 2 ^ k + y) h.is l.is }

pub within_shl : {a b : ℕ} (k : ℕ) → Within a b → Within (a * 2 ^ k) (b * 2 ^ k)
within_shl {a} {b} k h =
    within_of_bits (a * 2 ^ k) (b * 2 ^ k)
    (split_at (λ (i : ℕ). bit i (a * 2 ^ k) ≤ bit i (b * 2 ^ k)) k
    (λ i l. rw (bit_shl_low i a k l) zero-le) (λ i. rw (bit_shl i a k, bit_shl i b k) (bits_of_within h i)))

pub within_and_both : {a b c d : ℕ} → Within a b → Within c d → Within (bit_and a c) (bit_and b d)
within_and_both {a} {b} {c} {d} h k =
    within_of_bits (bit_and a c) (bit_and b d) (λ i. rw (bit_of_and i a c, bit_of_and i b d) (omega (arith, bits_of_within h i, bits_of_within k i)))

pub within_not : {a b : ℕ} (w : ℕ) → a < 2 ^ w → b < 2 ^ w → Within a b → Within ((2 ^ w - 1) - b) ((2 ^ w - 1) - a)
within_not {a} {b} w ha hb h =
    within_of_bits ((2 ^ w - 1) - b) ((2 ^ w - 1) - a)
    (λ i. ⊎_elim (λ (l : i < w). rw (bit_not i w a ha l, bit_not i w b hb l) (omega (arith, bits_of_within h i)))
    (λ (l : w ≤ i). rw (bit_high i ((2 ^ w - 1) - b) w (ones_sub-lt w b) l) zero-le) (lt_or_ge i w))
