-- "As lshr with the sign's ternary bit filling", "the top bit's state is copied": an arithmetic shift and a sign extension, bit by bit.
use Rattle.std.specs.Prelude.{◌≡◌, ℕ, zero, suc, ◌+◌, ◌-◌, ◌*◌, ◌/◌, ◌^◌, ◌≤◌, ◌<◌}
use Rattle.std.proofs.Common.{sym, ap, ◌∙◌, ⊎_elim, lt_of_le_of_lt, one-mul, zero-mul, arith}
use Rattle.std.proofs.lemmas.Nat.{shr_le}
use Rattle.std.proofs.Math.Pow.{ones_sub-lt}
use Rattle.words.specs.Bits.{bit}
use Rattle.words.specs.laws.Bits.{bit_lt, bit_of_zero, bit_high, bit_shr, bit_not, bit_over_low, bit_over_high, ones_bit, lt_or_ge}
use Rattle.operators.specs.Meaning.{sign, signed_shift, extended}
use Rattle.operators.specs.laws.Signed.{sign_clear, sign_set, ashr_low, ashr_high}

module _ (w x s j : ℕ) (h : 1 ≤ w) (u : x < 2 ^ w) (l : j < w) where
  -- what a negative word is shifted to, by the bits of its complement
  of_not : 2 ^ (w - 1) ≤ x → bit j (signed_shift w x s) ≡ 1 - bit (s + j) ((2 ^ w - 1) - x)
  of_not k =
      ap (bit j) (ashr_high w s h k u) ∙ bit_not j w (((2 ^ w - 1) - x) / 2 ^ s) (lt_of_le_of_lt (shr_le ((2 ^ w - 1) - x) s) (ones_sub-lt w x)) l
      ∙ ap (λ (b : ℕ). 1 - b) (bit_shr j ((2 ^ w - 1) - x) s)

  pub ashr_kept : s + j < w → bit j (signed_shift w x s) ≡ bit (s + j) x
  ashr_kept i =
      ⊎_elim (λ (k : x < 2 ^ (w - 1)). ap (bit j) (ashr_low w s k) ∙ bit_shr j x s)
      (λ (k : 2 ^ (w - 1) ≤ x). of_not k ∙ ap (λ (b : ℕ). 1 - b) (bit_not (s + j) w x u i) ∙ omega (arith, bit_lt (s + j) x)) (lt_or_ge x (2 ^ (w - 1)))

  pub ashr_filled : w ≤ s + j → bit j (signed_shift w x s) ≡ sign w x
  ashr_filled i =
      ⊎_elim (λ (k : x < 2 ^ (w - 1)). ap (bit j) (ashr_low w s k) ∙ bit_shr j x s ∙ bit_high (s + j) x w u i ∙ sym (sign_clear w k))
      (λ (k : 2 ^ (w - 1) ≤ x). of_not k ∙ ap (λ (b : ℕ). 1 - b) (bit_high (s + j) ((2 ^ w - 1) - x) w (ones_sub-lt w x) i) ∙ sym (sign_set w h k u)) (lt_or_ge x (2 ^ (w - 1)))

pub extended_kept : (wa w x j : ℕ) → x < 2 ^ wa → j < wa → bit j (extended wa w x) ≡ bit j x
extended_kept wa w x j u l = bit_over_low j (sign wa x * (2 ^ (w - wa) - 1)) x wa u l

pub extended_filled : (wa w x i : ℕ) → x < 2 ^ wa → i < w - wa → bit (wa + i) (extended wa w x) ≡ sign wa x
extended_filled wa w x i u l = bit_over_high i (sign wa x * (2 ^ (w - wa) - 1)) x wa u ∙ repeated (sign wa x) (bit_lt (wa - 1) x)
  where
    repeated : (s : ℕ) → s < 2 → bit i (s * (2 ^ (w - wa) - 1)) ≡ s
    repeated zero k = ap (bit i) (zero-mul (2 ^ (w - wa) - 1)) ∙ bit_of_zero i
    repeated (suc zero) k = ap (bit i) (one-mul (2 ^ (w - wa) - 1)) ∙ ones_bit i (w - wa) l
    repeated (suc (suc s)) k = absurd (omega arith)
