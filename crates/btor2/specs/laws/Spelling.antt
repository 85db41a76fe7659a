-- That what is spelled out in several nodes means what the line means: not, and, add and eq make or, sub and neq; concat with 0 extends;
-- a negative reference is a not.
use Rattle.std.specs.Prelude.{◌≡◌, refl, Bool, true, false, not, ℕ, ◌+◌, ◌-◌, ◌*◌, ◌%◌, ◌^◌, ◌≤◌, ◌<◌, eqb, ltb}
use Rattle.std.proofs.Common.{sym, ◌∙◌, arith, mod-eq_of_lt, ltb-true, ltb-false, ⊎_elim}
use Rattle.std.proofs.Math.Nat.{mod-eq-sub-mod}
use Rattle.std.specs.Int.Bits.{bit_and, bit_or}
use Rattle.std.proofs.lemmas.Nat.{and_le_l, or_lt}
use Rattle.words.specs.Bits.{bit}
use Rattle.words.specs.laws.Bits.{bit_lt, bit_of_and, bit_of_or, bit_not, bit_ext, bit_high, lt_or_ge}
use Rattle.std.proofs.Math.Pow.{ones_sub-lt}
use Rattle.operators.specs.Meaning.{flag}
use Rattle.btor2.specs.Meaning.{flipped}

-- sub: not (not x + y)
below_split : (m x y : ℕ) (t : Bool) → ltb x y ≡ t → x < m → y < m → (m - 1) - (((m - 1) - x) + y) % m ≡ (x + (m - y)) % m
below_split m x y true e h l =
    let g : x < y = ltb-true x y e in
    let a : (((m - 1) - x) + y) % m ≡ (((m - 1) - x) + y) - m =
    mod-eq-sub-mod (omega arith) ∙ mod-eq_of_lt (omega arith) in
    let b : (x + (m - y)) % m ≡ x + (m - y) = mod-eq_of_lt (omega arith) in
    omega arith
below_split m x y false e h l =
    let g : y ≤ x = ltb-false x y e in
    let a : (((m - 1) - x) + y) % m ≡ ((m - 1) - x) + y = mod-eq_of_lt (omega arith) in
    let b : (x + (m - y)) % m ≡ (x + (m - y)) - m = mod-eq-sub-mod (omega arith) ∙ mod-eq_of_lt (omega arith) in
    omega arith

pub spelled_sub : (w x y : ℕ) → x < 2 ^ w → y < 2 ^ w → flipped w ((flipped w x + y) % 2 ^ w) ≡ (x + (2 ^ w - y)) % 2 ^ w
spelled_sub w x y h l = below_split (2 ^ w) x y (ltb x y) refl h l

-- neq: not eq, of width 1
pub spelled_neq : (x y : ℕ) → flipped 1 (flag (eqb x y)) ≡ flag (not (eqb x y))
spelled_neq x y = by (eqb x y)
  where
    by : (t : Bool) → flipped 1 (flag t) ≡ flag (not t)
    by true = refl
    by false = refl

-- uext: 0 in front
pub spelled_uext : (wa x : ℕ) → 0 * 2 ^ wa + x ≡ x
spelled_uext wa x = omega arith

-- or: not (not x and not y), bit by bit
pub spelled_or : (w x y : ℕ) → x < 2 ^ w → y < 2 ^ w → flipped w (bit_and (flipped w x) (flipped w y)) ≡ bit_or x y
spelled_or w x y h l = bit_ext (flipped w a) (bit_or x y) (λ i. ⊎_elim (low i) (high i) (lt_or_ge i w))
  where
    a : ℕ
    a = bit_and (flipped w x) (flipped w y)

    small : a < 2 ^ w
    small = omega (arith, and_le_l (flipped w x) (flipped w y), ones_sub-lt w x)

    low : (i : ℕ) → i < w → bit i (flipped w a) ≡ bit i (bit_or x y)
    low i g =
        bit_not i w a small g
        ∙ rw (bit_of_and i (flipped w x) (flipped w y), bit_not i w x h g, bit_not i w y l g, bit_of_or i x y) (omega (arith, bit_lt i x, bit_lt i y))

    high : (i : ℕ) → w ≤ i → bit i (flipped w a) ≡ bit i (bit_or x y)
    high i g = bit_high i (flipped w a) w (ones_sub-lt w a) g ∙ sym (bit_high i (bit_or x y) w (or_lt w x y h l) g)
