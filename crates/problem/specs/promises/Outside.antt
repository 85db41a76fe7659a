-- Refusal 12's "lo has a bit outside hi", of single bits: the test that code makes by `&` is true exactly if there is such a bit.
use Rattle.std.specs.Prelude.{◌≡◌, refl, Bool, true, false, ℕ, zero, suc, ◌-◌, ◌^◌, ◌<◌}
use Rattle.std.proofs.Common.{sym, ◌∙◌, true≢false, arith, pow-suc}
use Rattle.std.specs.Int.Count.{count_trailing_zeros}
use Rattle.words.specs.Bits.{bit}
use Rattle.words.specs.laws.Bits.{bit_lt}
use Rattle.words.specs.Agree.{Within}
use Rattle.words.specs.laws.Agree.{bits_of_within}
use Rattle.words.specs.inner.Decides.{Decides}
use Rattle.words.specs.inner.Words.{less}
use Rattle.words.specs.laws.Less.{bit_less, within_of_less}
use Rattle.words.specs.laws.Zeros.{trailing}
use Rattle.problem.specs.Refusals.{bit_outside}
use Rattle.problem.specs.laws.Facts.{within_right}

-- a bit that is set in lo and clear in hi
pub record OutsideBit (lo hi : ℕ) : Type 0 where
  pub at : ℕ
  pub set : bit at lo ≡ 1
  pub clear : bit at hi ≡ 0

below_power : (n : ℕ) → n < 2 ^ n
below_power zero = omega arith
below_power (suc n) = omega (arith, below_power n, pow-suc 2 n)

-- the bits of lo that are not in hi, taken as a number, are not 0: the lowest of them is such a bit
lowest : (lo hi : ℕ) → (less lo hi ≡ 0 → ⊥) → OutsideBit lo hi
unfolding bit
lowest lo hi h =
    let d = less lo hi in
    let i = count_trailing_zeros d d in
    let e : bit i lo - bit i hi ≡ 1 = sym (bit_less i lo hi) ∙ (trailing d d (omega arith) (below_power d)).set in
    let a = bit_lt i lo in
    record { at = i; set = omega arith; clear = omega arith }

none_outside : (lo hi : ℕ) → Within lo hi → OutsideBit lo hi → ⊥
none_outside lo hi w o = omega (arith, bits_of_within w o.at, o.set, o.clear)

pub outside_bits : (lo hi : ℕ) → Decides (OutsideBit lo hi) (bit_outside lo hi)
outside_bits lo hi = told (bit_outside lo hi) refl
  where
    told : (t : Bool) → bit_outside lo hi ≡ t → Decides (OutsideBit lo hi) t
    told true e = lowest lo hi (λ z. true≢false (sym e ∙ (within_right lo hi).1 (within_of_less lo hi z)))
    told false e = none_outside lo hi ((within_right lo hi).0 e)
