-- Whether a number is 2^w or more, by a shift down.
use mathlib.Core.Path.{◌≡◌, refl, sym}
use mathlib.Core.Bool.{Bool, true, false, not}
use Prim.Native.Nat.{ℕ, ◌/◌, ◌^◌, ◌≤◌, ◌<◌}
use native.Mathlib.Omega.{arith}
use native.Mathlib.Nat.{div-eq_of_lt, le-div_iff_mul-le, one-mul, lt_of_lt_of_le}
use lib.Dec.{leb, eqb}
use lib.Pow.{pow_pos, pow_mono}
use borrow.Author.Tests.{leb-true, leb-false, le-leb, lt-leb, ne_eqb}

-- a number shifted down by w is not 0 exactly if it is 2^w or more
pub shifted_out : (x w : ℕ) → not (eqb (x / 2 ^ w) 0) ≡ leb (2 ^ w) x
shifted_out x w = by_test (leb (2 ^ w) x) refl
  where
    small : x < 2 ^ w → not (eqb (x / 2 ^ w) 0) ≡ leb (2 ^ w) x
    small h = rw (div-eq_of_lt h, lt-leb _ _ h)

    large : 2 ^ w ≤ x → not (eqb (x / 2 ^ w) 0) ≡ leb (2 ^ w) x
    large h =
        let pos : 1 ≤ x / 2 ^ w = (le-div_iff_mul-le (pow_pos w)).1 (rw one-mul h) in
        let ne : (x / 2 ^ w ≡ 0 → ⊥) = λ e. omega arith in
        rw (ne_eqb _ _ ne, le-leb _ _ h)

    by_test : (t : Bool) → leb (2 ^ w) x ≡ t → not (eqb (x / 2 ^ w) 0) ≡ leb (2 ^ w) x
    by_test true e = large (leb-true _ _ e)
    by_test false e = small (leb-false _ _ e)

-- a number of 64 bits is below 2^w from w = 64 on
pub wide_enough : (x w : ℕ) → x < 2 ^ 64 → 64 ≤ w → false ≡ leb (2 ^ w) x
wide_enough x w h l = sym (lt-leb _ _ (lt_of_lt_of_le h (pow_mono l)))
