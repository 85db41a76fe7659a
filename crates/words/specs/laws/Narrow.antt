-- Words with given low bits, and the ternary word narrowed to them. All at any width.
use Rattle.std.specs.Prelude.{◌≡◌, ℕ, ◌+◌, ◌-◌, ◌*◌, ◌/◌, ◌%◌, ◌^◌, ◌<◌, ◌≤◌}
use Rattle.std.proofs.Common.{sym, ap, ◌∙◌, subst, sub-add_cancel, arith, pow-add, shr_lt}
use Rattle.std.proofs.Math.Arith.{digits_lt}
use Rattle.std.proofs.Math.Pow.{split, high, low}
use Rattle.words.specs.Agree.{Agrees}
use Rattle.words.specs.laws.Agree.{within_refl, within_div, within_join, agrees_of_within, lo_within, within_hi}
use Rattle.words.specs.inner.Words.{over}

pub over_div : (n a c : ℕ) → c < 2 ^ n → over n a c / 2 ^ n ≡ a / 2 ^ n
unfolding over
over_div n a c h = high (a / 2 ^ n) n h

pub over_mod : (n a c : ℕ) → c < 2 ^ n → over n a c % 2 ^ n ≡ c
unfolding over
over_mod n a c h = low (a / 2 ^ n) n h

pub over_lt : (w n a c : ℕ) → n ≤ w → a < 2 ^ w → c < 2 ^ n → over n a c < 2 ^ w
unfolding over
over_lt w n a c h ha hc =
    let e : w - n + n ≡ w = sub-add_cancel h in
    subst (λ (m : ℕ). a / 2 ^ n * 2 ^ n + c < m) (sym (pow-add 2 (w - n) n) ∙ ap (λ (m : ℕ). 2 ^ m) e)
    (digits_lt (shr_lt (w - n) n (subst (λ (m : ℕ). a < 2 ^ m) (sym e) ha)) hc)

-- as code makes it
pub over_by_sub : (n a c : ℕ) → a - a % 2 ^ n + c ≡ over n a c
unfolding over
over_by_sub n a c = omega (arith, split a n)

module _ (n lo hi c : ℕ) (fits : c < 2 ^ n) where
  -- a value that agrees and has the low bits c agrees with the narrowed word
  pub narrow_to : (x : ℕ) → Agrees lo hi x → x % 2 ^ n ≡ c → Agrees (over n lo c) (over n hi c) x
  narrow_to x g e =
      agrees_of_within
      (within_join n (over n lo c) x (rw (over_div n lo c fits) (within_div n (lo_within g))) (rw (over_mod n lo c fits, e) (within_refl c)))
      (within_join n x (over n hi c) (rw (over_div n hi c fits) (within_div n (within_hi g))) (rw (over_mod n hi c fits, e) (within_refl c)))

-- the values that agree with lo, hi and have the n low bits c
pub record LowIs (lo hi n c x : ℕ) : Type 0 where
  pub agrees : Agrees lo hi x
  pub ends : x % 2 ^ n ≡ c
