-- Division: which dividends and which divisors give a quotient.
use Rattle.std.proofs.Common.{◌≡◌, ℕ, zero, suc, ◌+◌, ◌-◌, ◌*◌, ◌/◌, ◌%◌, ◌^◌, ◌<◌, ◌≤◌, sym, refl, ap, ◌∙◌, zero-le, le_trans, le_of_eq, lt_of_lt_of_le, not-suc-le-zero, lt_of_le_of_lt, mul_comm, div-lt_iff_lt-mul, pos_of_ne-zero, mul-le-mul_left, le-div_iff_mul-le, div-le_self, div-mul-le_self, mul-div_cancel, arith, pow_pos, pow_mono}
use native.Mathlib.Nat.{div-eq_of_lt, div-eq_of_lt-le, div-add-mod, lt-div-mul-add}
use lib.Pow.{ones_lt, le_ones}
use Rattle.operators.specs.Meaning.{quotient}
use Rattle.boxes.specs.declared.Set.{Set}
use Rattle.boxes.specs.declared.Set.TheVariants.{Many}
use Rattle.boxes.specs.declared.unions.Union.TheVariants.{Dividends}
use Rattle.boxes.specs.inner.Boxes.{Solves, SomeWord}
use Rattle.picking.specs.inner.Asks.{Short}
use Rattle.boxes.specs.laws.Solves.{solves_by}

-- ---- the quotient by a divisor that is not 0

-- t times y is at most x, and t + 1 times y is more
record Quoted (x y t : ℕ) : Type 0 where
  low : t * y ≤ x
  high : x < (t + 1) * y

quotient_some : (w x y : ℕ) → 0 < y → quotient w x y ≡ x / y
quotient_some w x zero h = absurd (not-suc-le-zero h)
quotient_some w x (suc y) h = refl

quoted_to : (w : ℕ) {x y t : ℕ} → 0 < y → Quoted x y t → quotient w x y ≡ t
quoted_to w {x} {y} {t} h q = quotient_some w x y h ∙ div-eq_of_lt-le y q.low q.high

quoted_back : (w x y t : ℕ) → 0 < y → quotient w x y ≡ t → Quoted x y t
quoted_back w x y t h e =
    let d : x / y ≡ t = sym (quotient_some w x y h) ∙ e in
    let p : x / y * y ≡ t * y = ap (λ (n : ℕ). n * y) d in
    record { low = le_trans (le_of_eq (sym p)) (div-mul-le_self x y); high = lt_of_lt_of_le (lt-div-mul-add {a = x} h) (le_of_eq (next (x / y * y) p)) }
  where
    next : (n : ℕ) → n ≡ t * y → n + y ≡ (t + 1) * y
    next n p = omega arith

-- a divisor of which the quotient is not all ones is not 0
divisor_some : (w x y t : ℕ) → (t ≡ 2 ^ w - 1 → ⊥) → quotient w x y ≡ t → 0 < y
divisor_some w x zero t f e = absurd (f (sym e))
divisor_some w x (suc y) t f e = omega arith

-- all ones are not 0
ones_some : (w : ℕ) → 1 ≤ w → 0 ≡ 2 ^ w - 1 → ⊥
ones_some w h e = let l : 2 ≤ 2 ^ w = pow_mono h in omega arith

-- 0 + 1 times y is y
once : {x y t : ℕ} → t ≡ 0 → x < (t + 1) * y → x < y
once {x} {y} {t} e h = let p : (t + 1) * y ≡ y = ap (λ (n : ℕ). (n + 1) * y) e ∙ omega arith in omega arith

short_wide : {w t : ℕ} → Short w t → w ≤ 64
short_wide z = omega (arith, z.short)

-- ---- products of words of 16 bits

pub short_lt : {w x : ℕ} → w ≤ 16 → x < 2 ^ w → x < 2 ^ 16
short_lt h l = lt_of_lt_of_le l (pow_mono h)

-- ---- the dividend

pub dividend_by : {w s t : ℕ} {r : Set} → Short w t → (s ≡ 0 → ⊥) → Solves 64 (λ v. (t * s ≤ v) × (v ≤ t * s + (s - 1))) r → Solves w (λ v. quotient w v s ≡ t) r
dividend_by {w} {s} {t} z f m =
    let h : 0 < s = pos_of_ne-zero f in
    solves_by (short_wide z) m (λ v l e. quoted_to w h (record { low = e.0; high = above v (t * s) refl e.1 }))
    (λ v l e. let q = quoted_back w v s t h e in (q.low, upto v (t * s) refl q.high))
  where
    above : (v p : ℕ) → p ≡ t * s → v ≤ p + (s - 1) → v < (t + 1) * s
    above v p e l = let h : 0 < s = pos_of_ne-zero f in omega arith

    upto : (v p : ℕ) → p ≡ t * s → v < (t + 1) * s → v ≤ p + (s - 1)
    upto v p e l = omega arith

-- ---- the divisor
module _ {w x t : ℕ} {r : Set} (z : Short w t) (hx : x < 2 ^ w) where
  pub divisor_zero : t ≡ 0 → Solves 64 (λ v. x < v) r → Solves w (λ v. quotient w x v ≡ t) r
  divisor_zero e m =
      solves_by (short_wide z) m (λ v l h. quotient_some w x v (lt_of_le_of_lt zero-le h) ∙ div-eq_of_lt h ∙ sym e)
      (λ v l q. let h = divisor_some w x v t (λ o. ones_some w z.some (sym e ∙ o)) q in once e (quoted_back w x v t h q).high)

  pub divisor_ones : t ≡ 2 ^ w - 1 → Solves 64 (λ v. (0 ≤ v) × (v ≤ x / t)) r → Solves w (λ v. quotient w x v ≡ t) r
  divisor_ones e m = solves_by (short_wide z) m (λ v l q. to v q.1) (λ v l q. (zero-le, back v q))
    where
      some : 0 < t
      some = pos_of_ne-zero (λ o. ones_some w z.some (sym o ∙ e))

      under : (v : ℕ) → 0 < v → x < (t + 1) * v
      under v h = lt_of_lt_of_le (omega (arith, pow_pos w)) (mul-le-mul_left (t + 1) h)

      to : (v : ℕ) → v ≤ x / t → quotient w x v ≡ t
      to zero h = sym e
      to (suc v) h = quoted_to w (omega arith) (record { low = le_trans (le_of_eq (omega arith)) ((le-div_iff_mul-le some).0 h); high = under (suc v) (omega arith) })

      back : (v : ℕ) → quotient w x v ≡ t → v ≤ x / t
      back zero q = zero-le
      back (suc v) q = (le-div_iff_mul-le some).1 (le_trans (le_of_eq (omega arith)) (quoted_back w x (suc v) t (omega arith) q).low)

  pub divisor_by : (t ≡ 0 → ⊥) → (t ≡ 2 ^ w - 1 → ⊥) → Solves 64 (λ v. (x / (t + 1) + 1 ≤ v) × (v ≤ x / t)) r → Solves w (λ v. quotient w x v ≡ t) r
  divisor_by f g m =
      solves_by (short_wide z) m
      (λ v l q. quoted_to w (lt_of_lt_of_le (omega arith) q.0)
      (record {
        low = le_trans (le_of_eq (omega arith)) ((le-div_iff_mul-le (pos_of_ne-zero f)).0 q.1);
        high = lt_of_lt_of_le ((div-lt_iff_lt-mul next).0 (lt_of_lt_of_le (omega arith) q.0)) (le_of_eq (omega arith));
      }))
      (λ v l q.
      let k = quoted_back w x v t (divisor_some w x v t g q) q in
      let u : x / (t + 1) < v = (div-lt_iff_lt-mul next).1 (lt_of_lt_of_le k.high (le_of_eq (omega arith))) in
      (omega arith, (le-div_iff_mul-le (pos_of_ne-zero f)).1 (le_trans (le_of_eq (omega arith)) k.low)))
    where
      next : 0 < t + 1
      next = omega arith

-- ---- a dividend for some divisor
module _ {w t : ℕ} (z : Short w t) where
  -- v / t is a divisor that takes v to t exactly if the rest is less than it; and where some divisor does, it does
  pub some_dividend : {m : ℕ} → m ≡ 2 ^ w - 1 → (t ≡ 0 → ⊥) → (t ≡ m → ⊥) → Solves w (λ v. SomeWord w (λ s. quotient w v s ≡ t)) (Many (Dividends t m))
  some_dividend {m} em f g =
      record {
        fine = (some, short_lt z.short z.fits, rw em (short_lt z.short (ones_lt w)));
        to = λ v h k. record { by = v / t; fits = lt_of_le_of_lt (div-le_self v t) h; gives = quoted_to w (lt_of_le_of_lt zero-le k.0) (own v (v % t) (v / t) (t * (v / t)) refl (div-add-mod v t) k.0) };
        back = λ v h q. (least v q.by (quoted_back w v q.by t (divisor_some w v q.by t (λ o. g (o ∙ sym em)) q.gives) q.gives), rw em (le_ones w h));
      }
    where
      some : 0 < t
      some = pos_of_ne-zero f

      own : (v r q p : ℕ) → p ≡ t * q → p + r ≡ v → r < q → Quoted v q t
      own v r q p e d l = record { low = omega arith; high = omega arith }

      rest : (v r y q p o : ℕ) → p + r ≡ v → o ≤ p → v < o + y → y ≤ q → r < q
      rest v r y q p o d a b c = omega arith

      least : (v y : ℕ) → Quoted v y t → v % t < v / t
      least v y k =
          let c : y ≤ v / t = (le-div_iff_mul-le some).1 (le_trans (le_of_eq (mul_comm y t)) k.low) in
          rest v (v % t) y (v / t) (t * (v / t)) (t * y) (div-add-mod v t) (mul-le-mul_left t c) (lt_of_lt_of_le k.high (le_of_eq (omega arith))) c

  -- ---- a divisor for some dividend

  pub some_divisor : {m : ℕ} {r : Set} → m ≡ 2 ^ w - 1 → (t ≡ 0 → ⊥) → (t ≡ m → ⊥) → Solves 64 (λ v. (1 ≤ v) × (v ≤ m / t)) r → Solves w (λ v. SomeWord w (λ s. quotient w s v ≡ t)) r
  some_divisor {m} em f g h =
      solves_by (short_wide z) h
      (λ v l k. record {
        by = v * t;
        fits = lt_of_le_of_lt ((le-div_iff_mul-le (pos_of_ne-zero f)).0 k.1) (omega (arith, pow_pos w));
        gives = quotient_some w (v * t) v k.0 ∙ ap (λ (n : ℕ). n / v) (mul_comm v t) ∙ mul-div_cancel t k.0;
      })
      (λ v l q.
      let p = divisor_some w q.by v t (λ o. g (o ∙ sym em)) q.gives in
      let u : q.by ≤ m = omega (arith, q.fits) in
      (p, (le-div_iff_mul-le (pos_of_ne-zero f)).1 (le_trans (le_of_eq (omega arith)) (le_trans (quoted_back w q.by v t p q.gives).low u))))
