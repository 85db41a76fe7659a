-- Laws of constants: what fits a width, and two's complement.
use Rattle.std.specs.Prelude.{◌≡◌, Bool, cond, not, ◌&&◌, ◌||◌, List, [], ◌∷◌, ℕ, zero, suc, ◌+◌, ◌-◌, ◌*◌, ◌/◌, ◌^◌, ◌≤◌, ◌<◌, leb, length, Option, Some, None, ◌%◌}
use Rattle.std.proofs.Math.Path.{refl}
use Rattle.std.proofs.Common.{sym, ◌∙◌, true≢false, pow-suc, mod-eq_of_lt, mul-le-mul_right}
use Rattle.std.proofs.Math.Bool.{true, false}
use native.Mathlib.Omega.{arith}
use Rattle.std.proofs.Math.Nat.{pow-zero, mod_self}
use Rattle.std.proofs.Math.Dec.{eqb, ltb, eqb-suc-zero}
use Rattle.std.proofs.Math.Pow.{pow_pos, pow_mono, not_mod}
use borrow.Author.Tests.{ne_eqb, lt-ltb, le-ltb, ltb-true, ltb-false, eqb-true, eqb-false, leb-true, lt-leb}
use Rattle.texts.specs.Numbers.{digit_of, all_in, digits_in, value_from, value_in, numbered}
use Rattle.texts.specs.laws.Runs.{both_true}
use Rattle.texts.specs.laws.Numbers.{huge_is, small_is}
use Rattle.lines.specs.Lines.{Token}
use Rattle.lines.specs.Words.{word_of, shape}
use Rattle.lines.specs.Format.{signed, unsigned, is_constant, constant_of}
use Rattle.spelling.specs.Nodes.{constant_value}
use Rattle.spelling.specs.inner.Spelled.{short, most_of, constant_fits}
use Rattle.spelling.specs.inner.Constants.{Told, Literally}
use Rattle.std.proofs.lemmas.Bool.{false≢true}

-- ---- one of two

or_false : (a b : Bool) → (a || b) ≡ false → (a ≡ false) × (b ≡ false)
or_false true b e = absurd (true≢false e)
or_false false b e = (refl, e)

-- ---- the greatest number that fits

pub most_signed : (base w : ℕ) (t : Token) (s : Bool) (m : ℕ) → s ≡ signed t → (eqb base 10 && s) ≡ true → 1 ≤ w → m ≡ 2 ^ w - 1
    → m / 2 + 1 ≡ most_of base w t
unfolding most_of
most_signed base zero t s m e y h q = elim h [ ]
most_signed base (suc w) t s m e y h q =
    let z : suc w - 1 ≡ w = omega arith in
    rw (← e, y, q, z, pow-suc 2 w) (by (2 ^ w) (pow_pos w))
  where
    by : (p : ℕ) → 0 < p → (p * 2 - 1) / 2 + 1 ≡ p
    by p l = omega arith

pub most_plain : (base w : ℕ) (t : Token) (s : Bool) (m : ℕ) → s ≡ signed t → (eqb base 10 && s) ≡ false → m ≡ 2 ^ w - 1 → m ≡ most_of base w t
unfolding most_of
most_plain base w t s m e y q = rw (← e, y) q

-- ---- whether a constant fits

pub fits_digits : (base w : ℕ) (t : Token) → base ≡ 2 → eqb (length t) w ≡ constant_fits base w t
unfolding constant_fits
fits_digits base w t e = rw e

most_below : (base w : ℕ) (t : Token) → 1 ≤ w → most_of base w t ≤ 2 ^ w - 1
unfolding most_of
most_below base zero t h = elim h [ ]
most_below base (suc w) t h = let z : suc w - 1 ≡ w = omega arith in rw z (by (eqb base 10 && signed t))
  where
    by : (b : Bool) → cond b (2 ^ w) (2 ^ suc w - 1) ≤ 2 ^ suc w - 1
    by true = omega (arith, pow-suc 2 w, pow_pos w)
    by false = omega arith

-- of a base other than 2, a constant u that is t without its sign, and its number
module _ (base w : ℕ) (t u : Token) (r : Option ℕ) (n2 : base ≡ 2 → ⊥) (eu : u ≡ unsigned t) (er : r ≡ numbered (value_in base u)) where
  pub fits_huge : r ≡ None → 1 ≤ w → w ≤ 64 → false ≡ constant_fits base w t
  unfolding constant_fits
  fits_huge y l h =
      let b : 2 ^ 64 ≤ value_in base u = huge_is _ (sym er ∙ y) in
      let m = most_below base w t l in
      let p : 2 ^ w ≤ 2 ^ 64 = pow_mono h in
      rw (ne_eqb base 2 n2, ← eu, lt-leb (value_in base u) (most_of base w t) (omega (arith, pow_pos w)))

  pub fits_small : (n m : ℕ) → r ≡ Some n → m ≡ most_of base w t → leb n m ≡ constant_fits base w t
  unfolding constant_fits
  fits_small n m y e =
      let b : value_in base u ≡ n = small_is _ _ (sym er ∙ y) in
      rw (ne_eqb base 2 n2, ← eu, b, e)

-- ---- a constant that fits is below 2^w

digit_below : (base a d p : ℕ) → d < base → (base * a + d + 1) * p ≤ (a + 1) * (base * p)
digit_below base a d p h =
    let f : (base * a + d + 1) * p ≤ (base * a + base) * p = mul-le-mul_right p (omega arith) in
    omega arith

value_below : (base a : ℕ) (s : List ℕ) → all_in base s ≡ true → value_from base a s < (a + 1) * base ^ length s
unfolding all_in value_from
value_below base a [] h = nil (base ^ 0) (pow-zero base)
  where
    nil : (p : ℕ) → p ≡ 1 → a < (a + 1) * p
    nil p e = rw e (omega arith)
value_below base a (b ∷ s) h =
    let p = both_true (ltb (digit_of b) base) (all_in base s) h in
    let d : digit_of b < base = ltb-true (digit_of b) base p.0 in
    let i = value_below base (base * a + digit_of b) s p.1 in
    let g = digit_below base a (digit_of b) (base ^ length s) d in
    let e : base ^ suc (length s) ≡ base * base ^ length s = omega (arith, pow-suc base (length s)) in
    rw e (omega arith)

no_digit : (base b : ℕ) → base ≤ 16 → b ≡ 45 → ltb (digit_of b) base ≡ true → ⊥
unfolding digit_of
no_digit base b h e y = let g : 16 < base = ltb-true 16 base (rw e at y) in omega arith

pub not_signed : (base : ℕ) (t : Token) → base ≤ 16 → digits_in base t ≡ true → signed t ≡ false
unfolding digits_in all_in signed
not_signed base [] h y = refl
not_signed base (b ∷ t) h y = by (eqb b 45) refl
  where
    by : (c : Bool) → eqb b 45 ≡ c → c ≡ false
    by true e =
        let a = (both_true (ltb (digit_of b) base && all_in base t) (not (eqb (length (b ∷ t)) 0)) y).0 in
        absurd (no_digit base b h (eqb-true b 45 e) (both_true (ltb (digit_of b) base) (all_in base t) a).0)
    by false e = refl

plain_unsigned : (t : Token) → signed t ≡ false → unsigned t ≡ t
unfolding unsigned
plain_unsigned t e = rw e

pub constant_below : (base w : ℕ) (t : Token) → 1 ≤ w → constant_fits base w t ≡ true → is_constant base t ≡ true
    → value_in base (unsigned t) ≤ 2 ^ w - 1
unfolding constant_fits is_constant value_in digits_in
constant_below base w t l f g = by (eqb base 2) refl
  where
    by : (c : Bool) → eqb base 2 ≡ c → value_in base (unsigned t) ≤ 2 ^ w - 1
    by true e = two (eqb-true base 2 e)
      where
        two : base ≡ 2 → value_in base (unsigned t) ≤ 2 ^ w - 1
        two z =
            let g2 : digits_in 2 t ≡ true = rw z at g in
            let f2 : eqb (length t) w ≡ true = rw z at f in
            let k : length t ≡ w = eqb-true (length t) w f2 in
            let a : all_in 2 t ≡ true = (both_true (all_in 2 t) (not (eqb (length t) 0)) g2).0 in
            let v = value_below 2 0 t a in
            rw (z, plain_unsigned t (not_signed 2 t (omega arith) g2), ← k) (omega arith)
    by false e =
        let f2 : leb (value_in base (unsigned t)) (most_of base w t) ≡ true = rw e at f in
        let m = most_below base w t l in
        let b : value_in base (unsigned t) ≤ most_of base w t = leb-true _ _ f2 in
        omega arith

-- ---- a constant's value

module _ (base w : ℕ) (t u : Token) (r : Option ℕ) (eu : u ≡ unsigned t) (er : r ≡ numbered (value_in base u)) (l : 1 ≤ w) (h : w ≤ 64)
    (f : constant_fits base w t ≡ true) (g : is_constant base t ≡ true) where
  below : value_in base u ≤ 2 ^ w - 1
  below = rw eu (constant_below base w t l f g)

  pub value_huge : r ≡ None → 0 ≡ constant_value w (constant_of base t)
  value_huge y =
      let b : 2 ^ 64 ≤ value_in base u = huge_is _ (sym er ∙ y) in
      let p : 2 ^ w ≤ 2 ^ 64 = pow_mono h in
      absurd (let k = below in omega (arith, pow_pos w))

  number_is : (n : ℕ) → r ≡ Some n → value_in base (unsigned t) ≡ n
  number_is n y = rw (← eu) (small_is _ _ (sym er ∙ y))

  pub value_plain : (n : ℕ) (s : Bool) → r ≡ Some n → s ≡ signed t → s ≡ false → n ≡ constant_value w (constant_of base t)
  unfolding constant_value constant_of
  value_plain n s y e z = rw (← e, z) (sym (number_is n y))

  pub value_none : (n m : ℕ) (s : Bool) → r ≡ Some n → s ≡ signed t → s ≡ true → m ≡ 2 ^ w - 1 → (eqb n 0 || ltb m n) ≡ true
      → 0 ≡ constant_value w (constant_of base t)
  unfolding constant_value constant_of
  value_none n m s y e z q o =
      let k : n ≤ 2 ^ w - 1 = rw (eu, number_is n y) at below in
      let d : 2 ^ w - 0 ≡ 2 ^ w = omega arith in
      rw (← e, z, number_is n y, zero_is n m k q o, d) (sym (mod_self (2 ^ w)))
    where
      zero_is : (n m : ℕ) → n ≤ 2 ^ w - 1 → m ≡ 2 ^ w - 1 → (eqb n 0 || ltb m n) ≡ true → n ≡ 0
      zero_is n m k q o = by (eqb n 0) refl
        where
          by : (b : Bool) → eqb n 0 ≡ b → n ≡ 0
          by true i = eqb-true n 0 i
          by false i = absurd (let j : m < n = ltb-true m n (rw i at o) in omega arith)

  pub value_minus : (n m : ℕ) (s : Bool) → r ≡ Some n → s ≡ signed t → s ≡ true → m ≡ 2 ^ w - 1 → (eqb n 0 || ltb m n) ≡ false
      → m - n + 1 ≡ constant_value w (constant_of base t)
  unfolding constant_value constant_of
  value_minus n m s y e z q o =
      let p = or_false (eqb n 0) (ltb m n) o in
      let i : n ≡ 0 → ⊥ = eqb-false n 0 p.0 in
      let j : n ≤ m = ltb-false m n p.1 in
      rw (← e, z, number_is n y) (sym (mod-eq_of_lt (small n i) ∙ same n m q j))
    where
      small : (n : ℕ) → (n ≡ 0 → ⊥) → 2 ^ w - n < 2 ^ w
      small n i = omega (arith, pow_pos w)

      same : (n m : ℕ) → m ≡ 2 ^ w - 1 → n ≤ m → 2 ^ w - n ≡ m - n + 1
      same n m q j = omega (arith, pow_pos w)

pub value_inside : (n m : ℕ) → (eqb n 0 || ltb m n) ≡ false → (n ≤ m) × (0 < n)
value_inside n m o =
    let p = or_false (eqb n 0) (ltb m n) o in
    let i : n ≡ 0 → ⊥ = eqb-false n 0 p.0 in
    (ltb-false m n p.1, some n i)
  where
    some : (x : ℕ) → (x ≡ 0 → ⊥) → 0 < x
    some x i = omega arith

-- ---- what a keyword tells

no_case : (k a b : ℕ) → k ≡ a → (a ≡ b → ⊥) → k ≡ b → ⊥
no_case k a b e n f = n (sym e ∙ f)

pub told_zero : (k w : ℕ) (t : Token) → k ≡ 2 → Told k w t 0
told_zero k w t e =
    record {
      zero_is = λ z. refl;
      one_is = λ z. absurd (omega arith);
      ones_are = λ z l h. absurd (omega arith);
      constant_is = λ z p l h f g. absurd (omega arith);
    }

pub told_one : (k w : ℕ) (t : Token) → k ≡ 3 → Told k w t 1
told_one k w t e =
    record {
      zero_is = λ z. absurd (omega arith);
      one_is = λ z. refl;
      ones_are = λ z l h. absurd (omega arith);
      constant_is = λ z p l h f g. absurd (omega arith);
    }

pub told_ones : (k w : ℕ) (t : Token) (v : ℕ) → k ≡ 4 → (w ≤ 64 → v ≡ 2 ^ w - 1) → Told k w t v
told_ones k w t v e f =
    record {
      zero_is = λ z. absurd (omega arith);
      one_is = λ z. absurd (omega arith);
      ones_are = λ z l h. f h;
      constant_is = λ z p l h f g. absurd (omega arith);
    }

pub told_constant : (k w : ℕ) (t : Token) (b v : ℕ) → (k ≡ 2 → ⊥) → (k ≡ 3 → ⊥) → (k ≡ 4 → ⊥) → b ≡ (shape (word_of k)).base
    → (0 < b → 1 ≤ w → w ≤ 64 → constant_fits b w t ≡ true → is_constant b t ≡ true → v ≡ constant_value w (constant_of b t))
    → Told k w t v
told_constant k w t b v n2 n3 n4 e f =
    record {
      zero_is = λ z. absurd (n2 z);
      one_is = λ z. absurd (n3 z);
      ones_are = λ z l h. absurd (n4 z);
      constant_is = λ z p. rw e at f p;
    }

pub literally : (k w : ℕ) (t : Token) (b v : ℕ) (a : Bool) → b ≡ (shape (word_of k)).base
    → (0 < b → 1 ≤ w → w ≤ 64 → a ≡ constant_fits b w t) → Told k w t v → Literally k w t (record { fits = a; value = v })
literally k w t b v a e f o = record { fits_is = rw e at f; value_is = o }

-- ---- short numbers

pub short_huge : (u : Token) (r : Option ℕ) → r ≡ numbered (value_in 10 u) → r ≡ None → 128 ≡ short (value_in 10 u)
unfolding short
short_huge u r q y = let b : 2 ^ 64 ≤ value_in 10 u = huge_is _ (sym q ∙ y) in rw (le-ltb (value_in 10 u) 128 (omega arith))

pub short_small : (u : Token) (r : Option ℕ) (n : ℕ) → r ≡ numbered (value_in 10 u) → r ≡ Some n → n < 128 → n ≡ short (value_in 10 u)
unfolding short
short_small u r n q y l = let b : value_in 10 u ≡ n = small_is _ _ (sym q ∙ y) in rw (b, lt-ltb n 128 l)

pub short_wide : (u : Token) (r : Option ℕ) (n : ℕ) → r ≡ numbered (value_in 10 u) → r ≡ Some n → 128 ≤ n → 128 ≡ short (value_in 10 u)
unfolding short
short_wide u r n q y l = let b : value_in 10 u ≡ n = small_is _ _ (sym q ∙ y) in rw (b, le-ltb n 128 l)

-- all ones, as they are cut
or_none : (a b : Bool) → a ≡ false → b ≡ false → (a || b) ≡ false
or_none true b e f = e
or_none false b e f = f

pub ones_cut : (w : ℕ) → w ≤ 64 → (2 ^ 64 - 1) % 2 ^ w ≡ 2 ^ w - 1
ones_cut w h =
    let e : (64 - w) + w ≡ 64 = omega arith in
    let f : ((2 ^ ((64 - w) + w) - 1) - 0) % 2 ^ w ≡ (2 ^ w - 1) - 0 = not_mod {a = 0} (64 - w) w (pow_pos w) in
    let g : (2 ^ w - 1) - 0 ≡ 2 ^ w - 1 = omega arith in
    (rw e at f) ∙ g

pub ones_none : (w : ℕ) → (eqb w 0 || ltb 64 w) ≡ true → w ≤ 64 → 0 ≡ 2 ^ w - 1
ones_none zero e h = refl
ones_none (suc w) e h = absurd (by (ltb 64 (suc w)) refl)
  where
    by : (b : Bool) → ltb 64 (suc w) ≡ b → ⊥
    by true l = let g : 64 < suc w = ltb-true 64 (suc w) l in omega arith
    by false l = false≢true (sym (or_none (eqb (suc w) 0) (ltb 64 (suc w)) (eqb-suc-zero w) l) ∙ e)

pub ones_range : (w : ℕ) → (eqb w 0 || ltb 64 w) ≡ false → (1 ≤ w) × (w ≤ 64)
ones_range w e =
    let p = or_false (eqb w 0) (ltb 64 w) e in
    let n : w ≡ 0 → ⊥ = eqb-false w 0 p.0 in
    let m : w ≤ 64 = ltb-false 64 w p.1 in
    (some w n, m)
  where
    some : (x : ℕ) → (x ≡ 0 → ⊥) → 1 ≤ x
    some x n = omega arith
