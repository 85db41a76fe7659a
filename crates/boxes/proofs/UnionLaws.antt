-- Laws of the sets that are no single box: what is found in them, from what is found among the values that agree.
use Rattle.std.specs.Prelude.{Option, Some, None}
use mathlib.Core.Path.{◌≡◌, sym, subst}
use mathlib.Core.Logic.{◌⊎◌, inl, inr, ⊎_elim}
use Prim.Native.Nat.{ℕ, ◌+◌, ◌-◌, ◌*◌, ◌/◌, ◌%◌, ◌^◌, ◌≤◌, ◌<◌}
use native.Mathlib.Nat.{le_trans, le_of_eq, lt_of_not-le, not-le_of_lt, mod-lt, mul-le-mul, mul-le-mul_right, pos_of_ne-zero, eq-or-lt_of_le, div-mul-le_self, le-div_iff_mul-le, mul-div_cancel}
use native.Mathlib.Omega.{arith}
use lib.Pow.{pow_pos, shr_lt, split}
use Rattle.words.specs.Agree.{Agrees, Within}
use Rattle.words.specs.laws.Bits.{lt_or_ge}
use Rattle.words.specs.laws.Agree.{agrees_of_within, lo_within, within_hi, within_le, within_refl, within_div, within_mod, within_join}
use Rattle.words.specs.inner.Words.{lesser, over}
use Rattle.words.specs.laws.Meet.{lesser_first}
use Rattle.words.specs.laws.Narrow.{over_div, over_mod}
use Rattle.words.specs.Pick.{Empty as NoMember, Least, FirstFrom}
use Rattle.words.specs.laws.Pick.{first_same}
use Rattle.boxes.specs.declared.unions.Row.{Row}
use Rattle.boxes.specs.declared.unions.Row.TheVariants.{Left}
use Rattle.boxes.specs.declared.unions.Union.{Union}
use Rattle.boxes.specs.declared.unions.Union.TheVariants.{Low, Several}
use Rattle.boxes.specs.inner.Boxes.{In, met, box_of, FineOf, ChosenOf}
use Rattle.boxes.proofs.BoxLaws.{met_to, met_back}

-- ---- found in a part of the values that agree

-- nothing agrees from p on; the first that agrees is in; or it is not, and the next one is
module _ (U : Union) {lo hi p : ℕ} where
  pub next_is : {v : ℕ} (r : Option ℕ) → Least (Agrees lo hi) p v → (ChosenOf U lo hi v → ⊥) → ((u : ℕ) → Least (Agrees lo hi) (v + 1) u → ChosenOf U lo hi u)
      → FirstFrom (Agrees lo hi) (v + 1) r → FirstFrom (ChosenOf U lo hi) p r
  next_is {v} r a out in_next = go r
    where
      past : (u : ℕ) → ChosenOf U lo hi u → p ≤ u → v + 1 ≤ u
      past u m h =
          let l = a.least u m.agrees h in
          let n : v ≡ u → ⊥ = λ e. out (subst (ChosenOf U lo hi) (sym e) m) in
          omega arith

      go : (r : Option ℕ) → FirstFrom (Agrees lo hi) (v + 1) r → FirstFrom (ChosenOf U lo hi) p r
      go (Some u) b = record { member = in_next u b; from = le_trans a.from (le_trans (omega arith) b.from); least = λ x m h. b.least x m.agrees (past x m h) }
      go None b = λ u m h. b u m.agrees (past u m h)

-- nothing of the set from p on is below from
pub record Passed (U : Union) (lo hi p from : ℕ) : Type 0 where
  pub onward : p ≤ from
  pub none : (u : ℕ) → ChosenOf U lo hi u → p ≤ u → from ≤ u

-- ---- some of the m low bits set
pub low_none : (lo hi m : ℕ) → hi % 2 ^ m ≡ 0 → NoMember (ChosenOf (Low m) lo hi)
low_none lo hi m e u g = g.has (omega (arith, within_le (within_mod m (within_hi g.agrees))))

module _ (lo hi m p v : ℕ) (ordered : Within lo hi) (some : hi % 2 ^ m ≡ 0 → ⊥) (at : Least (Agrees lo hi) p v) (bare : v % 2 ^ m ≡ 0) where
  -- v with hi's low bits: it agrees, and lies above v by less than 2 ^ m
  abbrev z : ℕ
  z = over m v (hi % 2 ^ m)

  low_fits : hi % 2 ^ m < 2 ^ m
  low_fits = mod-lt hi (pow_pos m)

  z_agrees : Agrees lo hi z
  z_agrees =
      agrees_of_within
      (within_join m lo z (rw (over_div m v (hi % 2 ^ m) low_fits) (within_div m (lo_within at.member))) (rw (over_mod m v (hi % 2 ^ m) low_fits) (within_mod m ordered)))
      (within_join m z hi (rw (over_div m v (hi % 2 ^ m) low_fits) (within_div m (within_hi at.member))) (rw (over_mod m v (hi % 2 ^ m) low_fits) (within_refl (hi % 2 ^ m))))

  z_is : z ≡ v + hi % 2 ^ m
  unfolding over
  z_is = omega (arith, split v m)

  z_above : v + 1 ≤ z
  z_above = let h : 0 < hi % 2 ^ m = pos_of_ne-zero some in omega (arith, z_is)

  -- so the next value that agrees is no further than z, and has low bits set
  next_some : (u : ℕ) → v + 1 ≤ u → u ≤ z → u % 2 ^ m ≡ 0 → ⊥
  next_some u l h e =
      let a : u / 2 ^ m * 2 ^ m ≡ u = omega (arith, split u m) in
      let b : v / 2 ^ m * 2 ^ m ≡ v = omega (arith, split v m) in
      let c : v / 2 ^ m < u / 2 ^ m = lt_of_not-le (λ (k : u / 2 ^ m ≤ v / 2 ^ m). not-le_of_lt (le_trans (le_of_eq (omega arith)) l) (le_trans (le_of_eq (sym a)) (le_trans (mul-le-mul_right (2 ^ m) k) (le_of_eq b)))) in
      omega (arith, mul-le-mul_right (2 ^ m) c, z_is, low_fits)

  pub low_next : (u : ℕ) → Least (Agrees lo hi) (v + 1) u → ChosenOf (Low m) lo hi u
  low_next u b = record { agrees = b.member; has = next_some u b.from (b.least z z_agrees z_above) }

-- ---- what some divisor takes to t

-- and there are few of these, of 16 bits
gap_few : (t m v : ℕ) → 0 < t → m < 2 ^ 16 → v ≤ m → v / t ≤ v % t → v / t < 256
gap_few t m v h f l n =
    ⊎_elim (λ (k : v / t < 256). k)
    (λ (k : 256 ≤ v / t).
    let o : 257 ≤ t = omega (arith, mod-lt v h) in
    let p : 256 * 257 ≤ v / t * t = mul-le-mul k o in
    absurd (omega (arith, div-mul-le_self v t)))
    (lt_or_ge (v / t) 256)

-- its quotient is greater, and at most 256
pub gap_turn : (t m v from : ℕ) → 0 < t → m < 2 ^ 16 → v ≤ m → v / t ≤ v % t → from ≤ v → 256 - (v / t + 1) * t / t < 256 - from / t
gap_turn t m v from h f l n a =
    let e : (v / t + 1) * t / t ≡ v / t + 1 = mul-div_cancel (v / t + 1) h in
    let b : from / t ≤ v / t = (le-div_iff_mul-le h).1 (le_trans (div-mul-le_self from t) a) in
    rw e (omega (arith, gap_few t m v h f l n))

-- ---- the boxes of a row

pub one_more : (S : Row) (lo hi p j : ℕ) (a b : Option ℕ) → FirstFrom (ChosenOf (Several S j) lo hi) p a → FirstFrom (In (met (box_of S j) lo hi)) p b → FirstFrom (ChosenOf (Several S (j + 1)) lo hi) p (lesser a b)
one_more S lo hi p j a b f g =
    first_same (λ v. ChosenOf (Several S j) lo hi v ⊎ In (met (box_of S j) lo hi) v) (ChosenOf (Several S (j + 1)) lo hi) to back p (lesser a b)
    (lesser_first (ChosenOf (Several S j) lo hi) (In (met (box_of S j) lo hi)) p a b f g)
  where
    to : (v : ℕ) → ChosenOf (Several S j) lo hi v ⊎ In (met (box_of S j) lo hi) v → ChosenOf (Several S (j + 1)) lo hi v
    to v (inl m) = record { agrees = m.agrees; has = record { at = m.has.at; below = let h = m.has.below in omega arith; inside = m.has.inside } }
    to v (inr m) = let k = met_to (box_of S j) lo hi v m in record { agrees = k.0; has = record { at = j; below = omega arith; inside = k.1 } }

    side : (v i : ℕ) → Agrees lo hi v → In (box_of S i) v → (i ≡ j) ⊎ (i < j) → ChosenOf (Several S j) lo hi v ⊎ In (met (box_of S j) lo hi) v
    side v i g m (inl e) = inr (met_back (box_of S j) lo hi v g (rw e at m))
    side v i g m (inr l) = inl (record { agrees = g; has = record { at = i; below = l; inside = m } })

    back : (v : ℕ) → ChosenOf (Several S (j + 1)) lo hi v → ChosenOf (Several S j) lo hi v ⊎ In (met (box_of S j) lo hi) v
    back v m = side v m.has.at m.agrees m.has.inside (eq-or-lt_of_le (let h = m.has.below in omega arith))

-- what the boxes that code takes apart are
pub left_short : (S : Row) (t w n j : ℕ) → S ≡ Left t w → FineOf (Several S n) → j < n → (j < w) × (w ≤ 64) × (t / 2 ^ j < 2 ^ (w - j))
left_short S t w n j e f b =
    let a : (n ≤ w) × (w ≤ 64) × (t < 2 ^ w) = rw e at f in
    let k : w - j + j ≡ w = omega arith in
    (omega arith, a.1, shr_lt (w - j) j (subst (λ (i : ℕ). t < 2 ^ i) (sym k) a.2))
