-- Signed words: the signed order as intervals, arithmetic shifts by complements, sign extension.
use Rattle.std.proofs.Common.{◌≡◌, ℕ, zero, suc, ◌+◌, ◌-◌, ◌*◌, ◌/◌, ◌%◌, ◌^◌, ◌<◌, ◌≤◌, min, ltb, ◌⊎◌, sym, ap, ◌∙◌, subst, inl, inr, ⊎_elim, zero-le, le_trans, le_of_eq, le_refl, lt_of_lt_of_le, lt_of_le_of_lt, div-lt_iff_lt-mul, not-le_of_lt, arith, pow_pos, pow_mono, pow-add, shr_lt}
use native.Mathlib.Nat.{div-eq_of_lt, zero-div, sub-zero}
use native.Mathlib.Decide.{ℕ_discrete}
use lib.Pow.{low, shr_le, shl-shr, le_ones, ones_sub-lt}
use Rattle.words.specs.laws.Bits.{lt_or_ge}
use Rattle.words.specs.inner.Words.{Top}
use Rattle.words.specs.laws.Zeros.{top_lt}
use Rattle.operators.specs.Meaning.{flag, sign, signed_less, signed_shift, extended}
use Rattle.fixed.specs.Fixed.{pair, sign_over}
use Rattle.fixed.specs.inner.Pairs.{Ternary}
use Rattle.fixed.specs.promises.Forced.{signed_least_lem, signed_most_lem}
use Rattle.fixed.specs.laws.Sound.{from_least, upto_most}
use Rattle.operators.specs.laws.Signed.{turned, halves, Low, High, low_of, high_of, low_or_high, signed_order, ashr_low, ashr_high, ashr_not, ashr_keeps, ashr_lt, not_high}
use Rattle.boxes.specs.declared.Set.{Set}
use Rattle.boxes.specs.declared.Set.TheVariants.{One, Many}
use Rattle.boxes.specs.declared.unions.Row.TheVariants.{Right, Mirrored, Ends}
use Rattle.boxes.specs.declared.unions.Union.TheVariants.{Several}
use Rattle.boxes.specs.inner.Boxes.{In, mirrored, Bounded, end_at, shifted_to, Among, Solves, SomeWord, SomeAgreeing}
use Rattle.picking.specs.inner.Asks.{Sized, Word, Folded, joint}
use Rattle.boxes.specs.laws.Solves.{in_span, solves_by, shifted_bounded, in_mirror, mirror_in, mirror_solves, not_not}
use Rattle.picking.proofs.ComparisonLaws.{less_yes, less_no, yes_less, no_less, least_by, most_by}
use Rattle.picking.proofs.ShiftLaws.{grow, fit_ring, reach, room, span_back, lshr_span, some_lshr}

-- ---- up to a, and from b on
pub ends_solves : (a b : ℕ) → Solves 64 (λ v. (v ≤ a) ⊎ (b ≤ v)) (Many (Several (Ends a b) 2))
ends_solves a b = record { fine = tt; to = λ v h m. to v m.at m.inside; back = back }
  where
    to : (v j : ℕ) → In (end_at a b j) v → (v ≤ a) ⊎ (b ≤ v)
    to v zero m = inl m.upto
    to v (suc j) m = inr m.after

    back : (v : ℕ) → v < 2 ^ 64 → (v ≤ a) ⊎ (b ≤ v) → Among (Ends a b) 2 v
    back v h (inl l) = record { at = 0; below = omega arith; inside = in_span 0 a v h zero-le l }
    back v h (inr l) = record { at = 1; below = omega arith; inside = in_span b (2 ^ 64 - 1) v h l (le_ones 64 h) }

-- ---- the signed order, half by half

pub half_pos : (w : ℕ) {h : ℕ} → h ≡ 2 ^ (w - 1) → 1 ≤ h
half_pos w e = rw e (pow_pos (w - 1))

-- what is known of any v and of half the words
record Half (w h v : ℕ) : Type 0 where
  two : 2 ^ w ≡ h * 2
  pos : 0 < h
  fits : v < 2 ^ w

module _ {w s h : ℕ} (z : Word w s) (eh : h ≡ 2 ^ (w - 1)) where
  by_half : {P Q : ℕ → Type 0} {r : Set} → Solves 64 P r → ((v : ℕ) → Half w h v → Low w v → (P v → Q v) × (Q v → P v))
      → ((v : ℕ) → Half w h v → High w v → (P v → Q v) × (Q v → P v)) → Solves w Q r
  by_half {P} {Q} m f g =
      solves_by z.wide m (λ v l p. ⊎_elim (λ a. (f v (known v l) a).0 p) (λ a. (g v (known v l) a).0 p) (low_or_high w z.some l))
      (λ v l q. ⊎_elim (λ a. (f v (known v l) a).1 q) (λ a. (g v (known v l) a).1 q) (low_or_high w z.some l))
    where
      known : (v : ℕ) → v < 2 ^ w → Half w h v
      known v l = record { two = halves w z.some ∙ ap (λ (n : ℕ). n * 2) (sym eh); pos = half_pos w eh; fits = l }

  low_s : s < h → Low w s
  low_s l = low_of w z.some (lt_of_lt_of_le l (le_of_eq eh))

  high_s : h ≤ s → High w s
  high_s l = high_of w z.some (le_trans (le_of_eq (sym eh)) l) z.fits

  pub from_low : {r : Set} → s < h → Solves 64 (λ v. (s ≤ v) × (v ≤ h - 1)) r → Solves w (λ v. turned w s ≤ turned w v) r
  from_low l m =
      let b = low_s l in
      by_half m (λ v f a. (λ q. omega arith, λ q. (omega arith, omega arith))) (λ v f a. (λ q. omega arith, λ q. (omega arith, omega arith)))

  pub from_high : {r : Set} → h ≤ s → Solves 64 (λ v. (v ≤ h - 1) ⊎ (s ≤ v)) r → Solves w (λ v. turned w s ≤ turned w v) r
  from_high l m =
      let b = high_s l in
      by_half m (λ v f a. (λ q. omega arith, λ q. inl (omega arith))) (λ v f a. (⊎_elim (λ q. omega arith) (λ q. omega arith), λ q. inr (omega arith)))

  pub upto_low : {r : Set} → s < h → Solves 64 (λ v. (v ≤ s) ⊎ (h ≤ v)) r → Solves w (λ v. turned w v ≤ turned w s) r
  upto_low l m =
      let b = low_s l in
      by_half m (λ v f a. (⊎_elim (λ q. omega arith) (λ q. omega arith), λ q. inl (omega arith))) (λ v f a. (λ q. omega arith, λ q. inr (omega arith)))

  pub upto_high : {r : Set} → h ≤ s → Solves 64 (λ v. (h ≤ v) × (v ≤ s)) r → Solves w (λ v. turned w v ≤ turned w s) r
  upto_high l m =
      let b = high_s l in
      by_half m (λ v f a. (λ q. omega arith, λ q. (omega arith, omega arith))) (λ v f a. (λ q. omega arith, λ q. (omega arith, omega arith)))

  pub below_low : {r : Set} → s < h → (s ≡ 0 → ⊥) → Solves 64 (λ v. (v ≤ s - 1) ⊎ (h ≤ v)) r → Solves w (λ v. turned w v < turned w s) r
  below_low l n m =
      let b = low_s l in
      by_half m (λ v f a. (⊎_elim (λ q. omega arith) (λ q. omega arith), λ q. inl (omega arith))) (λ v f a. (λ q. omega arith, λ q. inr (omega arith)))

  pub below_zero : {r : Set} → s < h → s ≡ 0 → Solves 64 (λ v. (h ≤ v) × (v ≤ 2 ^ 64 - 1)) r → Solves w (λ v. turned w v < turned w s) r
  below_zero l e m =
      let b = low_s l in
      by_half m (λ v f a. (λ q. omega arith, λ q. (omega arith, omega arith))) (λ v f a. (λ q. omega arith, λ q. (omega arith, le_ones 64 (lt_of_lt_of_le f.fits (pow_mono z.wide)))))

  pub below_high : {r : Set} → h ≤ s → Solves 64 (λ v. (h ≤ v) × (v ≤ s - 1)) r → Solves w (λ v. turned w v < turned w s) r
  below_high l m =
      let b = high_s l in
      by_half m (λ v f a. (λ q. omega arith, λ q. (omega arith, omega arith))) (λ v f a. (λ q. omega arith, λ q. (omega arith, omega arith)))

  pub above_low : {r : Set} → s < h → Solves 64 (λ v. (s + 1 ≤ v) × (v ≤ h - 1)) r → Solves w (λ v. turned w s < turned w v) r
  above_low l m =
      let b = low_s l in
      by_half m (λ v f a. (λ q. omega arith, λ q. (omega arith, omega arith))) (λ v f a. (λ q. omega arith, λ q. (omega arith, omega arith)))

  pub above_high : {r : Set} → h ≤ s → Solves 64 (λ v. (v ≤ h - 1) ⊎ (s + 1 ≤ v)) r → Solves w (λ v. turned w s < turned w v) r
  above_high l m =
      let b = high_s l in
      by_half m (λ v f a. (λ q. omega arith, λ q. inl (omega arith))) (λ v f a. (⊎_elim (λ q. omega arith) (λ q. omega arith), λ q. inr (omega arith)))

-- ---- the comparison is that of the words turned over
module _ {w : ℕ} (f g : ℕ → ℕ) (some : 1 ≤ w) (hf : (v : ℕ) → v < 2 ^ w → f v < 2 ^ w) (hg : (v : ℕ) → v < 2 ^ w → g v < 2 ^ w) where
  test_is : (v : ℕ) → v < 2 ^ w → flag (signed_less w (f v) (g v)) ≡ flag (ltb (turned w (f v)) (turned w (g v)))
  test_is v l = ap flag (signed_order w (f v) (g v) some (hf v l) (hg v l))

  pub less_by : {t : ℕ} {r : Set} → t ≡ 1 → Solves w (λ v. turned w (f v) < turned w (g v)) r → Solves w (λ v. flag (signed_less w (f v) (g v)) ≡ t) r
  less_by e m =
      solves_by (le_refl w) m (λ v l h. test_is v l ∙ yes_less (turned w (f v)) (turned w (g v)) h ∙ sym e)
      (λ v l h. less_yes (turned w (f v)) (turned w (g v)) (sym (test_is v l) ∙ h ∙ e))

  pub not_less_by : {t : ℕ} {r : Set} → t ≡ 0 → Solves w (λ v. turned w (g v) ≤ turned w (f v)) r → Solves w (λ v. flag (signed_less w (f v) (g v)) ≡ t) r
  not_less_by e m =
      solves_by (le_refl w) m (λ v l h. test_is v l ∙ no_less (turned w (f v)) (turned w (g v)) h ∙ sym e)
      (λ v l h. less_no (turned w (f v)) (turned w (g v)) (sym (test_is v l) ∙ h ∙ e))

-- ---- for some value of the other that agrees with l, h
module _ {w i l h : ℕ} (some : 1 ≤ w) (two : i < 2) (p : Ternary w (pair l h)) where
  abbrev SomeSigned : ℕ → ℕ → Type 0
  SomeSigned t v = SomeAgreeing l h (λ s. flag (signed_less w (joint i v s).a (joint i v s).b) ≡ t)

  pub slt_least_by : {t e : ℕ} {r : Set} → i ≡ t → e ≡ sign_over w h l → Solves w (λ v. flag (signed_less w (joint i v e).a (joint i v e).b) ≡ t) r → Solves w (λ v. SomeSigned t v) r
  slt_least_by d e m =
      least_by w (signed_less w) (turned w) (λ x y. signed_order w x y some) two p.short (signed_least_lem w (pair l h) some p).agrees d
      (from_least w (pair l h) some p.short) (rw e at m)

  pub slt_most_by : {t e : ℕ} {r : Set} → t < 2 → (i ≡ t → ⊥) → e ≡ sign_over w l h → Solves w (λ v. flag (signed_less w (joint i v e).a (joint i v e).b) ≡ t) r → Solves w (λ v. SomeSigned t v) r
  slt_most_by b n e m =
      most_by w (signed_less w) (turned w) (λ x y. signed_order w x y some) two p.short (signed_most_lem w (pair l h) some p).agrees b n
      (λ s a. upto_most w (pair l h) some p.short s a p.ordered) (rw e at m)

-- ---- arithmetic shifts
module _ {w : ℕ} (some : 1 ≤ w) where
  -- to a target whose sign is clear: a quotient, of a word whose sign is clear
  ashr_to : {v u : ℕ} (s : ℕ) → v < 2 ^ w → u < 2 ^ (w - 1) → signed_shift w v s ≡ u → (v < 2 ^ (w - 1)) × (v / 2 ^ s ≡ u)
  ashr_to s l h e = let k = ashr_keeps w s some l (lt_of_le_of_lt (le_of_eq e) h) in (k, sym (ashr_low w s k) ∙ e)

  -- the values for a target are the complements of those for its complement
  module _ {v t u : ℕ} (s : ℕ) (hv : v < 2 ^ w) (eu : u ≡ (2 ^ w - 1) - t) where
    negated_to : t < 2 ^ w → signed_shift w ((2 ^ w - 1) - v) s ≡ u → signed_shift w v s ≡ t
    negated_to ht e =
        sym (not_not w (ashr_lt w v s hv)) ∙ ap (λ (n : ℕ). (2 ^ w - 1) - n) (sym (ashr_not w v s some hv) ∙ e ∙ eu) ∙ not_not w ht

    negated_back : signed_shift w v s ≡ t → signed_shift w ((2 ^ w - 1) - v) s ≡ u
    negated_back e = ashr_not w v s some hv ∙ ap (λ (n : ℕ). (2 ^ w - 1) - n) e ∙ sym eu

  -- a shift by w - 1 or more leaves nothing but the sign
  gone : {x : ℕ} (s : ℕ) → x < 2 ^ (w - 1) → w - 1 ≤ s → x / 2 ^ s ≡ 0
  gone s l h = div-eq_of_lt (lt_of_lt_of_le l (pow_mono h))

  ashr_past : (v s : ℕ) → v < 2 ^ w → w - 1 ≤ s → signed_shift w v s ≡ signed_shift w v (w - 1)
  ashr_past v s l h =
      ⊎_elim (λ (k : v < 2 ^ (w - 1)). ashr_low w s k ∙ gone s k h ∙ sym (ashr_low w (w - 1) k ∙ gone (w - 1) k (le_refl (w - 1))))
      (λ (k : 2 ^ (w - 1) ≤ v).
      let n = not_high w some k l in
      ashr_high w s some k l ∙ ap (λ (q : ℕ). (2 ^ w - 1) - q) (gone s n h ∙ sym (gone (w - 1) n (le_refl (w - 1)))) ∙ sym (ashr_high w (w - 1) some k l))
      (lt_or_ge v (2 ^ (w - 1)))

  ashr_cut : {k : ℕ} (v s : ℕ) → k ≡ min s (w - 1) → v < 2 ^ w → signed_shift w v k ≡ signed_shift w v s
  ashr_cut {k} v s e l =
      ⊎_elim (λ (h : s < w - 1). ap (signed_shift w v) (e ∙ omega arith)) (λ (h : w - 1 ≤ s). ap (signed_shift w v) (e ∙ omega arith) ∙ sym (ashr_past v s l h)) (lt_or_ge s (w - 1))

-- t is u, or the complement of u
either_way : {w t u : ℕ} → Folded w t u → (u ≡ t) ⊎ (u ≡ (2 ^ w - 1) - t)
either_way {w} {t} {u} f = elim (ℕ_discrete u t) [ yes e ↦ inl e | no n ↦ inr (f.other n) ]

-- ---- the operand of a shift by k
pub under_sign : (w k u : ℕ) → k ≤ w - 1 → u / 2 ^ (w - 1 - k) ≡ 0 → u * 2 ^ k + 2 ^ k ≤ 2 ^ (w - 1)
under_sign w k u h e =
    let l : u < 2 ^ (w - 1 - k) = lt_of_lt_of_le ((div-lt_iff_lt-mul (pow_pos (w - 1 - k))).0 (le_of_eq (ap suc e))) (le_of_eq (omega arith)) in
    let d : w - 1 - k + k ≡ w - 1 = omega arith in
    le_trans (fit_ring u (2 ^ k) (2 ^ (w - 1 - k)) l) (le_of_eq (sym (pow-add 2 (w - 1 - k) k) ∙ ap (λ (n : ℕ). 2 ^ n) d))

pub lower_lt : (w : ℕ) → 1 ≤ w → 2 ^ (w - 1) ≤ 2 ^ w
lower_lt w h = pow_mono (omega arith)

module _ {w t u k : ℕ} (z : Word w t) (f : Folded w t u) (s : ℕ) (ek : k ≡ min s (w - 1)) where
  short : k ≤ w - 1
  short = omega arith

  pub operand_none : (u / 2 ^ (w - 1 - k) ≡ 0 → ⊥) → (v : ℕ) → v < 2 ^ w → signed_shift w v s ≡ t → ⊥
  operand_none n v l e =
      ⊎_elim (λ (d : u ≡ t). none v l (ashr_cut z.some v s ek l ∙ e ∙ sym d))
      (λ (d : u ≡ (2 ^ w - 1) - t). none ((2 ^ w - 1) - v) (ones_sub-lt w v) (ashr_cut z.some ((2 ^ w - 1) - v) s ek (ones_sub-lt w v) ∙ negated_back z.some s l d e)) (either_way f)
    where
      none : (v : ℕ) → v < 2 ^ w → signed_shift w v k ≡ u → ⊥
      none v l e =
          let a = ashr_to z.some k l f.small e in
          let d : w - 1 - k + k ≡ w - 1 = omega (arith, short) in
          n (div-eq_of_lt (lt_of_le_of_lt (le_of_eq (sym a.1)) (shr_lt (w - 1 - k) k (subst (λ (n : ℕ). v < 2 ^ n) (sym d) a.0))))

  module _ (e : u / 2 ^ (w - 1 - k) ≡ 0) where
    fits : u * 2 ^ k + 2 ^ k ≤ 2 ^ (w - 1)
    fits = under_sign w k u short e

    operand : Solves w (λ v. signed_shift w v k ≡ u) (One (shifted_to u k))
    operand =
        solves_by z.wide (lshr_span k u)
        (λ v l m. let b = (span_back k u v m).1 in ashr_low w k (let g = fits in omega (arith, pow_pos k)) ∙ m)
        (λ v l m. (ashr_to z.some k l f.small m).1)

    pub operand_fits : (k < 64) × (u * 2 ^ k + 2 ^ k ≤ 2 ^ 64)
    operand_fits = (let d = z.wide in let g = z.some in omega (arith, short), le_trans fits (pow_mono {j = 64} (let d = z.wide in omega arith)))

    pub operand_bounded : Bounded w (shifted_to u k)
    operand_bounded = shifted_bounded w u k (le_trans fits (lower_lt w z.some))

    pub operand_same : u ≡ t → Solves w (λ v. signed_shift w v s ≡ t) (One (shifted_to u k))
    operand_same d = solves_by (le_refl w) operand (λ v l m. sym (ashr_cut z.some v s ek l) ∙ m ∙ d) (λ v l m. ashr_cut z.some v s ek l ∙ m ∙ sym d)

    pub operand_mirrored : (u ≡ t → ⊥) → Solves w (λ v. signed_shift w v s ≡ t) (One (mirrored w (shifted_to u k)))
    operand_mirrored n =
        solves_by (le_refl w) (mirror_solves operand_bounded operand)
        (λ v l m. negated_to z.some s l (f.other n) z.fits (sym (ashr_cut z.some ((2 ^ w - 1) - v) s ek (ones_sub-lt w v)) ∙ m))
        (λ v l m. ashr_cut z.some ((2 ^ w - 1) - v) s ek (ones_sub-lt w v) ∙ negated_back z.some s l (f.other n) m)

-- ---- the amount
module _ {w x h : ℕ} (z : Word w x) (eh : h ≡ 2 ^ (w - 1)) where
  under : {y : ℕ} → y < h → y < 2 ^ (w - 1)
  under l = lt_of_lt_of_le l (le_of_eq eh)

  over : {y : ℕ} → h ≤ y → 2 ^ (w - 1) ≤ y
  over l = le_trans (le_of_eq (sym eh)) l

  pub amount_low : {t : ℕ} {r : Set} → x < h → Solves 64 (λ v. x / 2 ^ v ≡ t) r → Solves w (λ v. signed_shift w x v ≡ t) r
  amount_low a m = solves_by z.wide m (λ v l e. ashr_low w v (under a) ∙ e) (λ v l e. sym (ashr_low w v (under a)) ∙ e)

  pub amount_up : {t : ℕ} → x < h → h ≤ t → (v : ℕ) → signed_shift w x v ≡ t → ⊥
  amount_up a b v e = not-le_of_lt (lt_of_le_of_lt (shr_le x v) a) (le_trans b (le_of_eq (sym e ∙ ashr_low w v (under a))))

  pub amount_down : {t : ℕ} → h ≤ x → t < h → (v : ℕ) → signed_shift w x v ≡ t → ⊥
  amount_down a b v e = not-le_of_lt (ashr_keeps w v z.some z.fits (lt_of_le_of_lt (le_of_eq e) (under b))) (over a)

  pub amount_high : {a b t : ℕ} {r : Set} → h ≤ x → t < 2 ^ w → a ≡ (2 ^ w - 1) - x → b ≡ (2 ^ w - 1) - t → Solves 64 (λ v. a / 2 ^ v ≡ b) r → Solves w (λ v. signed_shift w x v ≡ t) r
  amount_high l ht ea eb m =
      let n : (2 ^ w - 1) - x < 2 ^ (w - 1) = not_high w z.some (over l) z.fits in
      solves_by z.wide m
      (λ v _ e. negated_to z.some v z.fits eb ht (ashr_low w v n ∙ ap (λ (q : ℕ). q / 2 ^ v) (sym ea) ∙ e))
      (λ v _ e. ap (λ (q : ℕ). q / 2 ^ v) ea ∙ sym (ashr_low w v n) ∙ negated_back z.some v z.fits eb e)

-- ---- an operand for some amount

-- nothing but the sign is left of t
pub signs_low : {w t h : ℕ} {r : Set} → Word w t → h ≡ 2 ^ (w - 1) → t ≡ 0 → Solves 64 (λ v. (0 ≤ v) × (v ≤ h - 1)) r → Solves w (λ v. SomeWord w (λ s. signed_shift w v s ≡ t)) r
signs_low {w} {t} {h} z eh e m =
    solves_by z.wide m
    (λ v l q. let k : v < 2 ^ (w - 1) = below v q.1 in record { by = w; fits = grow w; gives = ashr_low w w k ∙ div-eq_of_lt l ∙ sym e })
    (λ v l q. let k = ashr_keeps w q.by z.some l (lt_of_le_of_lt (le_of_eq (q.gives ∙ e)) (pow_pos (w - 1))) in (zero-le, omega arith))
  where
    below : (v : ℕ) → v ≤ h - 1 → v < 2 ^ (w - 1)
    below v l = omega (arith, pow_pos (w - 1))

pub signs_high : {w t h : ℕ} {r : Set} → Word w t → h ≡ 2 ^ (w - 1) → t ≡ 2 ^ w - 1 → Solves 64 (λ v. (h ≤ v) × (v ≤ 2 ^ 64 - 1)) r → Solves w (λ v. SomeWord w (λ s. signed_shift w v s ≡ t)) r
signs_high {w} {t} {h} z eh e m =
    solves_by z.wide m
    (λ v l q. record { by = w; fits = grow w; gives = ashr_high w w z.some (le_trans (le_of_eq (sym eh)) q.0) l ∙ ap (λ (n : ℕ). (2 ^ w - 1) - n) (div-eq_of_lt (ones_sub-lt w v)) ∙ sub-zero (2 ^ w - 1) ∙ sym e })
    (λ v l q. (⊎_elim (λ (k : v < h). absurd (amount_up (record { some = z.some; wide = z.wide; fits = l }) eh k full q.by q.gives)) (λ (k : h ≤ v). k) (lt_or_ge v h), le_ones 64 (lt_of_lt_of_le l (pow_mono z.wide))))
  where
    full : h ≤ t
    full = let d = halves w z.some in omega (arith, pow_pos (w - 1))

-- the row of P, mirrored, is that of P for the complement
mirror_row : {w u n : ℕ} {P : ℕ → Type 0} → 1 ≤ w → w ≤ 64 → n ≤ w → ((j : ℕ) → j < n → u * 2 ^ j + 2 ^ j ≤ 2 ^ w) → Solves w P (Many (Several (Right u) n))
    → Solves w (λ v. P ((2 ^ w - 1) - v)) (Many (Several (Mirrored u w) n))
mirror_row {w} {u} {n} {P} some wide few room s = record { fine = (some, wide, few, room); to = to; back = back }
  where
    bound : (j : ℕ) → j < n → Bounded w (shifted_to u j)
    bound j b = shifted_bounded w u j (room j b)

    to : (v : ℕ) → v < 2 ^ w → Among (Mirrored u w) n v → P ((2 ^ w - 1) - v)
    to v l m = s.to ((2 ^ w - 1) - v) (ones_sub-lt w v) (record { at = m.at; below = m.below; inside = mirror_in (bound m.at m.below) l m.inside })

    back : (v : ℕ) → v < 2 ^ w → P ((2 ^ w - 1) - v) → Among (Mirrored u w) n v
    back v l p =
        let m = s.back ((2 ^ w - 1) - v) (ones_sub-lt w v) p in
        record { at = m.at; below = m.below; inside = subst (In (mirrored w (shifted_to u m.at))) (not_not w l) (in_mirror (bound m.at m.below) (ones_sub-lt w v) m.inside) }

module _ {w t u j : ℕ} (z : Word w t) (f : Folded w t u) (top : Top 64 u j) where
  sized : Sized (w - 1) u
  sized = record { wide = omega (arith, z.wide); fits = f.small }

  -- t's highest bit stays below the sign
  pub top_under : j < w - 1
  top_under = top_lt (w - 1) u j f.small top

  some_of : {v : ℕ} (s : ℕ) → v < 2 ^ w → signed_shift w v s ≡ u → SomeWord (w - 1) (λ s. v / 2 ^ s ≡ u)
  some_of {v} s l e =
      let a = ashr_to z.some s l f.small e in
      let b = reach sized top s v a.0 a.1 in
      record { by = s; fits = lt_of_le_of_lt (omega arith) (grow (w - 1)); gives = a.1 }

  row : Solves w (λ v. SomeWord w (λ s. signed_shift w v s ≡ u)) (Many (Several (Right u) (w - 1 - j)))
  row = record { fine = (some_lshr sized top).fine; to = to; back = λ v l m. (some_lshr sized top).back v (ashr_to z.some m.by l f.small m.gives).0 (some_of m.by l m.gives) }
    where
      to : (v : ℕ) → v < 2 ^ w → Among (Right u) (w - 1 - j) v → SomeWord w (λ s. signed_shift w v s ≡ u)
      to v l m =
          let b = m.below in
          let k : v < 2 ^ (w - 1) = lt_of_le_of_lt m.inside.upto (let g = room sized top m.at (omega arith) in omega (arith, pow_pos m.at)) in
          let r = (some_lshr sized top).to v k m in
          record { by = r.by; fits = lt_of_lt_of_le r.fits (lower_lt w z.some); gives = ashr_low w r.by k ∙ r.gives }

  pub row_same : u ≡ t → Solves w (λ v. SomeWord w (λ s. signed_shift w v s ≡ t)) (Many (Several (Right u) (w - 1 - j)))
  row_same e =
      solves_by (le_refl w) row (λ v l m. record { by = m.by; fits = m.fits; gives = m.gives ∙ e }) (λ v l m. record { by = m.by; fits = m.fits; gives = m.gives ∙ sym e })

  pub row_mirrored : (u ≡ t → ⊥) → Solves w (λ v. SomeWord w (λ s. signed_shift w v s ≡ t)) (Many (Several (Mirrored u w) (w - 1 - j)))
  row_mirrored n =
      solves_by (le_refl w)
      (mirror_row z.some z.wide (omega arith) (λ i b. le_trans (room sized top i (omega arith)) (lower_lt w z.some)) row)
      (λ v l m. record { by = m.by; fits = m.fits; gives = negated_to z.some m.by l (f.other n) z.fits m.gives })
      (λ v l m. record { by = m.by; fits = m.fits; gives = negated_back z.some m.by l (f.other n) m.gives })

  -- ---- an amount for some operand
  pub some_ashr_amount : {r : Set} → Solves 64 (λ v. (0 ≤ v) × (v ≤ w - 1 - j - 1)) r → Solves w (λ v. SomeWord w (λ s. signed_shift w s v ≡ t)) r
  some_ashr_amount m = solves_by z.wide m (λ v l q. to v q.1) (λ v l q. (zero-le, back v q))
    where
      give : (v : ℕ) → v ≤ w - 1 - j - 1 → (u * 2 ^ v < 2 ^ (w - 1)) × (signed_shift w (u * 2 ^ v) v ≡ u)
      give v l =
          let g = room sized top v (let b = top_under in omega arith) in
          let k : u * 2 ^ v < 2 ^ (w - 1) = omega (arith, pow_pos v) in
          (k, ashr_low w v k ∙ shl-shr u v)

      to : (v : ℕ) → v ≤ w - 1 - j - 1 → SomeWord w (λ s. signed_shift w s v ≡ t)
      to v l =
          let g = give v l in
          let k : u * 2 ^ v < 2 ^ w = lt_of_lt_of_le g.0 (lower_lt w z.some) in
          ⊎_elim (λ (e : u ≡ t). record { by = u * 2 ^ v; fits = k; gives = g.1 ∙ e })
          (λ (e : u ≡ (2 ^ w - 1) - t). record {
            by = (2 ^ w - 1) - u * 2 ^ v;
            fits = ones_sub-lt w (u * 2 ^ v);
            gives = negated_to z.some v (ones_sub-lt w (u * 2 ^ v)) e z.fits (ap (λ (n : ℕ). signed_shift w n v) (not_not w k) ∙ g.1);
          }) (either_way f)

      near : (v s : ℕ) → s < 2 ^ w → signed_shift w s v ≡ u → v ≤ w - 1 - j - 1
      near v s l e = let a = ashr_to z.some v l f.small e in let b = reach sized top v s a.0 a.1 in omega arith

      back : (v : ℕ) → SomeWord w (λ s. signed_shift w s v ≡ t) → v ≤ w - 1 - j - 1
      back v q =
          ⊎_elim (λ (e : u ≡ t). near v q.by q.fits (q.gives ∙ sym e))
          (λ (e : u ≡ (2 ^ w - 1) - t). near v ((2 ^ w - 1) - q.by) (ones_sub-lt w q.by) (negated_back z.some v q.fits e q.gives)) (either_way f)

-- what has nothing but its sign is its own shift
pub own_shift : {w t u : ℕ} → Word w t → Folded w t u → u ≡ 0 → (v : ℕ) → SomeWord w (λ s. signed_shift w s v ≡ t)
own_shift {w} {t} {u} z f e v = record { by = t; fits = z.fits; gives = ⊎_elim same other (either_way f) }
  where
    zero_shift : (x : ℕ) → x ≡ 0 → signed_shift w x v ≡ 0
    zero_shift x d = ashr_low w v (lt_of_le_of_lt (le_of_eq d) (pow_pos (w - 1))) ∙ ap (λ (n : ℕ). n / 2 ^ v) d ∙ zero-div (2 ^ v)

    same : u ≡ t → signed_shift w t v ≡ t
    same d = zero_shift t (sym d ∙ e) ∙ sym e ∙ d

    other : u ≡ (2 ^ w - 1) - t → signed_shift w t v ≡ t
    other d = negated_to z.some v z.fits d z.fits (zero_shift ((2 ^ w - 1) - t) (sym d ∙ e) ∙ sym e)

-- ---- sign extension
pub extended_by : {k t c x : ℕ} {r : Set} (w : ℕ) → k ≤ 64 → c ≡ t % 2 ^ k → x ≡ extended k w c → Solves 64 (λ v. (v ≡ c) × (x ≡ t)) r → Solves k (λ v. extended k w v ≡ t) r
extended_by {k} {t} {c} {x} w wide ec ex m = solves_by wide m (λ v l q. ap (extended k w) q.0 ∙ sym ex ∙ q.1) (λ v l q. let d = ends v l q in (d, ex ∙ ap (extended k w) (sym d) ∙ q))
  where
    ends : (v : ℕ) → v < 2 ^ k → extended k w v ≡ t → v ≡ c
    ends v l q = sym (low (sign k v * (2 ^ (w - k) - 1)) k l) ∙ ap (λ (n : ℕ). n % 2 ^ k) q ∙ sym ec
