-- Shl and lshr: what a shift by a given amount gives, and which amounts give a target.
use Rattle.std.proofs.Common.{◌≡◌, ℕ, zero, suc, ◌+◌, ◌-◌, ◌*◌, ◌/◌, ◌%◌, ◌^◌, ◌<◌, ◌≤◌, sym, refl, ap, ◌∙◌, subst, ⊎_elim, zero-le, le_trans, le_of_eq, le_refl, lt_of_lt_of_le, le_of_suc-le-suc, lt_of_le_of_lt, le_of_lt, mul-le-mul_right, mod-eq_of_lt, pow-suc, lt_of_not-le, le-div_iff_mul-le, zero-mul, not-le_of_lt, div-mul-le_self, mul-div_cancel, arith, pow_pos, pow_mono, pow-add, shr_lt}
use native.Mathlib.Nat.{mul-mod_left, zero-mod, zero-div, div-eq_of_lt, div-eq_of_lt-le, lt-div-mul-add}
use lib.Pow.{split, shl-shr, shr_le, ones_lt}
use Rattle.words.specs.Bits.{bit}
use Rattle.words.specs.laws.Bits.{bit_cut, bit_shl, lt_or_ge}
use Rattle.words.specs.laws.Modular.{cut_cut}
use Rattle.words.specs.laws.Mul.{mod_scale}
use Rattle.words.specs.laws.Shift.{out_left}
use Rattle.words.specs.inner.Words.{Tail, Top}
use Rattle.words.specs.laws.Zeros.{tail_lt, tail_unique, top_lt, top_unique}
use Rattle.boxes.specs.declared.Set.{Set}
use Rattle.boxes.specs.declared.Set.TheVariants.{One, Many}
use Rattle.boxes.specs.declared.unions.Row.TheVariants.{Left, Right}
use Rattle.boxes.specs.declared.unions.Union.TheVariants.{Several}
use Rattle.boxes.specs.inner.Boxes.{Among, span, Solves, SomeWord}
use Rattle.picking.specs.inner.Asks.{Sized, joint}
use Rattle.boxes.specs.laws.Solves.{in_low, low_in, in_word, in_span, span_solves, solves_by}

-- an amount of w is a value of w bits
pub grow : (n : ℕ) → n < 2 ^ n
grow zero = le_refl 1
grow (suc n) = step (2 ^ n) (2 ^ suc n) (grow n) (pow-suc 2 n)
  where
    step : (a b : ℕ) → n < a → b ≡ a * 2 → suc n < b
    step a b h e = omega arith

-- ---- left: a product with 2 ^ k, cut to w bits
shl_is : (w k v : ℕ) → k ≤ w → v * 2 ^ k % 2 ^ w ≡ v % 2 ^ (w - k) * 2 ^ k
shl_is w k v h =
    let e : w - k + k ≡ w = omega arith in
    ap (λ (n : ℕ). v * 2 ^ k % n) (ap (λ (n : ℕ). 2 ^ n) (sym e) ∙ pow-add 2 (w - k) k) ∙ mod_scale v (2 ^ (w - k)) (2 ^ k) (pow_pos (w - k)) (pow_pos k)

pub shl_past : (w s v : ℕ) → w ≤ s → v * 2 ^ s % 2 ^ w ≡ 0
shl_past w s v h = sym (out_left v s w h)

pub shl_clear : (w k v t : ℕ) → k ≤ w → v * 2 ^ k % 2 ^ w ≡ t → t % 2 ^ k ≡ 0
shl_clear w k v t h e = ap (λ (n : ℕ). n % 2 ^ k) (sym e ∙ shl_is w k v h) ∙ mul-mod_left (v % 2 ^ (w - k)) (2 ^ k)

pub shl_ends : (w k v t : ℕ) → k ≤ w → v * 2 ^ k % 2 ^ w ≡ t → v % 2 ^ (w - k) ≡ t / 2 ^ k
shl_ends w k v t h e = sym (mul-div_cancel (v % 2 ^ (w - k)) (pow_pos k)) ∙ ap (λ (n : ℕ). n / 2 ^ k) (sym (shl_is w k v h) ∙ e)

whole : (t k : ℕ) → t % 2 ^ k ≡ 0 → t / 2 ^ k * 2 ^ k ≡ t
whole t k z = omega (arith, split t k)

pub shl_gives : (w k v t : ℕ) → k ≤ w → t % 2 ^ k ≡ 0 → v % 2 ^ (w - k) ≡ t / 2 ^ k → v * 2 ^ k % 2 ^ w ≡ t
shl_gives w k v t h z e = shl_is w k v h ∙ ap (λ (n : ℕ). n * 2 ^ k) e ∙ whole t k z

pub part_lt : (w k t : ℕ) → k ≤ w → t < 2 ^ w → t / 2 ^ k < 2 ^ (w - k)
part_lt w k t h l = let e : w - k + k ≡ w = omega arith in shr_lt (w - k) k (subst (λ (n : ℕ). t < 2 ^ n) (sym e) l)

pub zero_shl : (w v x : ℕ) → x ≡ 0 → x * 2 ^ v % 2 ^ w ≡ 0
zero_shl w v x e = ap (λ (n : ℕ). n * 2 ^ v % 2 ^ w) e ∙ ap (λ (n : ℕ). n % 2 ^ w) (zero-mul (2 ^ v)) ∙ zero-mod (2 ^ w)

-- ---- zeros at the end
odd_zero : (n : ℕ) → n ≡ 0 → n ≡ 1 → ⊥
odd_zero n e f = omega arith

-- a bit below n is a bit of the n low ones
bit_kept : (v n j : ℕ) → j < n → v % 2 ^ n / 2 ^ j % 2 ≡ v / 2 ^ j % 2
unfolding bit
bit_kept v n j l = bit_cut j v n l

-- where the n low bits are clear, so is each
bit_clear : (v n j : ℕ) → j < n → v % 2 ^ n ≡ 0 → v / 2 ^ j % 2 ≡ 0
bit_clear v n j l z = sym (bit_kept v n j l) ∙ ap (λ (x : ℕ). x / 2 ^ j % 2) z ∙ ap (λ (x : ℕ). x % 2) (zero-div (2 ^ j))

tail_le : {d t j : ℕ} (k : ℕ) → Tail d t j → t % 2 ^ k ≡ 0 → k ≤ j
tail_le {d} {t} {j} k tail z = le_of_suc-le-suc (lt_of_not-le (λ (l : suc j ≤ k). odd_zero (t / 2 ^ j % 2) (bit_clear t k j l z) tail.set))

tail_clear : {d t j : ℕ} (k : ℕ) → Tail d t j → k ≤ j → t % 2 ^ k ≡ 0
tail_clear {d} {t} {j} k tail h = sym (cut_cut t j k h) ∙ ap (λ (n : ℕ). n % 2 ^ k) tail.clear ∙ zero-mod (2 ^ k)

-- a shift adds to them
tail_shl : (w x i v : ℕ) → w ≤ 64 → Tail 64 x i → v + i < w → Tail 64 (x * 2 ^ v % 2 ^ w) (v + i)
unfolding bit
tail_shl w x i v wide tail h = record { short = omega arith; clear = clear; set = set (x * 2 ^ v % 2 ^ w) refl }
  where
    clear : x * 2 ^ v % 2 ^ w % 2 ^ (v + i) ≡ 0
    clear =
        let e : v + i - v ≡ i = omega arith in
        cut_cut (x * 2 ^ v) w (v + i) (le_of_lt h) ∙ shl_is (v + i) v x (omega arith) ∙ ap (λ (n : ℕ). x % 2 ^ n * 2 ^ v) e ∙ ap (λ (n : ℕ). n * 2 ^ v) tail.clear ∙ zero-mul (2 ^ v)

    set : (y : ℕ) → y ≡ x * 2 ^ v % 2 ^ w → y / 2 ^ (v + i) % 2 ≡ 1
    set y e = ap (λ (n : ℕ). n / 2 ^ (v + i) % 2) e ∙ bit_cut (v + i) (x * 2 ^ v) w h ∙ bit_shl i x v ∙ tail.set

-- ---- the amount of a left shift
module _ {w x i : ℕ} (wide : w ≤ 64) (tail : Tail 64 x i) where
  -- all is gone exactly from w - i on
  pub shl_gone : (v : ℕ) → w - i ≤ v → x * 2 ^ v % 2 ^ w ≡ 0
  shl_gone v h =
      ⊎_elim
      (λ (l : v < w). shl_is w v x (le_of_lt l) ∙ ap (λ (n : ℕ). n * 2 ^ v) (tail_clear (w - v) tail (omega arith)) ∙ zero-mul (2 ^ v))
      (λ (l : w ≤ v). shl_past w v x l) (lt_or_ge v w)

  pub shl_from : (v : ℕ) → x * 2 ^ v % 2 ^ w ≡ 0 → w - i ≤ v
  shl_from v z =
      ⊎_elim (λ (l : v + i < w). absurd (no (x * 2 ^ v % 2 ^ w) (v + i) z (tail_shl w x i v wide tail l).set)) (λ (l : w ≤ v + i). omega arith) (lt_or_ge (v + i) w)
    where
      no : (y k : ℕ) → y ≡ 0 → y / 2 ^ k % 2 ≡ 1 → ⊥
      no y k e f = odd_zero (y / 2 ^ k % 2) (ap (λ (n : ℕ). n / 2 ^ k % 2) e ∙ ap (λ (n : ℕ). n % 2) (zero-div (2 ^ k))) f

  -- for another target it is the difference of the zeros
  pub shl_sum : {t j : ℕ} → (t ≡ 0 → ⊥) → Tail 64 t j → (v : ℕ) → x * 2 ^ v % 2 ^ w ≡ t → v + i ≡ j
  shl_sum {t} {j} f other v m =
      ⊎_elim (λ (l : v + i < w). tail_unique (subst (λ (n : ℕ). Tail 64 n (v + i)) m (tail_shl w x i v wide tail l)) other)
      (λ (l : w ≤ v + i). absurd (f (sym m ∙ shl_gone v (omega arith)))) (lt_or_ge (v + i) w)

-- ---- for some value of the other
pub some_shl_zero : (i w v t : ℕ) → t ≡ 0 → SomeWord w (λ s. (joint i v s).a * 2 ^ (joint i v s).b % 2 ^ w ≡ t)
some_shl_zero zero w v t e = record { by = w; fits = grow w; gives = shl_past w w v (le_refl w) ∙ sym e }
some_shl_zero (suc i) w v t e = record { by = 0; fits = pow_pos w; gives = zero_shl w v 0 refl ∙ sym e }

module _ {w t j : ℕ} (z : Sized w t) (f : t ≡ 0 → ⊥) (tail : Tail 64 t j) where
  j_lt : j < w
  j_lt = tail_lt w 64 t j z.fits tail

  -- a shift that gives t is no longer than t's zeros
  within : (s v : ℕ) → v * 2 ^ s % 2 ^ w ≡ t → s ≤ j
  within s v m =
      ⊎_elim (λ (l : s < w). tail_le s tail (shl_clear w s v t (le_of_lt l) m)) (λ (l : w ≤ s). absurd (f (sym m ∙ shl_past w s v l))) (lt_or_ge s w)

  pub some_shl : Solves w (λ v. SomeWord w (λ s. v * 2 ^ s % 2 ^ w ≡ t)) (Many (Several (Left t w) (j + 1)))
  some_shl = record { fine = (omega (arith, j_lt), z.wide, z.fits); to = to; back = back }
    where
      to : (v : ℕ) → v < 2 ^ w → Among (Left t w) (j + 1) v → SomeWord w (λ s. v * 2 ^ s % 2 ^ w ≡ t)
      to v h m =
          let s = m.at in
          let l : s ≤ j = let b = m.below in omega arith in
          let sw : s ≤ w = omega (arith, j_lt) in
          record {
            by = s;
            fits = lt_of_le_of_lt sw (grow w);
            gives = shl_gives w s v t sw (tail_clear s tail l) (in_low (w - s) (t / 2 ^ s) v (part_lt w s t sw z.fits) m.inside.inside);
          }

      back : (v : ℕ) → v < 2 ^ w → SomeWord w (λ s. v * 2 ^ s % 2 ^ w ≡ t) → Among (Left t w) (j + 1) v
      back v h m =
          let s = m.by in
          let l : s ≤ j = within s v m.gives in
          let sw : s ≤ w = omega (arith, j_lt) in
          let v64 : v < 2 ^ 64 = lt_of_lt_of_le h (pow_mono z.wide) in
          record { at = s; below = omega arith; inside = in_word v64 (low_in (w - s) (t / 2 ^ s) v (part_lt w s t sw z.fits) v64 (shl_ends w s v t sw m.gives)) }

  pub some_amount : {r : Set} → Solves 64 (λ v. (0 ≤ v) × (v ≤ j)) r → Solves w (λ v. SomeWord w (λ s. s * 2 ^ v % 2 ^ w ≡ t)) r
  some_amount s =
      solves_by z.wide s
      (λ v l m. record { by = t / 2 ^ v; fits = lt_of_le_of_lt (shr_le t v) z.fits; gives = ap (λ (n : ℕ). n % 2 ^ w) (whole t v (tail_clear v tail m.1)) ∙ mod-eq_of_lt z.fits })
      (λ v l m. (zero-le, within v m.by m.gives))

-- ---- right: a quotient by 2 ^ s
pub lshr_past : (s v : ℕ) → v < 2 ^ 64 → 64 ≤ s → v / 2 ^ s ≡ 0
lshr_past s v l h = div-eq_of_lt (lt_of_lt_of_le l (pow_mono h))

span_to : (s t v : ℕ) → t * 2 ^ s ≤ v → v ≤ t * 2 ^ s + (2 ^ s - 1) → v / 2 ^ s ≡ t
span_to s t v a b = div-eq_of_lt-le (2 ^ s) {m = v} a (omega (arith, b, pow_pos s))

pub span_back : (s t v : ℕ) → v / 2 ^ s ≡ t → (t * 2 ^ s ≤ v) × (v ≤ t * 2 ^ s + (2 ^ s - 1))
span_back s t v m =
    let e : v / 2 ^ s * 2 ^ s ≡ t * 2 ^ s = ap (λ (n : ℕ). n * 2 ^ s) m in
    (omega (arith, div-mul-le_self v (2 ^ s)), omega (arith, lt-div-mul-add {a = v} (pow_pos s)))

pub lshr_span : (s t : ℕ) → Solves 64 (λ v. v / 2 ^ s ≡ t) (One (span (t * 2 ^ s) (t * 2 ^ s + (2 ^ s - 1))))
lshr_span s t = solves_by (le_refl 64) (span_solves (t * 2 ^ s) (t * 2 ^ s + (2 ^ s - 1))) (λ v l m. span_to s t v m.0 m.1) (λ v l m. span_back s t v m)

-- t with s bits more is a word
pub fit_ring : (a b c : ℕ) → suc a ≤ c → a * b + b ≤ c * b
fit_ring a b c h = le_trans (le_of_eq (ring a b)) (mul-le-mul_right b h)
  where
    ring : (a b : ℕ) → a * b + b ≡ suc a * b
    ring a b = omega arith

pub span_fits : (s t : ℕ) → s < 64 → t ≤ (2 ^ 64 - 1) / 2 ^ s → (s < 64) × (t * 2 ^ s + 2 ^ s ≤ 2 ^ 64)
span_fits s t h l =
    let e : 64 - s + s ≡ 64 = omega arith in
    let k : suc t ≤ 2 ^ (64 - s) = lt_of_le_of_lt l (shr_lt (64 - s) s (subst (λ (n : ℕ). 2 ^ 64 - 1 < 2 ^ n) (sym e) (ones_lt 64))) in
    (h, le_trans (fit_ring t (2 ^ s) (2 ^ (64 - s)) k) (le_of_eq (sym (pow-add 2 (64 - s) s) ∙ ap (λ (n : ℕ). 2 ^ n) e)))

-- ---- the highest bit
pow_cancel : (i j : ℕ) → 2 ^ i < 2 ^ j → i < j
pow_cancel i j h = lt_of_not-le (λ (l : j ≤ i). not-le_of_lt h (pow_mono l))

-- ---- the amount of a right shift
module _ {x i : ℕ} (top : Top 64 x i) where
  -- a shift brings it down
  top_lshr : (v : ℕ) → v ≤ i → Top 64 (x / 2 ^ v) (i - v)
  top_lshr v h = record { short = omega (arith, top.short); from = (le-div_iff_mul-le (pow_pos v)).1 low; below = shr_lt (suc (i - v)) v (subst (λ (n : ℕ). x < 2 ^ n) sum top.below) }
    where
      sum : suc i ≡ suc (i - v) + v
      sum = omega arith

      low : 2 ^ (i - v) * 2 ^ v ≤ x
      low = let e : i - v + v ≡ i = omega arith in le_trans (le_of_eq (sym (pow-add 2 (i - v) v) ∙ ap (λ (n : ℕ). 2 ^ n) e)) top.from

  -- all is gone exactly from i + 1 on
  pub lshr_gone : (v : ℕ) → i + 1 ≤ v → x / 2 ^ v ≡ 0
  lshr_gone v h = div-eq_of_lt (lt_of_lt_of_le top.below (pow_mono (omega arith)))

  pub lshr_from : (v : ℕ) → x / 2 ^ v ≡ 0 → i + 1 ≤ v
  lshr_from v z =
      ⊎_elim (λ (l : i < v). omega arith) (λ (l : v ≤ i). absurd (no (x / 2 ^ v) (2 ^ (i - v)) z (pow_pos (i - v)) (top_lshr v l).from)) (lt_or_ge i v)
    where
      no : (a b : ℕ) → a ≡ 0 → 0 < b → b ≤ a → ⊥
      no a b e f g = omega arith

  -- for another target it is the difference of the highest bits
  pub lshr_sum : {t j : ℕ} → (t ≡ 0 → ⊥) → Top 64 t j → (v : ℕ) → x / 2 ^ v ≡ t → v + j ≡ i
  lshr_sum {t} {j} f other v m =
      ⊎_elim (λ (l : i < v). absurd (f (sym m ∙ lshr_gone v (omega arith))))
      (λ (l : v ≤ i). let e = top_unique (subst (λ (n : ℕ). Top 64 n (i - v)) m (top_lshr v l)) other in omega arith) (lt_or_ge i v)

-- ---- for some value of the other
pub some_lshr_zero : (i w v t : ℕ) → v < 2 ^ w → t ≡ 0 → SomeWord w (λ s. (joint i v s).a / 2 ^ (joint i v s).b ≡ t)
some_lshr_zero zero w v t h e = record { by = w; fits = grow w; gives = div-eq_of_lt h ∙ sym e }
some_lshr_zero (suc i) w v t h e = record { by = 0; fits = pow_pos w; gives = zero-div (2 ^ v) ∙ sym e }

module _ {w t j : ℕ} (z : Sized w t) (top : Top 64 t j) where
  -- what t is shifted from is of w bits: the shift is below w - j
  pub reach : (s v : ℕ) → v < 2 ^ w → v / 2 ^ s ≡ t → j + s < w
  reach s v h m =
      pow_cancel (j + s) w
      (lt_of_le_of_lt (le_trans (le_of_eq (pow-add 2 j s)) (le_trans (mul-le-mul_right (2 ^ s) (le_trans top.from (le_of_eq (sym m)))) (div-mul-le_self v (2 ^ s)))) h)

  pub room : (s : ℕ) → j + s < w → t * 2 ^ s + 2 ^ s ≤ 2 ^ w
  room s l = le_trans (fit_ring t (2 ^ s) (2 ^ suc j) top.below) (le_trans (le_of_eq (sym (pow-add 2 (suc j) s))) (pow_mono (omega arith)))

  pub some_lshr : Solves w (λ v. SomeWord w (λ s. v / 2 ^ s ≡ t)) (Many (Several (Right t) (w - j)))
  some_lshr = record { fine = (omega (arith, z.wide), λ s l. le_trans (room s (omega arith)) (pow_mono z.wide)); to = to; back = back }
    where
      to : (v : ℕ) → v < 2 ^ w → Among (Right t) (w - j) v → SomeWord w (λ s. v / 2 ^ s ≡ t)
      to v h m =
          let b = m.below in
          record { by = m.at; fits = lt_of_le_of_lt (omega arith) (grow w); gives = span_to m.at t v m.inside.after m.inside.upto }

      back : (v : ℕ) → v < 2 ^ w → SomeWord w (λ s. v / 2 ^ s ≡ t) → Among (Right t) (w - j) v
      back v h m =
          let l = reach m.by v h m.gives in
          let b = span_back m.by t v m.gives in
          record { at = m.by; below = omega arith; inside = in_span _ _ v (lt_of_lt_of_le h (pow_mono z.wide)) b.0 b.1 }

  pub some_right : {r : Set} → Solves 64 (λ v. (0 ≤ v) × (v ≤ w - j - 1)) r → Solves w (λ v. SomeWord w (λ s. s / 2 ^ v ≡ t)) r
  some_right s =
      solves_by z.wide s
      (λ v l m. record { by = t * 2 ^ v; fits = let r = room v (fit v m.1) in omega (arith, pow_pos v); gives = shl-shr t v })
      (λ v l m. (zero-le, let k = reach v m.by m.fits m.gives in omega arith))
    where
      fit : (v : ℕ) → v ≤ w - j - 1 → j + v < w
      fit v u = let l = top_lt w t j z.fits top in omega arith
