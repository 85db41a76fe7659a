-- The x for which some s has x * s ≡ t to w bits, as a consistent value of a product asks: those with a set bit no higher than t's lowest. At any width.
use Rattle.std.specs.Prelude.{◌≡◌, ℕ, zero, suc, ◌+◌, ◌-◌, ◌*◌, ◌/◌, ◌%◌, ◌^◌, ◌<◌, ◌≤◌, ◌≢◌, refl}
use Rattle.std.proofs.Common.{sym, ap, ◌∙◌, subst, le_refl, le_trans, le_of_lt, lt_of_not-le, lt_of_lt_of_le, mod-lt, mod-eq_of_lt, mul-one, pow-suc, pos_of_ne-zero, le-add_right, le_of_suc-le-suc, mul-div_cancel, zero-mul, arith, pow_pos, pow_mono}
use Rattle.std.proofs.Math.Nat.{zero-mod, add-mod_right}
use Rattle.std.proofs.Math.Pow.{split}
use Rattle.words.specs.inner.Words.{Inverse, Tail}
use Rattle.words.specs.laws.Modular.{inverse_one, inverse_fewer, newton, mul_mod_l, mul_mod_r, same_mul, cut_cut}
use Rattle.words.specs.laws.Zeros.{tail_lt, trailing}
use Rattle.std.specs.Int.Count.{count_trailing_zeros}

-- ---- every odd number has an inverse to any width

grow : (n : ℕ) → n < 2 ^ n
grow zero = le_refl 1
grow (suc n) = step (2 ^ n) (2 ^ suc n) (grow n) (pow-suc 2 n)
  where
    step : (a b : ℕ) → n < a → b ≡ a * 2 → suc n < b
    step a b h e = omega arith

inverse_to : (n o : ℕ) → o % 2 ≡ 1 → (v : ℕ) × Inverse (2 ^ n) o v
inverse_to zero o odd = (1, inverse_one o odd)
inverse_to (suc n) o odd =
    let k = 2 ^ n in
    let w = k + k in
    let r = inverse_to n o odd in
    let y = o * r.0 % 2 ^ w in
    let big : 2 < 2 ^ w = lt_of_lt_of_le (le_refl 3) (le_trans (le-add_right 3 1) (pow_mono {i = 2} (two n))) in
    let ly : y < 2 ^ w = mod-lt (o * r.0) (pow_pos w) in
    let e : 2 ^ w + 2 - y + y ≡ 2 + 2 ^ w = omega arith in
    let z : (2 ^ w + 2 - y + y) % 2 ^ w ≡ 2 = ap (λ (a : ℕ). a % 2 ^ w) e ∙ add-mod_right 2 (2 ^ w) ∙ mod-eq_of_lt big in (
      r.0 * (2 ^ w + 2 - y) % 2 ^ w,
      subst (λ (a : ℕ). Inverse a o (r.0 * (2 ^ w + 2 - y) % 2 ^ w)) (twice n) (newton k w o r.0 y (2 ^ w + 2 - y) (pow_pos n) (le_refl w) r.1 refl z),
    )
  where
    twice : (m : ℕ) → 2 ^ m + 2 ^ m ≡ 2 ^ suc m
    twice m = omega (arith, pow-suc 2 m)

    two : (m : ℕ) → 2 ≤ 2 ^ m + 2 ^ m
    two m = omega (arith, pow_pos m)

pub inverse_exists : (w o : ℕ) → o % 2 ≡ 1 → (v : ℕ) × Inverse w o v
inverse_exists w o odd = let r = inverse_to w o odd in (r.0, inverse_fewer (le_of_lt (grow w)) r.1)

-- ---- the consistent set of a multiplication, without the operand's pair

-- x gives t "with some values of the other positions, any at all" (document 01)
pub record MulReaches (w t x : ℕ) : Type 0 where
  pub by : ℕ
  pub fits : by < 2 ^ w
  pub gives : x * by % 2 ^ w ≡ t

module _ (w d t m : ℕ) (ht : t < 2 ^ w) (tail : Tail d t m) where
  m_lt : m < w
  m_lt = tail_lt w d t m ht tail

  -- the bit m of t is set, so t is no multiple of 2 ^ (m + 1)
  not_multiple : t % 2 ^ suc m ≡ 0 → ⊥
  not_multiple e = odd (t / 2 ^ suc m) (t / 2 ^ m) split_eq tail.set
    where
      odd : (a b : ℕ) → b ≡ a * 2 → b % 2 ≢ 1
      odd a b f g = omega arith

      split_eq : t / 2 ^ m ≡ t / 2 ^ suc m * 2
      split_eq =
          let f : t / 2 ^ suc m * 2 * 2 ^ m ≡ t = omega (arith, split t (suc m), ap (λ (a : ℕ). t / 2 ^ suc m * a) (pow-suc 2 m)) in
          ap (λ (a : ℕ). a / 2 ^ m) (sym f) ∙ mul-div_cancel (t / 2 ^ suc m * 2) (pow_pos m)

  pub reach_some : (x : ℕ) → MulReaches w t x → x % 2 ^ suc m ≢ 0
  reach_some x r e =
      not_multiple
      (ap (λ (a : ℕ). a % 2 ^ suc m) (sym r.gives) ∙ cut_cut (x * r.by) w (suc m) m_lt ∙ sym (mul_mod_l x r.by (2 ^ suc m))
      ∙ ap (λ (a : ℕ). a * r.by % 2 ^ suc m) e ∙ ap (λ (a : ℕ). a % 2 ^ suc m) (zero-mul r.by) ∙ zero-mod (2 ^ suc m))

  pub some_reach : (x : ℕ) → x < 2 ^ w → (x % 2 ^ suc m ≢ 0) → MulReaches w t x
  some_reach x hx f =
      let pos : 0 < x = pos_of_ne-zero (λ (e : x ≡ 0). f (ap (λ (a : ℕ). a % 2 ^ suc m) e ∙ zero-mod (2 ^ suc m))) in
      let k = count_trailing_zeros w x in
      let g = trailing w x pos hx in
      let le : k ≤ m = le_of_suc-le-suc (lt_of_not-le (λ (l : suc m ≤ k). f (sym (cut_cut x k (suc m) l) ∙ ap (λ (a : ℕ). a % 2 ^ suc m) g.clear ∙ zero-mod (2 ^ suc m)))) in
      let i = inverse_exists w (x / 2 ^ k) g.set in
      let q = t / 2 ^ k in
      let tz : t % 2 ^ k ≡ 0 = sym (cut_cut t m k le) ∙ ap (λ (a : ℕ). a % 2 ^ k) tail.clear ∙ zero-mod (2 ^ k) in
      let et : q * 2 ^ k ≡ t = omega (arith, split t k) in
      let ex : x / 2 ^ k * 2 ^ k ≡ x = omega (arith, split x k, g.clear) in
      record {
        by = q * i.0 % 2 ^ w;
        fits = mod-lt (q * i.0) (pow_pos w);
        gives =
            mul_mod_r x (q * i.0) (2 ^ w)
            ∙ ap (λ (a : ℕ). a * (q * i.0) % 2 ^ w) (sym ex)
            ∙ ap (λ (a : ℕ). a % 2 ^ w) (ring (x / 2 ^ k) (2 ^ k) q i.0 ∙ ap (λ (a : ℕ). a * (x / 2 ^ k * i.0)) et)
            ∙ same_mul (2 ^ w) t (x / 2 ^ k * i.0) 1 i.1.one
            ∙ ap (λ (a : ℕ). a % 2 ^ w) (mul-one t) ∙ mod-eq_of_lt ht;
      }
    where
      ring : (o p q v : ℕ) → o * p * (q * v) ≡ q * p * (o * v)
      ring o p q v = omega arith
