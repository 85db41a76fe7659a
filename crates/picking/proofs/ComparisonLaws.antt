-- Eq and below: what the tests say, and what solves their equations.
use Rattle.std.proofs.Common.{◌≡◌, ℕ, zero, suc, ◌-◌, ◌^◌, ◌<◌, ◌≤◌, Bool, true, false, eqb, ltb, sym, refl, ap, ◌∙◌, le_trans, le_refl, lt_of_lt_of_le, lt_of_le_of_lt, arith, ltb-false, ltb-true, le-ltb, lt-ltb, eq-eqb, ne_eqb, eqb-true}
use borrow.Author.Tests.{eqb-false}
use Rattle.words.specs.Agree.{Agrees, Within}
use Rattle.words.specs.laws.Agree.{agrees_lt, agrees_only}
use Rattle.operators.specs.Meaning.{flag}
use Rattle.fixed.specs.Fixed.{pair}
use Rattle.fixed.specs.laws.Sound.{lo_agrees, hi_agrees}
use Rattle.boxes.specs.declared.Set.{Set}
use Rattle.boxes.specs.inner.Boxes.{Solves, SomeAgreeing}
use Rattle.picking.specs.inner.Asks.{joint}
use Rattle.boxes.specs.laws.Solves.{solves_by}

-- ---- what a flag says
flag_one : (b : Bool) → flag b ≡ 1 → b ≡ true
flag_one true e = refl
flag_one false e = absurd (omega arith)

flag_zero : (b : Bool) → flag b ≡ 0 → b ≡ false
flag_zero false e = refl
flag_zero true e = absurd (omega arith)

pub equal_no : (x y : ℕ) → flag (eqb x y) ≡ 0 → x ≡ y → ⊥
equal_no x y e = eqb-false x y (flag_zero (eqb x y) e)

pub yes_equal : (x y : ℕ) → x ≡ y → flag (eqb x y) ≡ 1
yes_equal x y e = ap flag (eq-eqb x y e)

pub no_equal : (x y : ℕ) → (x ≡ y → ⊥) → flag (eqb x y) ≡ 0
no_equal x y f = ap flag (ne_eqb x y f)

pub equal_comm : (x y : ℕ) → flag (eqb x y) ≡ flag (eqb y x)
equal_comm x y = go (eqb x y) refl
  where
    go : (b : Bool) → eqb x y ≡ b → flag (eqb x y) ≡ flag (eqb y x)
    go true e = yes_equal x y (eqb-true x y e) ∙ sym (yes_equal y x (sym (eqb-true x y e)))
    go false e = no_equal x y (eqb-false x y e) ∙ sym (no_equal y x (λ q. eqb-false x y e (sym q)))

pub less_yes : (x y : ℕ) → flag (ltb x y) ≡ 1 → x < y
less_yes x y e = ltb-true x y (flag_one (ltb x y) e)

pub less_no : (x y : ℕ) → flag (ltb x y) ≡ 0 → y ≤ x
less_no x y e = ltb-false x y (flag_zero (ltb x y) e)

pub yes_less : (x y : ℕ) → x < y → flag (ltb x y) ≡ 1
yes_less x y h = ap flag (lt-ltb x y h)

pub no_less : (x y : ℕ) → y ≤ x → flag (ltb x y) ≡ 0
no_less x y h = ap flag (le-ltb x y h)

pub bit_zero_of : (t : ℕ) → t < 2 → (t ≡ 1 → ⊥) → t ≡ 0
bit_zero_of t h f = omega arith

pub bit_one_of : (t : ℕ) → t < 2 → (t ≡ 0 → ⊥) → t ≡ 1
bit_one_of t h f = omega arith

pub position_one : (i : ℕ) → i < 2 → (i ≡ 0 → ⊥) → i ≡ 1
position_one i h f = bit_one_of i h f

-- ---- for some value of the other that agrees with l, h

-- eq: the value itself, or another one
module _ {l h t : ℕ} {r : Set} where
  -- there is only one
  pub some_apart : t ≡ 0 → Within l h → l ≡ h → Solves 64 (λ v. v ≡ l → ⊥) r → Solves 64 (λ v. SomeAgreeing l h (λ s. flag (eqb v s) ≡ t)) r
  some_apart e o d m =
      solves_by (le_refl 64) m (λ v b f. record { by = l; fits = lo_agrees {p = pair l h} o; gives = no_equal v l f ∙ sym e })
      (λ v b q k. equal_no v q.by (q.gives ∙ e) (k ∙ sym (agrees_only q.fits d)))

-- of two values one is another
pub some_other : {l h t : ℕ} → t ≡ 0 → Within l h → (l ≡ h → ⊥) → (v : ℕ) → SomeAgreeing l h (λ s. flag (eqb v s) ≡ t)
some_other {l} {h} {t} e o f v = go (eqb v l) refl
  where
    go : (b : Bool) → eqb v l ≡ b → SomeAgreeing l h (λ s. flag (eqb v s) ≡ t)
    go true k = record { by = h; fits = hi_agrees {p = pair l h} o; gives = no_equal v h (λ q. f (sym (eqb-true v l k) ∙ q)) ∙ sym e }
    go false k = record { by = l; fits = lo_agrees {p = pair l h} o; gives = no_equal v l (eqb-false v l k) ∙ sym e }

-- a test of the order of f: of the other's values the least or the greatest serves best
abbrev Tests : (ℕ → ℕ → Bool) → ℕ → ℕ → ℕ → ℕ → Type 0
Tests less i t v s = flag (less (joint i v s).a (joint i v s).b) ≡ t

far_by : {u : ℕ} (less : ℕ → ℕ → Bool) (i t : ℕ) {l h e : ℕ} {r : Set} → Agrees l h e → ((v s : ℕ) → v < 2 ^ u → Agrees l h s → Tests less i t v s → Tests less i t v e)
    → Solves u (λ v. Tests less i t v e) r → Solves u (λ v. SomeAgreeing l h (Tests less i t v)) r
far_by {u} less i t {e = e} g k m = solves_by (le_refl u) m (λ v b q. record { by = e; fits = g; gives = q }) (λ v b q. k v q.by b q.fits q.gives)

module _ (u : ℕ) (less : ℕ → ℕ → Bool) (f : ℕ → ℕ) (is : (x y : ℕ) → x < 2 ^ u → y < 2 ^ u → less x y ≡ ltb (f x) (f y)) where
  module _ {x y : ℕ} (hx : x < 2 ^ u) (hy : y < 2 ^ u) where
    test_yes : f x < f y → flag (less x y) ≡ 1
    test_yes l = ap flag (is x y hx hy) ∙ yes_less (f x) (f y) l

    test_no : f y ≤ f x → flag (less x y) ≡ 0
    test_no l = ap flag (is x y hx hy) ∙ no_less (f x) (f y) l

    yes_test : flag (less x y) ≡ 1 → f x < f y
    yes_test e = less_yes (f x) (f y) (ap flag (sym (is x y hx hy)) ∙ e)

    no_test : flag (less x y) ≡ 0 → f y ≤ f x
    no_test e = less_no (f x) (f y) (ap flag (sym (is x y hx hy)) ∙ e)

  module _ {v s e : ℕ} (hv : v < 2 ^ u) (hs : s < 2 ^ u) (he : e < 2 ^ u) where
    least_keeps : (i t : ℕ) → i < 2 → i ≡ t → f e ≤ f s → Tests less i t v s → Tests less i t v e
    least_keeps zero t h d l q = test_no hv he (le_trans l (no_test hv hs (q ∙ sym d))) ∙ d
    least_keeps (suc zero) t h d l q = test_yes he hv (lt_of_le_of_lt l (yes_test hs hv (q ∙ sym d))) ∙ d
    least_keeps (suc (suc i)) t h d l q = absurd (omega arith)

    most_keeps : (i t : ℕ) → i < 2 → 1 - i ≡ t → f s ≤ f e → Tests less i t v s → Tests less i t v e
    most_keeps zero t h d l q = test_yes hv he (lt_of_lt_of_le (yes_test hv hs (q ∙ sym d)) l) ∙ d
    most_keeps (suc zero) t h d l q = test_no he hv (le_trans (no_test hs hv (q ∙ sym d)) l) ∙ d
    most_keeps (suc (suc i)) t h d l q = absurd (omega arith)

  module _ {l h e i t : ℕ} {r : Set} (two : i < 2) (short : h < 2 ^ u) (g : Agrees l h e) where
    pub least_by : i ≡ t → ((s : ℕ) → Agrees l h s → f e ≤ f s) → Solves u (λ v. Tests less i t v e) r → Solves u (λ v. SomeAgreeing l h (Tests less i t v)) r
    least_by d k = far_by less i t g (λ v s b a. least_keeps b (agrees_lt u short a) (agrees_lt u short g) i t two d (k s a))

    pub most_by : t < 2 → (i ≡ t → ⊥) → ((s : ℕ) → Agrees l h s → f s ≤ f e) → Solves u (λ v. Tests less i t v e) r → Solves u (λ v. SomeAgreeing l h (Tests less i t v)) r
    most_by b n k = far_by less i t g (λ v s c a. most_keeps c (agrees_lt u short a) (agrees_lt u short g) i t two (omega arith) (k s a))
