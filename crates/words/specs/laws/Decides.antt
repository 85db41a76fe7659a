-- Laws of tests: at most one answer, and tests made of tests.
use Rattle.std.specs.Prelude.{◌≡◌, ℕ, Bool, true, false, not, ◌&&◌, ◌==◌, refl}
use Rattle.std.proofs.Common.{subst, eqb-true}
use Rattle.std.proofs.lemmas.Bool.{eqb-false}
use Rattle.words.specs.inner.Decides.{Decides}

-- at most one answer
pub decides_unique : (A : Type 0) (r s : Bool) → Decides A r → Decides A s → r ≡ s
decides_unique A true true a b = refl
decides_unique A true false a b = absurd (b a)
decides_unique A false true a b = absurd (a b)
decides_unique A false false a b = refl

-- what a caller has after its branch
pub decides_yes : (A : Type 0) (r : Bool) → Decides A r → r ≡ true → A
decides_yes A r d e = subst (Decides A) e d

pub decides_no : (A : Type 0) (r : Bool) → Decides A r → r ≡ false → A → ⊥
decides_no A r d e = subst (Decides A) e d

-- a test of one fact is a test of any that holds where it does
pub decides_same : (A B : Type 0) → (A → B) → (B → A) → (r : Bool) → Decides A r → Decides B r
decides_same A B to back true a = to a
decides_same A B to back false a = λ b. a (back b)

-- ---- tests made of tests

pub decides_eq : (x y : ℕ) → Decides (x ≡ y) (x == y)
decides_eq x y = go (x == y) refl
  where
    go : (b : Bool) → (x == y) ≡ b → Decides (x ≡ y) b
    go true e = eqb-true x y e
    go false e = eqb-false x y e

pub decides_not : (A : Type 0) (a : Bool) → Decides A a → Decides (A → ⊥) (not a)
decides_not A true p = λ f. f p
decides_not A false p = p

pub decides_and : (A B : Type 0) (a b : Bool) → Decides A a → Decides B b → Decides (A × B) (a && b)
decides_and A B true true p q = (p, q)
decides_and A B true false p q = λ m. q m.1
decides_and A B false b p q = λ m. p m.0
