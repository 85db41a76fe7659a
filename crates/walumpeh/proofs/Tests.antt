-- Tests joined by & and |, and what they decide. A record, so that what is decided is read off it.
use mathlib.Core.Path.{◌≡◌, refl}
use mathlib.Core.Bool.{Bool, true, false, ◌&&◌, ◌||◌, false≢true}
use Prim.Native.Nat.{ℕ, ◌≤◌, ◌<◌}
use native.Mathlib.Omega.{arith}
use lib.Dec.{leb, ltb, eqb}
use borrow.Author.Tests.{leb-true, leb-false, ltb-true, ltb-false, eqb-true, eqb-false}
use Rattle.words.specs.inner.Decides.{Decides}
use Rattle.words.specs.laws.Decides.{decides_same}

pub record Told (A : Type 0) (r : Bool) : Type 0 where
  pub is : Decides A r

pub told : (A : Type 0) (r : Bool) → Decides A r → Told A r
told A r d = record { is = d }

pub both : {A B : Type 0} {a b : Bool} → Told A a → Told B b → Told (A × B) (a && b)
both {A} {B} {a} {b} p q = record { is = by a b p.is q.is }
  where
    by : (a b : Bool) → Decides A a → Decides B b → Decides (A × B) (a && b)
    by true true x y = (x, y)
    by true false x y = λ p. y p.1
    by false b x y = λ p. x p.0

-- A wherever n is at most k
pub where_most : {A : Type 0} {a : Bool} (k n : ℕ) → Told A a → Told (n ≤ k → A) (ltb k n || a)
where_most {A} {a} k n p = record { is = by (ltb k n) refl a p.is }
  where
    by : (t : Bool) → ltb k n ≡ t → (a : Bool) → Decides A a → Decides (n ≤ k → A) (t || a)
    by true e a x = λ h. absurd (omega (arith, ltb-true k n e))
    by false e true x = λ h. x
    by false e false x = λ f. x (f (ltb-false k n e))

pub at_most : (a b : ℕ) → Told (a ≤ b) (leb a b)
at_most a b = record { is = by (leb a b) refl }
  where
    by : (t : Bool) → leb a b ≡ t → Decides (a ≤ b) t
    by true e = leb-true a b e
    by false e = λ h. omega (arith, leb-false a b e)

pub less : (a b : ℕ) → Told (a < b) (ltb a b)
less a b = record { is = by (ltb a b) refl }
  where
    by : (t : Bool) → ltb a b ≡ t → Decides (a < b) t
    by true e = ltb-true a b e
    by false e = λ h. omega (arith, ltb-false a b e)

pub same : (a b : ℕ) → Told (a ≡ b) (eqb a b)
same a b = record { is = by (eqb a b) refl }
  where
    by : (t : Bool) → eqb a b ≡ t → Decides (a ≡ b) t
    by true e = eqb-true a b e
    by false e = eqb-false a b e

pub is_true : (a : Bool) → Told (a ≡ true) a
is_true true = record { is = refl }
is_true false = record { is = λ e. false≢true e }

-- the same test of an equal fact
pub as_fact : {A : Type 0} {r : Bool} (B : Type 0) → (A → B) → (B → A) → Told A r → Decides B r
as_fact {A} {r} B to back p = decides_same A B to back r p.is
