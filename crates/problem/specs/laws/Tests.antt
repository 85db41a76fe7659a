-- What it says of numbers that a test of the table, made of comparisons by not, and, or, is not given.
use Rattle.std.specs.Prelude.{◌≡◌, refl, Bool, true, false, not, ◌&&◌, ◌||◌, ◌↔◌, ℕ, ◌≤◌, ◌<◌, ltb, leb, eqb}
use Rattle.std.proofs.Common.{true≢false, ltb-true, ltb-false, leb-true, leb-false, eqb-true, lt-ltb, le-ltb, le-leb, eq-eqb, ne_eqb}
use Rattle.std.proofs.lemmas.Bool.{false≢true, eqb-false, lt-leb, not-false}

-- that a comparison holds, and that it does not

pub lt_yes : (m n : ℕ) → (ltb m n ≡ true) ↔ (m < n)
lt_yes m n = (ltb-true m n, lt-ltb m n)

pub lt_no : (m n : ℕ) → (ltb m n ≡ false) ↔ (n ≤ m)
lt_no m n = (ltb-false m n, le-ltb m n)

pub le_yes : (m n : ℕ) → (leb m n ≡ true) ↔ (m ≤ n)
le_yes m n = (leb-true m n, le-leb m n)

pub le_no : (m n : ℕ) → (leb m n ≡ false) ↔ (n < m)
le_no m n = (leb-false m n, lt-leb m n)

pub eq_yes : (m n : ℕ) → (eqb m n ≡ true) ↔ (m ≡ n)
eq_yes m n = (eqb-true m n, eq-eqb m n)

pub eq_no : (m n : ℕ) → (eqb m n ≡ false) ↔ (m ≡ n → ⊥)
eq_no m n = (eqb-false m n, ne_eqb m n)

-- that a joined test does not hold, where the facts of its parts are known

pub not_no : {A : Type 0} {a : Bool} → (a ≡ true) ↔ A → (not a ≡ false) ↔ A
not_no {a = a} f = (λ h. f.0 (not-false a h), λ h. rw (f.1 h))

or_left : (a b : Bool) → (a || b) ≡ false → a ≡ false
or_left true b h = h
or_left false b h = refl

or_right : (a b : Bool) → (a || b) ≡ false → b ≡ false
or_right true b h = absurd (true≢false h)
or_right false b h = h

pub or_no : {A B : Type 0} {a b : Bool} → (a ≡ false) ↔ A → (b ≡ false) ↔ B → ((a || b) ≡ false) ↔ (A × B)
or_no {a = a} {b = b} f g = (λ h. (f.0 (or_left a b h), g.0 (or_right a b h)), λ h. rw (f.1 h.0, g.1 h.1))

and_no_of : (a b : Bool) → (a && b) ≡ false → a ≡ true → b ≡ false
and_no_of true b h e = h
and_no_of false b h e = absurd (false≢true e)

of_and_no : (a b : Bool) → (a ≡ true → b ≡ false) → (a && b) ≡ false
of_and_no true b h = h refl
of_and_no false b h = refl

-- a guard before a test
pub and_no : {A B : Type 0} {a b : Bool} → (a ≡ true) ↔ A → (b ≡ false) ↔ B → ((a && b) ≡ false) ↔ (A → B)
and_no {a = a} {b = b} f g = (λ h x. g.0 (and_no_of a b h (f.1 x)), λ h. of_and_no a b (λ e. g.1 (h (f.0 e))))
