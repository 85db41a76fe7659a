-- Laws of tables that grow at their end, and of lines found by their ids.
use Rattle.std.specs.Prelude.{◌≡◌, refl, Bool, true, false, cond, ◌||◌, List, [], ◌∷◌, ◌++◌, ℕ, ◌≤◌, ◌<◌, eqb}
use Rattle.std.proofs.Common.{sym, ◌∙◌, arith, eq-eqb, ne_eqb}
use Rattle.std.proofs.lemmas.Bool.{false≢true}
use Rattle.lines.specs.Lines.{tokens}
use Rattle.btor2.specs.Conversion.{Table, known, at}
use Rattle.lines.specs.inner.Told.{id_of, find_line}

-- ---- tables

pub known_snoc : (x : ℕ) (t : Table) (i v : ℕ) → known x (t ++ (i, v) ∷ []) ≡ (known x t || eqb i x)
unfolding known
known_snoc x [] i v = by (eqb i x)
  where
    by : (b : Bool) → (b || false) ≡ b
    by true = refl
    by false = refl
known_snoc x (e ∷ t) i v = by (eqb e.0 x) (known_snoc x t i v)
  where
    by : (b : Bool) → known x (t ++ (i, v) ∷ []) ≡ (known x t || eqb i x) → (b || known x (t ++ (i, v) ∷ [])) ≡ ((b || known x t) || eqb i x)
    by true h = refl
    by false h = h

pub at_snoc_old : (x : ℕ) (t : Table) (i v : ℕ) → known x t ≡ true → at x (t ++ (i, v) ∷ []) ≡ at x t
unfolding known at
at_snoc_old x [] i v h = absurd (false≢true h)
at_snoc_old x (e ∷ t) i v h = by (eqb e.0 x) refl (at_snoc_old x t i v)
  where
    by : (b : Bool) → eqb e.0 x ≡ b → (known x t ≡ true → at x (t ++ (i, v) ∷ []) ≡ at x t)
        → cond b e.1 (at x (t ++ (i, v) ∷ [])) ≡ cond b e.1 (at x t)
    by true q f = refl
    by false q f = f (rw q at h)

pub at_snoc_new : (x : ℕ) (t : Table) (i v : ℕ) → known x t ≡ false → i ≡ x → at x (t ++ (i, v) ∷ []) ≡ v
unfolding known at
at_snoc_new x [] i v h e = rw (eq-eqb i x e)
at_snoc_new x (y ∷ t) i v h e = by (eqb y.0 x) refl (at_snoc_new x t i v)
  where
    by : (b : Bool) → eqb y.0 x ≡ b → (known x t ≡ false → i ≡ x → at x (t ++ (i, v) ∷ []) ≡ v)
        → cond b y.1 (at x (t ++ (i, v) ∷ [])) ≡ v
    by true q f = absurd (false≢true (sym (rw q at h)))
    by false q f = f (rw q at h) e

pub at_snoc_other : (x : ℕ) (t : Table) (i v : ℕ) → (i ≡ x → ⊥) → at x (t ++ (i, v) ∷ []) ≡ at x t
unfolding at
at_snoc_other x [] i v n = rw (ne_eqb i x n)
at_snoc_other x (e ∷ t) i v n = rw (at_snoc_other x t i v n)

pub known_snoc_other : (x : ℕ) (t : Table) (i v : ℕ) → (i ≡ x → ⊥) → known x (t ++ (i, v) ∷ []) ≡ known x t
known_snoc_other x t i v n = known_snoc x t i v ∙ rw (ne_eqb i x n) (by (known x t))
  where
    by : (b : Bool) → (b || false) ≡ b
    by true = refl
    by false = refl

pub known_snoc_new : (x : ℕ) (t : Table) (i v : ℕ) → i ≡ x → known x (t ++ (i, v) ∷ []) ≡ true
known_snoc_new x t i v e = known_snoc x t i v ∙ rw (eq-eqb i x e) (by (known x t))
  where
    by : (b : Bool) → (b || true) ≡ true
    by true = refl
    by false = refl

pub known_snoc_old : (x : ℕ) (t : Table) (i v : ℕ) → known x t ≡ true → known x (t ++ (i, v) ∷ []) ≡ true
known_snoc_old x t i v e = known_snoc x t i v ∙ rw e

pub at_unknown : (x : ℕ) (t : Table) → known x t ≡ false → at x t ≡ 0
unfolding known at
at_unknown x [] h = refl
at_unknown x (e ∷ t) h = by (eqb e.0 x) refl (at_unknown x t)
  where
    by : (b : Bool) → eqb e.0 x ≡ b → (known x t ≡ false → at x t ≡ 0) → cond b e.1 (at x t) ≡ 0
    by true q f = absurd (false≢true (sym (rw q at h)))
    by false q f = f (rw q at h)

-- ---- lines

-- no line has an id over n
unfoldable pub AllBelow : ℕ → List (List ℕ) → Type 0
AllBelow n [] = Unit {0}
AllBelow n (l ∷ ls) = (id_of (tokens l) ≤ n) × AllBelow n ls

pub below_mono : (n m : ℕ) (ls : List (List ℕ)) → n ≤ m → AllBelow n ls → AllBelow m ls
unfolding AllBelow
below_mono n m [] h a = tt
below_mono n m (l ∷ ls) h a = (let b = a.0 in omega arith, below_mono n m ls h a.1)

pub below_snoc : (n : ℕ) (ls : List (List ℕ)) (l : List ℕ) → AllBelow n ls → id_of (tokens l) ≤ n → AllBelow n (ls ++ l ∷ [])
unfolding AllBelow
below_snoc n [] l a h = (h, tt)
below_snoc n (x ∷ ls) l a h = (a.0, below_snoc n ls l a.1 h)

pub find_other : (x : ℕ) (ls : List (List ℕ)) (l : List ℕ) → (id_of (tokens l) ≡ x → ⊥) → find_line x (ls ++ l ∷ []) ≡ find_line x ls
unfolding find_line
find_other x [] l n = rw (ne_eqb (id_of (tokens l)) x n)
find_other x (y ∷ ls) l n = rw (find_other x ls l n)

pub find_new : (n x : ℕ) (ls : List (List ℕ)) (l : List ℕ) → AllBelow n ls → n < x → id_of (tokens l) ≡ x → find_line x (ls ++ l ∷ []) ≡ l
unfolding find_line AllBelow
find_new n x [] l a h e = rw (eq-eqb (id_of (tokens l)) x e)
find_new n x (y ∷ ls) l a h e =
    let b = a.0 in
    rw (ne_eqb (id_of (tokens y)) x (λ z. not_that z b)) (find_new n x ls l a.1 h e)
  where
    not_that : id_of (tokens y) ≡ x → id_of (tokens y) ≤ n → ⊥
    not_that z b = omega arith

pub find_none : (n x : ℕ) (ls : List (List ℕ)) → AllBelow n ls → n < x → find_line x ls ≡ []
unfolding find_line AllBelow
find_none n x [] a h = refl
find_none n x (y ∷ ls) a h =
    let b = a.0 in
    rw (ne_eqb (id_of (tokens y)) x (λ z. not_that z b)) (find_none n x ls a.1 h)
  where
    not_that : id_of (tokens y) ≡ x → id_of (tokens y) ≤ n → ⊥
    not_that z b = omega arith
