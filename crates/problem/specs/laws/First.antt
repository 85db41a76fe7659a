-- Laws of the first refusal: of two answers, of the lines of a list, and of the places below a number.
use Rattle.std.specs.Prelude.{Err as Refused, Ok, ◌≡◌, Bool, true, false, cond, ◌&&◌, List, [], ◌∷◌, ◌++◌}
use Rattle.std.proofs.Math.Path.{refl, ap}
use Rattle.std.proofs.Common.{sym, ◌∙◌, add-one, arith, not-suc-le-zero, le_of_suc-le-suc, eq-or-lt_of_le}
use Rattle.std.proofs.lemmas.Bool.{false≢true}
use Rattle.std.proofs.Math.Logic.{⊎_elim}
use Prim.Native.Nat.{ℕ, zero, suc, ◌+◌, ◌≤◌, ◌<◌}
use Rattle.problem.specs.declared.Refusal.{Refusal}
use Rattle.problem.specs.Refusals.{Checked, Accepted, refusal, Line, first_of, ◌then◌, first_below}

pub refused_not : {r : Refusal} → Refused r ≡ Accepted → ⊥
refused_not h = let z : ◌≡◌ {A = ℕ} 0 1 = cc in omega arith

-- of two

pub then_accepted : (x y : Checked) → x ≡ Accepted → (x then y) ≡ y
then_accepted x y h = rw h

pub then_refused : (x y : Checked) (r : Refusal) → x ≡ Refused r → (x then y) ≡ Refused r
then_refused x y r h = rw h

pub then_left : (x y : Checked) → (x then y) ≡ Accepted → x ≡ Accepted
then_left (Ok tt) y h = refl
then_left (Refused r) y h = h

pub then_right : (x y : Checked) → (x then y) ≡ Accepted → y ≡ Accepted
then_right (Ok tt) y h = h
then_right (Refused r) y h = absurd (refused_not h)

-- what holds of the refusals of both holds of the first
pub then_each : (P : Checked → Type 0) (x y : Checked) → P x → P y → P (x then y)
then_each P (Ok tt) y p q = q
then_each P (Refused r) y p q = p

-- of a list of lines

both_left : (a b : Bool) → (a && b) ≡ true → a ≡ true
both_left true b h = refl
both_left false b h = h

both_right : (a b : Bool) → (a && b) ≡ true → b ≡ true
both_right true b h = h
both_right false b h = absurd (false≢true h)

-- that no line is given
abbrev pub NoneOf : List Line → Type 0
NoneOf [] = Unit {0}
NoneOf (l ∷ ls) = (l.1 ≡ false) × NoneOf ls

none_step :
    (p n : ℕ) (t : Bool) (ls : List Line)
    → (first_of p ls ≡ Accepted → NoneOf ls)
    → cond t (refusal n p) (first_of p ls) ≡ Accepted
    → (t ≡ false) × NoneOf ls
none_step p n true ls k h = absurd (refused_not h)
none_step p n false ls k h = (refl, k h)

pub none_of : (p : ℕ) (ls : List Line) → first_of p ls ≡ Accepted → NoneOf ls
unfolding first_of
none_of p [] h = tt
none_of p (l ∷ ls) h = none_step p l.0 l.1 ls (none_of p ls) h

pub of_none : (p : ℕ) (ls : List Line) → NoneOf ls → first_of p ls ≡ Accepted
unfolding first_of
of_none p [] n = refl
of_none p (l ∷ ls) n = rw n.0 (of_none p ls n.1)

-- a line after the others
line_step : (p : ℕ) (k : ℕ) (t : Bool) (x y z : Checked) → (x then y) ≡ z → (cond t (refusal k p) x then y) ≡ cond t (refusal k p) z
line_step p k true x y z e = refl
line_step p k false x y z e = e

pub line_last :
    (p : ℕ) (ls : List Line) (l : Line) → (first_of p ls then cond l.1 (refusal l.0 p) Accepted) ≡ first_of p (ls ++ l ∷ [])
unfolding first_of
line_last p [] l = then_accepted Accepted (cond l.1 (refusal l.0 p) Accepted) refl
line_last p (k ∷ ls) l = line_step p k.0 k.1 _ _ _ (line_last p ls l)

-- what the code has before the first line, and after one line more, whose test t' it worked out
pub line_at_start : (p : ℕ) → Accepted ≡ first_of p []
unfolding first_of
line_at_start p = refl

pub line_more :
    (p : ℕ) (ls : List Line) (k : ℕ) (t t' : Bool) (x r : Checked)
    → x ≡ first_of p ls
    → t' ≡ t
    → r ≡ (x then cond t' (refusal k p) Accepted)
    → r ≡ first_of p (ls ++ (k, t) ∷ [])
line_more p ls k t t' x r e q h = h ∙ rw (e, q) (line_last p ls (k, t))

-- what holds of acceptance and of a refusal by each number that passes a test holds of the first line, where the lines have such numbers
abbrev pub numbers_in : (ℕ → Bool) → List Line → Bool
numbers_in f [] = true
numbers_in f (l ∷ ls) = f l.0 && numbers_in f ls

first_step : (P : Checked → Type 0) (x y : Checked) (t : Bool) → P x → P y → P (cond t x y)
first_step P x y true p q = p
first_step P x y false p q = q

pub first_of_each :
    (P : Checked → Type 0) (p : ℕ) (f : ℕ → Bool) (ls : List Line)
    → numbers_in f ls ≡ true
    → ((k : ℕ) → f k ≡ true → P (refusal k p))
    → P Accepted
    → P (first_of p ls)
unfolding first_of
first_of_each P p f [] t h z = z
first_of_each P p f (l ∷ ls) t h z =
    first_step P _ _ l.1 (h l.0 (both_left (f l.0) (numbers_in f ls) t)) (first_of_each P p f ls (both_right (f l.0) (numbers_in f ls) t) h z)

-- of the places below a number

module _ (f : ℕ → Checked) where
  pub first_none : first_below f 0 ≡ Accepted
  first_none = refl

  -- one place more is accepted
  pub first_more : (i : ℕ) (x : Checked) → first_below f i ≡ Accepted → x ≡ f i → x ≡ Accepted → first_below f (i + 1) ≡ Accepted
  first_more i x p q e = rw (add-one, p, ← q, e)

  -- the refusal at i, below which there is none, is the first below each number above i
  pub first_found : (i n : ℕ) (r : Refusal) → first_below f i ≡ Accepted → f i ≡ Refused r → i < n → first_below f n ≡ Refused r
  first_found i zero r p q h = absurd (not-suc-le-zero h)
  first_found i (suc n) r p q h =
      ⊎_elim
      (λ (e : i ≡ n). let q' : f n ≡ Refused r = cc in let p' : first_below f n ≡ Accepted = cc in rw (p', q'))
      (λ (l : i < n). then_refused _ (f n) r (first_found i n r p q l))
      (eq-or-lt_of_le (le_of_suc-le-suc h))

  pub first_at :
      (i n : ℕ) (x : Checked) (r : Refusal)
      → first_below f i ≡ Accepted
      → x ≡ f i
      → x ≡ Refused r
      → i < n
      → x ≡ first_below f n
  first_at i n x r p q e l = e ∙ sym (first_found i n r p (sym q ∙ e) l)

  -- all places passed
  pub first_end : (i n : ℕ) → i ≤ n → n ≤ i → first_below f i ≡ Accepted → Accepted ≡ first_below f n
  first_end i n a b p = let e : i ≡ n = omega arith in sym (rw e at p)

  -- none is refused exactly if each place is accepted
  pub first_each : (n : ℕ) → first_below f n ≡ Accepted → (k : ℕ) → k < n → f k ≡ Accepted
  first_each zero p k h = absurd (not-suc-le-zero h)
  first_each (suc n) p k h =
      ⊎_elim (λ (e : k ≡ n). ap f e ∙ then_right (first_below f n) (f n) p)
      (λ (l : k < n). first_each n (then_left (first_below f n) (f n) p) k l) (eq-or-lt_of_le (le_of_suc-le-suc h))

  pub first_all : (n : ℕ) → ((k : ℕ) → k < n → f k ≡ Accepted) → first_below f n ≡ Accepted
  first_all zero h = refl
  first_all (suc n) h = then_accepted _ _ (first_all n (λ k l. h k (omega arith))) ∙ h n (omega arith)

  -- what holds of acceptance and of each place's answer holds of the first refusal
  pub first_below_each : (P : Checked → Type 0) → P Accepted → (n : ℕ) → ((k : ℕ) → k < n → P (f k)) → P (first_below f n)
  first_below_each P a zero h = a
  first_below_each P a (suc n) h = then_each P _ _ (first_below_each P a n (λ k l. h k (omega arith))) (h n (omega arith))
