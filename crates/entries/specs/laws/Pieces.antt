-- Laws of pieces: a list's first piece, and the rest of it.
use Rattle.std.specs.Prelude.{◌≡◌, ℕ, zero, suc, ◌+◌, ◌-◌, ◌<◌, ◌≤◌, min, List, [], ◌∷◌, ◌++◌, length, take, drop}
use Rattle.std.proofs.Math.Path.{refl, ap}
use Rattle.std.proofs.Common.{sym, ◌∙◌, arith, not-suc-le-zero, length-drop, length-append, drop_of_length-le, take_all, drop-drop}
use Rattle.std.proofs.Math.Decide.{dec_lt}
use Rattle.entries.specs.Pieces.{chop}

-- ---- cut at the end

pub drop_min : {A : Type 0} (m : ℕ) (l : List A) → drop (min m (length l)) l ≡ drop m l
drop_min m l =
    elim (dec_lt (length l) m) [
      | yes h ↦
          let a : length l ≤ min m (length l) = omega arith in
          let b : length l ≤ m = omega arith in drop_of_length-le l a ∙ sym (drop_of_length-le l b)
      | no h ↦ let e : min m (length l) ≡ m = omega arith in ap (λ (n : ℕ). drop n l) e
    ]

-- from place i on, up to e
pub take_min : {A : Type 0} (i n e : ℕ) (l : List A) → e ≡ min (i + n) (length l) → take (e - i) (drop i l) ≡ take n (drop i l)
take_min i n e l h =
    elim (dec_lt (length l) (i + n)) [
      | yes k ↦
          let a : length (drop i l) ≤ e - i = omega (arith, length-drop i l) in
          let b : length (drop i l) ≤ n = omega (arith, length-drop i l) in
          take_all (e - i) (drop i l) a ∙ sym (take_all n (drop i l) b)
      | no k ↦ let d : e - i ≡ n = omega arith in ap (λ (m : ℕ). take m (drop i l)) d
    ]

pub drop_piece : {A : Type 0} (i n e : ℕ) (l : List A) → e ≡ min (i + n) (length l) → drop e l ≡ drop n (drop i l)
drop_piece i n e l h = ap (λ (m : ℕ). drop m l) h ∙ drop_min (i + n) l ∙ sym (drop-drop n i l)

pub less_one : {A : Type 0} (n : ℕ) (x : A) (xs : List A) → 0 < n → drop (n - 1) xs ≡ drop n (x ∷ xs)
less_one zero x xs h = absurd (not-suc-le-zero h)
less_one (suc n) x xs h = let e : suc n - 1 ≡ n = omega arith in ap (λ (m : ℕ). drop m xs) e

-- ---- pieces

module _ {A B : Type 0} (size : List A → ℕ) (says : List A → List B) where
  -- elements that belong to a piece heard are passed over
  chop_later : (k : ℕ) (l : List A) → chop size says k l ≡ chop size says 0 (drop k l)
  unfolding chop
  chop_later zero l = refl
  chop_later (suc k) [] = refl
  chop_later (suc k) (x ∷ xs) = chop_later k xs

  pub chop_none : chop size says 0 [] ≡ []
  unfolding chop
  chop_none = refl

  -- the first piece, then the others
  pub chop_front : (l : List A) → 0 < length l → 0 < size l → chop size says 0 l ≡ says l ++ chop size says 0 (drop (size l) l)
  unfolding chop
  chop_front [] h k = absurd (not-suc-le-zero h)
  chop_front (x ∷ xs) h k =
      ap (λ (r : List B). says (x ∷ xs) ++ r)
      (chop_later (size (x ∷ xs) - 1) xs ∙ ap (λ (r : List A). chop size says 0 r) (less_one (size (x ∷ xs)) x xs k))

-- where each piece says one thing at most, no more is said than the list is long
pub chop_short :
    {A B : Type 0} (size : List A → ℕ) (says : List A → List B) → ((l : List A) → length (says l) ≤ 1) → (k : ℕ) (l : List A)
    → length (chop size says k l) ≤ length l
unfolding chop
chop_short size says h k [] = omega arith
chop_short size says h zero (x ∷ xs) =
    omega (
      arith,
      h (x ∷ xs),
      length-append (says (x ∷ xs)) (chop size says (size (x ∷ xs) - 1) xs),
      chop_short size says h (size (x ∷ xs) - 1) xs,
    )
chop_short size says h (suc k) (x ∷ xs) = omega (arith, chop_short size says h k xs)
