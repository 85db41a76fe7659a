-- Laws of the places of a line's tokens, stored one after the other.
use Rattle.std.specs.Prelude.{◌≡◌, refl, Bool, true, false, List, [], ℕ, suc, ◌+◌, ◌-◌, ◌*◌, ◌≤◌, ◌<◌, eqb, length, get_or, take, drop, set}
use Rattle.std.proofs.Common.{◌∙◌, arith, add-zero, length-set, get_or-set_same, get_or-set_other, get_or-drop, eqb-true}
use Rattle.std.proofs.lemmas.Bool.{eqb-false}
use Rattle.lines.specs.Lines.{token, tokens}
use Rattle.texts.specs.declared.runs.Class.TheVariants.{Blank}
use Rattle.texts.specs.Runs.{is_in, length_of_run}
use Rattle.lines.specs.inner.Places.{token_length, past, begins, ends, beyond, stored, MarkedAt, Marked}
use Rattle.lines.specs.laws.Line.{token_head, token_places, token_after}

-- ---- the places of one token

module _ (l : List ℕ) (at from end : ℕ) (f : from ≡ at + length_of_run (is_in Blank) (drop at l)) (g : end ≡ from + token_length (drop from l)) where
  begins_there : from ≡ begins l at
  unfolding begins
  begins_there = f

  ends_there : end ≡ ends l at
  unfolding ends begins
  ends_there = g ∙ rw f

  pub marked_there : at ≤ length l → (k : ℕ) (marks : List ℕ) → MarkedAt l at k marks (set (set marks (2 * k) from) (2 * k + 1) end) (past from end (length l))
  unfolding beyond
  marked_there h k marks =
      let p = token_places l at from end f g h in
      record {
        from = from;
        end = end;
        from_is = begins_there;
        end_is = ends_there;
        r_is = rw (← begins_there, ← ends_there);
        stored_is = refl;
        ordered = p.0;
        inside = p.1;
        told = token_head l at from end f g;
        after = token_after l at from end f g h;
      }

-- ---- all of them

pub stored_turn : (l : List ℕ) (at k : ℕ) (marks marks' : List ℕ) (r : ℕ) (whole : List ℕ) → stored l (12 - k) at k marks ≡ whole → k < 12
    → MarkedAt l at k marks marks' r → stored l (12 - (k + 1)) r (k + 1) marks' ≡ whole
unfolding stored
stored_turn l at k marks marks' r whole q h A =
    let e : 12 - k ≡ suc (12 - (k + 1)) = omega arith in
    rw (A.stored_is, A.from_is, A.end_is, A.r_is) (rw e at q)

pub stored_all : (l : List ℕ) (at k : ℕ) (marks whole : List ℕ) → stored l (12 - k) at k marks ≡ whole → k ≡ 12 → marks ≡ whole
unfolding stored
stored_all l at k marks whole q z = rw z at q

pub marked_none : (l marks : List ℕ) → length marks ≡ 24 → Marked l 0 marks
marked_none l marks e = record { long = e; ordered = λ j h. absurd (omega arith); inside = λ j h. absurd (omega arith); told = λ j h. absurd (omega arith) }

module _ (marks : List ℕ) (k from end : ℕ) (e : length marks ≡ 24) (h : k < 12) where
  abbrev then_marks : List ℕ
  then_marks = set (set marks (2 * k) from) (2 * k + 1) end

  -- what stands there then: token k's places, and those of the tokens before
  first_there : get_or then_marks (2 * k) 0 ≡ from
  first_there =
      get_or-set_other (set marks (2 * k) from) (2 * k + 1) (2 * k) end 0 (λ z. let y : 2 * k ≡ 2 * k + 1 = z in omega arith)
      ∙ get_or-set_same marks (2 * k) from 0 (omega arith)

  second_there : get_or then_marks (2 * k + 1) 0 ≡ end
  second_there = get_or-set_same (set marks (2 * k) from) (2 * k + 1) end 0 (omega (arith, length-set marks (2 * k) from))

  others_there : (i : ℕ) → i < 2 * k → get_or then_marks i 0 ≡ get_or marks i 0
  others_there i l =
      get_or-set_other (set marks (2 * k) from) (2 * k + 1) i end 0 (λ z. let y : i ≡ 2 * k + 1 = z in omega arith)
      ∙ get_or-set_other marks (2 * k) i from 0 (λ z. let y : i ≡ 2 * k = z in omega arith)

-- token k is the first that is left from a place on
token_left : (l : List ℕ) (at k : ℕ) → tokens (drop at l) ≡ drop k (tokens l) → get_or (tokens (drop at l)) 0 [] ≡ token (tokens l) k
token_left l at k e = rw e (get_or-drop k (tokens l) 0 [] ∙ rw (add-zero k))

pub marked_more : (l : List ℕ) (at k : ℕ) (marks marks' : List ℕ) (r : ℕ) → Marked l k marks → k < 12 → tokens (drop at l) ≡ drop k (tokens l)
    → MarkedAt l at k marks marks' r → Marked l (k + 1) marks'
marked_more l at k marks marks' r M h q A =
    rw A.stored_is
    record {
      long = length-set (set marks (2 * k) A.from) (2 * k + 1) A.end ∙ length-set marks (2 * k) A.from ∙ M.long;
      ordered = λ j g. ordered j g (eqb j k) refl;
      inside = λ j g. inside j g (eqb j k) refl;
      told = λ j g. told j g (eqb j k) refl;
    }
  where
    first : get_or (set (set marks (2 * k) A.from) (2 * k + 1) A.end) (2 * k) 0 ≡ A.from
    first = first_there marks k A.from A.end M.long h

    second : get_or (set (set marks (2 * k) A.from) (2 * k + 1) A.end) (2 * k + 1) 0 ≡ A.end
    second = second_there marks k A.from A.end M.long h

    before : (j : ℕ) → j < k + 1 → (j ≡ k → ⊥) → j < k
    before j g n = omega arith

    other : (i : ℕ) → i < 2 * k → get_or (set (set marks (2 * k) A.from) (2 * k + 1) A.end) i 0 ≡ get_or marks i 0
    other i g = others_there marks k A.from A.end M.long h i g

    ordered : (j : ℕ) → j < k + 1 → (b : Bool) → eqb j k ≡ b
        → get_or (set (set marks (2 * k) A.from) (2 * k + 1) A.end) (2 * j) 0 ≤ get_or (set (set marks (2 * k) A.from) (2 * k + 1) A.end) (2 * j + 1) 0
    ordered j g true e = let z : j ≡ k = eqb-true j k e in rw (z, first, second) A.ordered
    ordered j g false e =
        let p = before j g (eqb-false j k e) in
        rw (other (2 * j) (omega arith), other (2 * j + 1) (omega arith)) (M.ordered j p)

    inside : (j : ℕ) → j < k + 1 → (b : Bool) → eqb j k ≡ b → get_or (set (set marks (2 * k) A.from) (2 * k + 1) A.end) (2 * j + 1) 0 ≤ length l
    inside j g true e = let z : j ≡ k = eqb-true j k e in rw (z, second) A.inside
    inside j g false e = let p = before j g (eqb-false j k e) in rw (other (2 * j + 1) (omega arith)) (M.inside j p)

    told : (j : ℕ) → j < k + 1 → (b : Bool) → eqb j k ≡ b
        → take (get_or (set (set marks (2 * k) A.from) (2 * k + 1) A.end) (2 * j + 1) 0 - get_or (set (set marks (2 * k) A.from) (2 * k + 1) A.end) (2 * j) 0)
        (drop (get_or (set (set marks (2 * k) A.from) (2 * k + 1) A.end) (2 * j) 0) l)
        ≡ token (tokens l) j
    told j g true e = let z : j ≡ k = eqb-true j k e in rw (z, first, second) (A.told ∙ token_left l at k q)
    told j g false e =
        let p = before j g (eqb-false j k e) in
        rw (other (2 * j) (omega arith), other (2 * j + 1) (omega arith)) (M.told j p)
