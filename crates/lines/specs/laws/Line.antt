-- Laws of a line's tokens: what stands before, in and after the first of them.
use Rattle.std.specs.Prelude.{◌≡◌, Bool, not, ℕ, suc, ◌+◌, ◌-◌, ◌≤◌, ◌<◌, length, get_or, take, drop}
use Rattle.std.proofs.Math.Path.{refl, ap}
use Rattle.std.proofs.Common.{sym, ◌∙◌, arith, length-drop, drop-drop, get_or-drop, add-zero, eq-eqb, ne_eqb, eqb-true}
use Rattle.std.proofs.Math.Bool.{true, false, cond}
use mathlib.Core.List.{List, [], ◌∷◌}
use Rattle.std.proofs.Math.Dec.{eqb, eqb-suc-zero}
use Rattle.std.proofs.Math.Seq.{drop-length}
use Rattle.lines.specs.inner.Places.{token_length, past, After}
use Rattle.std.proofs.lemmas.Bool.{eqb-false}
use Rattle.texts.specs.declared.runs.Class.TheVariants.{Blank, Solid}
use Rattle.texts.specs.laws.Runs.{later, split_first, run_past, run_inside, run_short}
use Rattle.texts.specs.Runs.{is_blank, is_in, length_of_run, split}
use Rattle.lines.specs.Lines.{Token, kept, tokens}

-- ---- blanks in front

tokens_blank : (b : ℕ) (s : List ℕ) → is_blank b ≡ true → tokens (b ∷ s) ≡ tokens s
unfolding tokens split kept
tokens_blank b s e = rw e

pub tokens_skip : (s : List ℕ) → tokens s ≡ tokens (drop (length_of_run is_blank s) s)
unfolding length_of_run
tokens_skip [] = refl
tokens_skip (b ∷ s) = by (is_blank b) refl (tokens_skip s)
  where
    by : (t : Bool) → is_blank b ≡ t → tokens s ≡ tokens (drop (length_of_run is_blank s) s)
        → tokens (b ∷ s) ≡ tokens (drop (cond t (suc (length_of_run is_blank s)) 0) (b ∷ s))
    by true e h = tokens_blank b s e ∙ h
    by false e h = refl

-- ---- the first piece

abbrev solid : ℕ → Bool
solid b = not (is_blank b)

-- what the pieces after a first one keep is what the text's tokens are from there on
kept_later : (s : List ℕ) → kept (later is_blank (drop (length_of_run solid s) s)) ≡ tokens (drop (length_of_run solid s) s)
unfolding length_of_run later tokens kept split
kept_later [] = refl
kept_later (b ∷ s) = by (is_blank b) refl (kept_later s)
  where
    by : (t : Bool) → is_blank b ≡ t
        → kept (later is_blank (drop (length_of_run solid s) s)) ≡ tokens (drop (length_of_run solid s) s)
        → kept (later is_blank (drop (cond (not t) (suc (length_of_run solid s)) 0) (b ∷ s)))
        ≡ tokens (drop (cond (not t) (suc (length_of_run solid s)) 0) (b ∷ s))
    by true e h = sym (tokens_blank b s e)
    by false e h = h

-- ---- the first token

solid_run : (s : List ℕ) → length_of_run (is_in Solid) s ≡ length_of_run solid s
unfolding is_in
solid_run s = refl

-- s begins with no blank
pub record Bare (s : List ℕ) : Type 0 where
  pub bare : length_of_run is_blank s ≡ 0

bare_head : (b : ℕ) (s : List ℕ) → Bare (b ∷ s) → is_blank b ≡ false
unfolding length_of_run
bare_head b s h = by (is_blank b) h.bare
  where
    by : (t : Bool) → cond t (suc (length_of_run is_blank s)) 0 ≡ 0 → t ≡ false
    by true e = absurd (omega arith)
    by false e = refl

-- the two cases: no token, and one
pub data First (s : List ℕ) : List Token → ℕ → Type 0 where
  none : First s [] 0
  some : (n : ℕ) → First s (take (suc n) s ∷ tokens (drop (suc n) s)) (suc n)

kept_first : (b : ℕ) (t : Token) (ts : List Token) → kept ((b ∷ t) ∷ ts) ≡ cond (eqb b 59) [] ((b ∷ t) ∷ kept ts)
unfolding kept
kept_first b t ts = rw (eqb-suc-zero (length t))

-- of a text that begins with a byte that is no blank
module _ (b : ℕ) (s : List ℕ) (e : is_blank b ≡ false) where
  run_more : length_of_run solid (b ∷ s) ≡ suc (length_of_run solid s)
  unfolding length_of_run
  run_more = rw e

  tokens_first : tokens (b ∷ s) ≡ cond (eqb b 59) [] (take (suc (length_of_run solid s)) (b ∷ s) ∷ tokens (drop (suc (length_of_run solid s)) (b ∷ s)))
  unfolding tokens
  tokens_first =
      ap kept (split_first is_blank (b ∷ s) ∙ rw run_more) ∙ kept_first b _ _
      ∙ ap (λ (ts : List Token). cond (eqb b 59) [] (take (suc (length_of_run solid s)) (b ∷ s) ∷ ts)) (kept_later s)

  length_first : token_length (b ∷ s) ≡ cond (eqb b 59) 0 (suc (length_of_run solid s))
  unfolding token_length
  length_first = rw (solid_run (b ∷ s), run_more)

  first_of : (t : Bool)
      → First (b ∷ s) (cond t [] (take (suc (length_of_run solid s)) (b ∷ s) ∷ tokens (drop (suc (length_of_run solid s)) (b ∷ s))))
      (cond t 0 (suc (length_of_run solid s)))
  first_of true = none
  first_of false = some (length_of_run solid s)

pub first_token : (s : List ℕ) → Bare s → First s (tokens s) (token_length s)
unfolding token_length length_of_run tokens kept split
first_token [] h = none
first_token (b ∷ s) h =
    let e = bare_head b s h in rw (tokens_first b s e, length_first b s e) (first_of b s e (eqb b 59))

-- ---- the first token of what begins with blanks

-- the text after its blanks
abbrev pub bared : List ℕ → List ℕ
bared s = drop (length_of_run (is_in Blank) s) s

blank_run : (s : List ℕ) → length_of_run (is_in Blank) s ≡ length_of_run is_blank s
unfolding is_in
blank_run s = refl

pub bared_first : (s : List ℕ) → First (bared s) (tokens s) (token_length (bared s))
bared_first s =
    rw (tokens_skip s, ← blank_run s)
    (first_token (bared s) (record { bare = rw (blank_run s) (run_past is_blank s) }))

head_of : {s : List ℕ} {ts : List Token} {n : ℕ} → First s ts n → get_or ts 0 [] ≡ take n s
head_of none = refl
head_of (some n) = refl

tail_of : {s : List ℕ} {ts : List Token} {n : ℕ} → First s ts n → 0 < n → drop 1 ts ≡ tokens (drop n s)
tail_of none h = absurd (omega arith)
tail_of (some n) h = refl

gone_of : {s : List ℕ} {ts : List Token} {n : ℕ} → First s ts n → n ≡ 0 → drop 1 ts ≡ []
gone_of none h = refl
gone_of (some n) h = absurd (omega arith)

-- ---- places of a line: the blanks from place `at` on end at `from`, and the token there at `end`

tokens_none : tokens [] ≡ []
unfolding tokens kept split
tokens_none = refl

token_inside : (s : List ℕ) → token_length s ≤ length s
unfolding token_length
token_inside s = by (eqb (get_or s 0 0) 59)
  where
    by : (t : Bool) → cond t 0 (length_of_run (is_in Solid) s) ≤ length s
    by true = omega arith
    by false = run_short (is_in Solid) s

module _ (l : List ℕ) (at from end : ℕ) (f : from ≡ at + length_of_run (is_in Blank) (drop at l)) (g : end ≡ from + token_length (drop from l)) where
  bared_at : bared (drop at l) ≡ drop from l
  bared_at = rw f (drop-drop (length_of_run (is_in Blank) (drop at l)) at l)

  first_at : First (drop from l) (tokens (drop at l)) (token_length (drop from l))
  first_at = rw bared_at at (bared_first (drop at l))

  pub token_head : take (end - from) (drop from l) ≡ get_or (tokens (drop at l)) 0 []
  token_head = let h : end - from ≡ token_length (drop from l) = omega arith in rw h (sym (head_of first_at))

  token_tail : (end ≡ from → ⊥) → tokens (drop end l) ≡ drop 1 (tokens (drop at l))
  token_tail h =
      rw (tail_of first_at (omega arith)) (ap tokens (rw g (sym (drop-drop (token_length (drop from l)) from l))))

  token_gone : end ≡ from → tokens (drop (length l) l) ≡ drop 1 (tokens (drop at l))
  token_gone h = rw (drop-length l) (tokens_none ∙ sym (gone_of first_at (omega arith)))

  pub token_places : at ≤ length l → (from ≤ end) × (end ≤ length l)
  token_places h =
      let i = run_inside (is_in Blank) l at from h f in
      (omega arith, omega (arith, token_inside (drop from l), length-drop from l, i))

  pub token_after : at ≤ length l → After l at (past from end (length l))
  unfolding past
  token_after h = by (eqb end from) refl
    where
      by : (b : Bool) → eqb end from ≡ b → After l at (cond b (length l) end)
      by true e = record { inside = omega arith; left = token_gone (eqb-true end from e) }
      by false e = record { inside = (token_places h).1; left = token_tail (eqb-false end from e) }

-- ---- token k

pub token_starts : (l : List ℕ) → tokens (drop 0 l) ≡ drop 0 (tokens l)
token_starts l = refl

pub token_turn : (l : List ℕ) (at r i : ℕ) → tokens (drop at l) ≡ drop i (tokens l) → After l at r → tokens (drop r l) ≡ drop (i + 1) (tokens l)
token_turn l at r i h a = a.left ∙ rw h (drop-drop 1 i (tokens l))

pub token_found : (l : List ℕ) (at i k : ℕ) (t : Token) → tokens (drop at l) ≡ drop i (tokens l) → i ≡ k → t ≡ get_or (tokens (drop at l)) 0 []
    → t ≡ get_or (tokens l) k []
token_found l at i k t h e f = f ∙ rw (h, e) (get_or-drop k (tokens l) 0 [] ∙ rw add-zero)

-- where the token from a place on ends
pub end_comment : (l : List ℕ) (from : ℕ) → get_or l from 0 ≡ 59 → from ≡ from + token_length (drop from l)
unfolding token_length
end_comment l from e = rw (get_or-drop from l 0 0, add-zero, eq-eqb _ _ e) (sym (add-zero from))

pub end_run : (l : List ℕ) (from r : ℕ) → (get_or l from 0 ≡ 59 → ⊥) → r ≡ from + length_of_run (is_in Solid) (drop from l)
    → r ≡ from + token_length (drop from l)
unfolding token_length
end_run l from r n e = rw (get_or-drop from l 0 0, add-zero, ne_eqb _ _ n) e
