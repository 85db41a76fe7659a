-- Laws of tokens: what stands at a place of a text.
use Rattle.std.specs.Prelude.{◌≡◌, ℕ, zero, suc, ◌+◌, ◌-◌, ◌<◌, ◌≤◌, min, Bool, true, false, cond, ◌||◌, List, [], ◌∷◌, ◌++◌, length, take, drop, ◌==◌, ◌≢◌, slice_index, slice_index_or, slice_range, refl}
use Rattle.std.proofs.Common.{sym, ap, ◌∙◌, true≢false, arith, not-suc-le-zero, zero-add, length-drop, drop_of_length-le, get_or-drop, drop-drop}
use Rattle.std.proofs.lemmas.Bool.{false≢true}
use Rattle.std.proofs.Math.Decide.{dec_lt}
use Rattle.std.proofs.Math.ListN.{get_or-eq_default}
use Rattle.std.proofs.Math.Seq.{take-nil}
use borrow.Author.Tests.{eqb-true, eq-eqb, ne_eqb}
use Rattle.texts.specs.Runs.{is_white, is_in, length_of_run}
use Rattle.texts.specs.laws.Runs.{run_inside}
use Rattle.texts.specs.declared.runs.Class.TheVariants.{Comment, Bars, Bare}
use Rattle.entries.specs.Tokens.{is_gap, piece_length, token_at, tokens}
use Rattle.entries.specs.inner.Places.{gap_length, next_place, past_piece, place_after, Skipped, After}
use Rattle.entries.specs.laws.Pieces.{take_min, drop_piece, less_one, chop_none, chop_front}

-- ---- a piece has a byte at least

run_some : (p : ℕ → Bool) (s : List ℕ) → 0 < length s → p (slice_index s 0) ≡ true → 0 < length_of_run p s
unfolding length_of_run
run_some p [] h e = absurd (not-suc-le-zero h)
run_some p (b ∷ s) h e = rw e (omega arith)

comment_first : (b : ℕ) → (b == 59) ≡ true → is_in Comment b ≡ true
unfolding is_in
comment_first b h = rw (eqb-true b 59 h)

piece_some : (s : List ℕ) → 0 < length s → 0 < piece_length s
unfolding piece_length
piece_some s h = by (slice_index s 0 == 59) (slice_index s 0 == 124) (is_in Bare (slice_index s 0)) refl refl
  where
    by :
        (c q n : Bool)
        → (slice_index s 0 == 59) ≡ c
        → is_in Bare (slice_index s 0) ≡ n
        → 0
        < cond c (length_of_run (is_in Comment) s)
        (cond q (2 + length_of_run (is_in Bars) (drop 1 s)) (cond n (length_of_run (is_in Bare) s) 1))
    by true q n e f = run_some (is_in Comment) s h (comment_first (slice_index s 0) e)
    by false true n e f = omega arith
    by false false true e f = run_some (is_in Bare) s h f
    by false false false e f = omega arith

-- ---- what stands at a place

first_byte : (text : List ℕ) (i : ℕ) → slice_index (drop i text) 0 ≡ slice_index text i
first_byte text i = get_or-drop i text 0 0 ∙ (let e : i + 0 ≡ i = omega arith in ap (λ (n : ℕ). slice_index text n) e)

at_place : (text : List ℕ) (i e : ℕ) → i < length text → e ≡ min (i + piece_length (drop i text)) (length text)
    → tokens (drop i text) ≡ token_at (drop i text) ++ tokens (drop e text)
unfolding tokens
at_place text i e h k =
    let l : 0 < length (drop i text) = omega (arith, length-drop i text) in
    chop_front piece_length token_at (drop i text) l (piece_some (drop i text) l)
    ∙ rw (drop_piece i (piece_length (drop i text)) e text k)

-- a gap has no token
pub tokens_gap : (text : List ℕ) (i e : ℕ) (t : Bool) → i < length text → t ≡ is_gap (slice_index text i) → t ≡ true
    → e ≡ min (i + piece_length (drop i text)) (length text)
    → tokens (drop i text) ≡ tokens (drop e text)
unfolding token_at
tokens_gap text i e t h q y k = at_place text i e h k ∙ rw (first_byte text i, ← q, y)

pub tokens_piece : (text : List ℕ) (i e : ℕ) → i < length text → is_gap (slice_index text i) ≡ false
    → e ≡ min (i + piece_length (drop i text)) (length text)
    → tokens (drop i text) ≡ slice_range text i e ∷ tokens (drop e text)
unfolding token_at
tokens_piece text i e h g k =
    at_place text i e h k ∙ rw (first_byte text i, g, take_min i (piece_length (drop i text)) e text k)

pub tokens_none : (text : List ℕ) (i : ℕ) → length text ≤ i → tokens (drop i text) ≡ []
unfolding tokens
tokens_none text i h = rw (drop_of_length-le text h) (chop_none piece_length token_at)

-- a piece goes on, and not past the end
pub piece_inside : (text : List ℕ) (i e : ℕ) → i ≤ length text → e ≡ min (i + piece_length (drop i text)) (length text)
    → (i ≤ e) × (e ≤ length text)
piece_inside text i e h k = (omega arith, omega arith)

pub piece_onward : (text : List ℕ) (i e : ℕ) → i < length text → e ≡ min (i + piece_length (drop i text)) (length text) → i < e
piece_onward text i e h k = omega (arith, piece_some (drop i text) (omega (arith, length-drop i text)))

-- ---- where a piece ends

pub bars_next : (text : List ℕ) (at : ℕ) → drop 1 (drop at text) ≡ drop (at + 1) text
bars_next text at = drop-drop 1 at text

module _ (text : List ℕ) (at e : ℕ) (k : e ≡ (at + 1) + length_of_run (is_in Bars) (drop (at + 1) text)) where
  pub bars_closed : e < length text → e + 1 ≡ min (at + (2 + length_of_run (is_in Bars) (drop 1 (drop at text)))) (length text)
  bars_closed h = rw (bars_next text at) (omega arith)

  pub bars_open :
      at + 1 ≤ length text → length text ≤ e → e ≡ min (at + (2 + length_of_run (is_in Bars) (drop 1 (drop at text)))) (length text)
  bars_open l h = rw (bars_next text at) (omega (arith, (run_inside (is_in Bars) text (at + 1) e l k).1))

-- the byte that a piece begins with, in the definition and in the code
here : (text : List ℕ) (at b : ℕ) → b ≡ slice_index text at → slice_index (drop at text) 0 ≡ b
here text at b q = first_byte text at ∙ sym q

module _ (text : List ℕ) (at e b : ℕ) (q : b ≡ slice_index text at) where
  run_piece : (p : ℕ → Bool) → at ≤ length text → e ≡ at + length_of_run p (drop at text) → e ≡ min (at + length_of_run p (drop at text)) (length text)
  run_piece p h k = omega (arith, (run_inside p text at e h k).1)

  pub ends_comment : b ≡ 59 → at ≤ length text → e ≡ at + length_of_run (is_in Comment) (drop at text)
      → e ≡ min (at + piece_length (drop at text)) (length text)
  unfolding piece_length
  ends_comment y h k = rw (here text at b q, y) (run_piece (is_in Comment) h k)

  pub ends_quoted : (b ≢ 59) → b ≡ 124 → e ≡ min (at + (2 + length_of_run (is_in Bars) (drop 1 (drop at text)))) (length text)
      → e ≡ min (at + piece_length (drop at text)) (length text)
  unfolding piece_length
  ends_quoted x y k = rw (here text at b q, y) k

  pub ends_bare :
      (t : Bool) → (b ≢ 59) → (b ≢ 124) → t ≡ is_in Bare b → t ≡ true → at ≤ length text
      → e ≡ at + length_of_run (is_in Bare) (drop at text)
      → e ≡ min (at + piece_length (drop at text)) (length text)
  unfolding piece_length
  ends_bare t x y w u h k = rw (here text at b q, ne_eqb b 59 x, ne_eqb b 124 y, ← w, u) (run_piece (is_in Bare) h k)

-- a byte that is there, since it is not what stands past the end
byte_there : (text : List ℕ) (at b : ℕ) → b ≡ slice_index text at → (b ≢ 0) → at + 1 ≤ length text
byte_there text at b q x =
    elim (dec_lt at (length text)) [
      | yes h ↦ omega arith
      | no h ↦ let l : length text ≤ at = omega arith in absurd (x (q ∙ get_or-eq_default text 0 l))
    ]

pub bar_there : (text : List ℕ) (at b : ℕ) → b ≡ slice_index text at → b ≡ 124 → at + 1 ≤ length text
bar_there text at b q y = byte_there text at b q (λ z. omega arith)

not_none : (b : ℕ) (t : Bool) → t ≡ is_in Bare b → t ≡ false → b ≢ 0
unfolding is_in is_white
not_none b t w u z = true≢false (rw z at (sym w ∙ u))

module _ (text : List ℕ) (at b : ℕ) (q : b ≡ slice_index text at) (t : Bool) (x : b ≡ 59 → ⊥) (y : b ≡ 124 → ⊥) (w : t ≡ is_in Bare b)
    (u : t ≡ false) where
  pub ends_there : at + 1 ≤ length text
  ends_there = byte_there text at b q (not_none b t w u)

  pub ends_byte : at + 1 ≡ min (at + piece_length (drop at text)) (length text)
  unfolding piece_length
  ends_byte = rw (here text at b q, ne_eqb b 59 x, ne_eqb b 124 y, ← w, u) (omega (arith, ends_there))

-- a gap is a comment, or a byte of white space, which is no bar and in no bare token
white_plain : (b : ℕ) → is_gap b ≡ true → (b ≢ 59) → (b ≢ 124) × (is_in Bare b ≡ false)
unfolding is_gap is_in is_white
white_plain b g x =
    let w : is_white b ≡ true = left_of (is_white b) (b == 59) g (ne_eqb b 59 x) in
    (λ e. false≢true (rw e at w), rw (white_true b w))
  where
    left_of : (p q : Bool) → (p || q) ≡ true → q ≡ false → p ≡ true
    left_of true q h k = refl
    left_of false q h k = absurd (false≢true (sym k ∙ h))

    white_true : (b : ℕ) → is_white b ≡ true → (b == 32 || b == 9 || b == 10 || b == 13) ≡ true
    white_true b h = h

module _ (text : List ℕ) (at : ℕ) (h : at < length text) where
  pub gap_comment : (e : ℕ) → slice_index text at ≡ 59 → e ≡ at + length_of_run (is_in Comment) (drop at text)
      → e ≡ min (at + piece_length (drop at text)) (length text)
  gap_comment e y k = ends_comment text at e (slice_index text at) refl y (omega arith) k

  pub gap_white : is_gap (slice_index text at) ≡ true → (slice_index text at ≢ 59) → at + 1 ≡ min (at + piece_length (drop at text)) (length text)
  gap_white g x =
      let w = white_plain (slice_index text at) g x in
      ends_byte text at (slice_index text at) refl (is_in Bare (slice_index text at)) x w.0 refl w.1

-- ---- the place of the next token

-- bytes that belong to a gap that has begun are passed over
gap_later : (k : ℕ) (s : List ℕ) → gap_length k s ≡ min k (length s) + gap_length 0 (drop k s)
unfolding gap_length
gap_later zero s = let e : min 0 (length s) ≡ 0 = omega arith in rw e (sym (zero-add (gap_length 0 s)))
gap_later (suc k) [] = let e : min (suc k) 0 ≡ 0 = omega arith in rw e refl
gap_later (suc k) (b ∷ s) = omega (arith, gap_later k s)

gap_step : (s : List ℕ) → 0 < length s → is_gap (slice_index s 0) ≡ true
    → gap_length 0 s ≡ min (piece_length s) (length s) + gap_length 0 (drop (piece_length s) s)
unfolding gap_length
gap_step [] h g = absurd (not-suc-le-zero h)
gap_step (b ∷ s) h g =
    let p = piece_length (b ∷ s) in
    let l : 0 < p = piece_some (b ∷ s) h in
    let e : gap_length (p - 1) s ≡ min (p - 1) (length s) + gap_length 0 (drop p (b ∷ s)) =
    gap_later (p - 1) s ∙ ap (λ (r : List ℕ). min (p - 1) (length s) + gap_length 0 r) (less_one p b s l) in
    rw g (omega (arith, l, e))

gap_none : (s : List ℕ) → is_gap (slice_index s 0) ≡ false → gap_length 0 s ≡ 0
unfolding gap_length
gap_none [] g = refl
gap_none (b ∷ s) g = rw g

no_gap : gap_length 0 [] ≡ 0
unfolding gap_length
no_gap = refl

-- after a gap the next token is the same
pub next_gap : (text : List ℕ) (i e : ℕ) (t : Bool) → i < length text → t ≡ is_gap (slice_index text i) → t ≡ true
    → e ≡ min (i + piece_length (drop i text)) (length text)
    → next_place text e ≡ next_place text i
unfolding next_place
next_gap text i e t h q y k =
    let s = drop i text in
    let g : is_gap (slice_index s 0) ≡ true = ap is_gap (first_byte text i) ∙ sym q ∙ y in
    let a : gap_length 0 s ≡ min (piece_length s) (length s) + gap_length 0 (drop (piece_length s) s) =
    gap_step s (omega (arith, length-drop i text)) g in
    rw (drop_piece i (piece_length s) e text k) (omega (arith, a, k, length-drop i text))

-- where no gap begins, there it is
pub next_here : (text : List ℕ) (i : ℕ) → (i < length text → is_gap (slice_index text i) ≡ false) → i ≡ next_place text i
unfolding next_place
next_here text i stop =
    elim (dec_lt i (length text)) [
      | yes h ↦ omega (arith, gap_none (drop i text) (ap is_gap (first_byte text i) ∙ stop h))
      | no h ↦ let l : length text ≤ i = omega arith in rw (drop_of_length-le text l) (none_left i)
    ]
  where
    none_left : (n : ℕ) → n ≡ n + gap_length 0 []
    none_left n = omega (arith, no_gap)

place_one : (text : List ℕ) (at e : ℕ) → e ≡ past_piece text (next_place text at) → e ≡ place_after text at 1
unfolding place_after
place_one text at e h = h

-- ---- the next token

module _ (text : List ℕ) (at from e : ℕ) (s : Skipped text at from) (k : e ≡ min (from + piece_length (drop from text)) (length text)) where
  pub next_found : take (e - from) (drop from text) ≡ slice_index_or (tokens (drop at text)) 0 []
  next_found =
      elim (dec_lt from (length text)) [
        | yes h ↦ rw (← s.same, tokens_piece text from e h (s.stops h) k)
        | no h ↦
            let l : length text ≤ from = omega arith in
            rw (← s.same, tokens_none text from l, drop_of_length-le text l) (take-nil (e - from))
      ]

  pub next_after : After text at 1 e
  next_after =
      record {
        onward = omega (arith, s.onward, s.inside, k);
        inside = omega (arith, k);
        left =
            elim (dec_lt from (length text)) [
              | yes h ↦ rw (← s.same, tokens_piece text from e h (s.stops h) k)
              | no h ↦
                  let l : length text ≤ from = omega arith in
                  let g : length text ≤ e = omega (arith, s.inside, k) in
                  rw (← s.same, tokens_none text from l, tokens_none text e g)
            ];
        exactly = place_one text at e (k ∙ ap (λ (p : ℕ). past_piece text p) s.exactly);
      }

-- ---- after some tokens

pub after_none : (text : List ℕ) (at : ℕ) → at ≤ length text → After text at 0 at
unfolding place_after
after_none text at h = record { onward = omega arith; inside = h; left = refl; exactly = refl }

place_more : (text : List ℕ) (at i n : ℕ) → place_after text (place_after text at i) n ≡ place_after text at (i + n)
unfolding place_after
place_more text at i zero = let e : i + 0 ≡ i = omega arith in rw e
place_more text at i (suc n) =
    let e : i + suc n ≡ suc (i + n) = omega arith in rw e (ap (λ (p : ℕ). past_piece text (next_place text p)) (place_more text at i n))

pub after_more : (text : List ℕ) (at p r i n : ℕ) → After text at i p → After text p n r → After text at (i + n) r
after_more text at p r i n a b =
    record {
      onward = omega (arith, a.onward, b.onward);
      inside = b.inside;
      left = b.left ∙ rw a.left (drop-drop n i (tokens (drop at text)));
      exactly = b.exactly ∙ ap (λ (q : ℕ). place_after text q n) a.exactly ∙ place_more text at i n;
    }

-- where there is a token, the place after it is another
pub after_moves : (text : List ℕ) (at n r : ℕ) → After text at n r → 0 < n → 0 < length (tokens (drop at text)) → at < r
after_moves text at n r a p h =
    elim (dec_lt at r) [
      | yes l ↦ l
      | no l ↦
          let e : at ≡ r = omega (arith, a.onward) in
          let f : length (tokens (drop at text)) ≡ length (tokens (drop at text)) - n =
          ap (λ (q : ℕ). length (tokens (drop q text))) e ∙ ap length a.left ∙ length-drop n (tokens (drop at text)) in
          absurd (omega (arith, f))
    ]

-- token k is the first after k
pub token_at_lem : (text : List ℕ) (at k p : ℕ) (t : List ℕ) → After text at k p → t ≡ slice_index_or (tokens (drop p text)) 0 []
    → t ≡ slice_index_or (tokens (drop at text)) k []
token_at_lem text at k p t a e = e ∙ rw a.left (first_of k (tokens (drop at text)))
  where
    first_of : (k : ℕ) (ts : List (List ℕ)) → slice_index_or (drop k ts) 0 [] ≡ slice_index_or ts k []
    first_of zero ts = refl
    first_of (suc k) [] = refl
    first_of (suc k) (u ∷ us) = first_of k us

pub after_all : (text : List ℕ) (at i n r : ℕ) → After text at i r → i ≡ n → After text at n r
after_all text at i n r a e = rw e at a

-- no token is left exactly if the next would begin at the end
pub ended_is : (text : List ℕ) (at r : ℕ) → Skipped text at r → (r == length text) ≡ (length (tokens (drop at text)) == 0)
ended_is text at r s =
    elim (dec_lt r (length text)) [
      | yes h ↦
          let e = min (r + piece_length (drop r text)) (length text) in
          let n : length (tokens (drop at text)) ≡ suc (length (tokens (drop e text))) =
          ap length (sym s.same ∙ tokens_piece text r e h (s.stops h) refl) in
          ne_eqb r (length text) (λ q. omega arith) ∙ sym (ne_eqb (length (tokens (drop at text))) 0 (λ q. omega (arith, n)))
      | no h ↦
          let l : length text ≤ r = omega arith in
          let n : length (tokens (drop at text)) ≡ 0 = ap length (sym s.same ∙ tokens_none text r l) in
          eq-eqb r (length text) (omega (arith, s.inside)) ∙ sym (eq-eqb (length (tokens (drop at text))) 0 n)
    ]
