-- Laws of entries: slots matched one by one, and what an entry at a place says.
use Rattle.std.specs.Prelude.{◌≡◌, ℕ, zero, suc, ◌+◌, ◌-◌, ◌<◌, ◌≤◌, Bool, true, false, cond, ◌&&◌, List, [], ◌∷◌, ◌++◌, length, take, drop, ◌==◌, ◌≢◌, nat_lt, slice_index_or, slice_range, refl, Option, Some, None, Result, Ok, is_err}
use Rattle.std.specs.Result.{result_ok}
use Rattle.std.proofs.Common.{sym, ◌∙◌, arith, add-one, drop-cons, drop-drop}
use Rattle.std.proofs.Math.Path.{ap}
use Rattle.std.proofs.Math.Dec.{eqb-suc-suc}
use Rattle.std.proofs.Math.Seq.{drop-length}
use borrow.Author.Tests.{lt-ltb, le-ltb, eq-eqb, ne_eqb}
use Rattle.texts.specs.Runs.{ascii, equal}
use Rattle.texts.specs.Numbers.{value_in, numbered}
use Rattle.entries.specs.declared.Slot.{Slot}
use Rattle.entries.specs.declared.Slot.TheVariants.{Opens, Literal}
use Rattle.entries.specs.Tokens.{tokens}
use Rattle.entries.specs.Names.{inside}
use Rattle.entries.specs.declared.Places.{Places}
use Rattle.entries.specs.Entries.{width_said, base_of, literal_width, fits, matches, heading, literal, decimal, entry_size, value_width, value_said, entry_of, body, step_over, entries_in, left_in, is_model, misfits}
use Rattle.entries.specs.inner.Places.{After, Begins, Ends, form, matches_part, PassedBy, Parts, places_at, Found, EntryAt, small, told_to, word_in, word_for, item_said}
use Rattle.entries.specs.Pieces.{chop}
use Rattle.entries.specs.laws.Numbers.{width_most, told_unfit, told_word, told_exact, told_for}
use Rattle.entries.specs.laws.Pieces.{chop_none, chop_front}
use Rattle.entries.specs.laws.Tokens.{after_none, after_more, after_all, after_moves, token_at_lem}

form_length : length form ≡ 18
unfolding form heading literal decimal
form_length = refl

-- ---- slots first to last, one by one

slots_next : (i last : ℕ) → i < last → last ≤ 18 → slice_range form i last ≡ slice_index_or form i Opens ∷ take (last - (i + 1)) (drop (i + 1) form)
slots_next i last h l =
    let k : i < length form = omega (arith, form_length) in
    rw (add-one, drop-cons form i Opens k) (one_more (last - i) (last - suc i) (omega arith))
  where
    one_more : (m n : ℕ) → m ≡ suc n → take m (slice_index_or form i Opens ∷ drop (suc i) form) ≡ slice_index_or form i Opens ∷ take n (drop (suc i) form)
    one_more m n e = rw e

slots_none : (i last : ℕ) → last ≤ i → slice_range form i last ≡ []
slots_none i last h = let e : last - i ≡ 0 = omega arith in rw e

module _ (text : List ℕ) (place i last : ℕ) (slot : Slot) (t : List ℕ) (r : Bool) (h : i < last) (l : last ≤ 18) (s : slot ≡ slice_index_or form i Opens)
    (k : t ≡ slice_index_or (tokens (drop place text)) 0 []) (q : r ≡ fits slot t) where
  here : matches_part text place i last ≡ (r && matches (take (last - (i + 1)) (drop (i + 1) form)) (drop 1 (tokens (drop place text))))
  unfolding matches
  here = rw (slots_next i last h l, ← s, ← k, ← q)

  pub slot_fits : (next : ℕ) (whole : Bool) → r ≡ true → After text place 1 next → whole ≡ matches_part text place i last
      → whole ≡ matches_part text next (i + 1) last
  slot_fits next whole y a w = w ∙ here ∙ rw (y, a.left)

  pub slot_wrong : (whole : Bool) → r ≡ false → whole ≡ matches_part text place i last → whole ≡ false
  slot_wrong whole y w = w ∙ here ∙ rw y

pub slots_end : (text : List ℕ) (place i last : ℕ) (whole : Bool) → whole ≡ matches_part text place i last → last ≤ i → whole ≡ true
unfolding matches
slots_end text place i last whole w h = w ∙ rw (slots_none i last h)

-- the tokens that were passed so far
pub passed_none : (text : List ℕ) (at first : ℕ) → at ≤ length text → After text at (first - first) at
passed_none text at first h = let e : 0 ≡ first - first = omega arith in after_all text at 0 (first - first) at (after_none text at h) e

pub passed_more : (text : List ℕ) (at first i place next : ℕ) → After text at (i - first) place → first ≤ i → After text place 1 next
    → After text at (i + 1 - first) next
passed_more text at first i place next a h b =
    let e : i - first + 1 ≡ i + 1 - first = omega arith in
    after_all text at (i - first + 1) (i + 1 - first) next (after_more text at place next (i - first) 1 a b) e

pub passed_end : (text : List ℕ) (at first i last place : ℕ) → After text at (i - first) place → i ≤ last → last ≤ i → After text at (last - first) place
passed_end text at first i last place a h l =
    let e : i - first ≡ last - first = omega arith in after_all text at (i - first) (last - first) place a e

-- what a walk tells, by its answer
pub passed_all : (text : List ℕ) (at first last : ℕ) (r : Option ℕ) (p : ℕ) → PassedBy text at first last r → r ≡ Some p
    → (matches_part text at first last ≡ true) × After text at (last - first) p
passed_all text at first last r p h e = rw e at h

pub passed_not : (text : List ℕ) (at first last : ℕ) (r : Option ℕ) → PassedBy text at first last r → r ≡ None
    → matches_part text at first last ≡ false
passed_not text at first last r h e = rw e at h

-- ---- an entry, part by part

and_assoc : (a b c : Bool) → (a && b && c) ≡ (a && (b && c))
and_assoc true b c = refl
and_assoc false b c = refl

drop_next : {A : Type 0} (n : ℕ) (l : List A) → drop n (drop 1 l) ≡ drop (suc n) l
drop_next zero [] = refl
drop_next (suc n) [] = refl
drop_next n (x ∷ xs) = refl

matches_append : (ps qs : List Slot) (ts : List (List ℕ)) → matches (ps ++ qs) ts ≡ (matches ps ts && matches qs (drop (length ps) ts))
unfolding matches
matches_append [] qs ts = refl
matches_append (p ∷ ps) qs ts =
    rw (matches_append ps qs (drop 1 ts), drop_next (length ps) ts)
    (sym (and_assoc (fits p (slice_index_or ts 0 [])) (matches ps (drop 1 ts)) (matches qs (drop (suc (length ps)) ts))))

heading_rest : (ts : List (List ℕ)) → matches (slice_range form 2 10) ts ≡ (matches (slice_range form 2 8) ts && matches (slice_range form 8 10) (drop 6 ts))
unfolding form heading literal decimal
heading_rest ts = matches_append (slice_range form 2 8) (slice_range form 8 10) ts

heading_parts : (ts : List (List ℕ))
    → matches heading ts
    ≡ (matches (slice_range form 0 2) ts
    && (matches (slice_range form 2 8) (drop 2 ts) && matches (slice_range form 8 10) (drop 8 ts)))
unfolding form heading literal decimal
heading_parts ts =
    matches_append (slice_range form 0 2) (slice_range form 2 10) ts
    ∙ ap (λ (b : Bool). matches (slice_range form 0 2) ts && b)
    (heading_rest (drop 2 ts) ∙ ap (λ (us : List (List ℕ)). matches (slice_range form 2 8) (drop 2 ts) && matches (slice_range form 8 10) us) (drop-drop 6 2 ts))

literal_part : (ts : List (List ℕ)) → matches (slice_range form 10 12) ts ≡ matches literal ts
unfolding form heading literal decimal
literal_part ts = refl

decimal_part : (ts : List (List ℕ)) → matches (slice_range form 12 18) ts ≡ matches decimal ts
unfolding form heading literal decimal
decimal_part ts = refl

module _ (text : List ℕ) (at : ℕ) where
  abbrev ts : List (List ℕ)
  ts = tokens (drop at text)

  none_at : 0 ≡ entry_size ts → EntryAt text at None
  unfolding places_at
  none_at e = record { exactly = rw (eq-eqb (entry_size ts) 0 (sym e)); none = λ _. e; found = λ p y. cc }

  pub not_first : matches_part text at 0 2 ≡ false → EntryAt text at None
  unfolding entry_size
  not_first x = none_at (rw (heading_parts ts, x))

  module _ (name : ℕ) (x : (matches_part text at 0 2 ≡ true) × After text at 2 name) where
    second : matches (slice_range form 2 8) (drop 2 ts) ≡ matches_part text name 2 8
    second = rw (← x.1.left)

    pub not_second : matches_part text name 2 8 ≡ false → EntryAt text at None
    unfolding entry_size
    not_second y = none_at (rw (heading_parts ts, x.0, second, y))

    module _ (sort : ℕ) (y : (matches_part text name 2 8 ≡ true) × After text name 6 sort) where
      to_sort : After text at 8 sort
      to_sort = after_more text at name sort 2 6 x.1 y.1

      third : matches (slice_range form 8 10) (drop 8 ts) ≡ matches_part text sort 8 10
      third = rw (← to_sort.left)

      pub not_third : matches_part text sort 8 10 ≡ false → EntryAt text at None
      unfolding entry_size
      not_third z = none_at (rw (heading_parts ts, x.0, second, y.0, third, z))

      module _ (value : ℕ) (z : (matches_part text sort 8 10 ≡ true) × After text sort 2 value) where
        to_value : After text at 10 value
        to_value = after_more text at sort value 8 2 to_sort z.1

        headed : matches heading ts ≡ true
        headed = rw (heading_parts ts, x.0, second, y.0, third, z.0)

        as_literal : matches literal (drop 10 ts) ≡ matches_part text value 10 12
        as_literal = rw (← to_value.left) (sym (literal_part (tokens (drop value text))))

        as_decimal : matches decimal (drop 10 ts) ≡ matches_part text value 12 18
        as_decimal = rw (← to_value.left) (sym (decimal_part (tokens (drop value text))))

        -- an entry of so many tokens
        found_at : (n end : ℕ) → (n ≢ 0) → n ≡ entry_size ts → After text at n end → EntryAt text at (Some (record { name = name; sort = sort; value = value; end = end; size = n }))
        unfolding places_at
        found_at n end some e a =
            let f : Found text at (record { name = name; sort = sort; value = value; end = end; size = n }) =
            record { size = e; some = some; parts = record { name = x.1; sort = to_sort; value = to_value; end = a } } in
            record {
              exactly = rw (← e, ne_eqb n 0 some, ← x.1.exactly, ← to_sort.exactly, ← to_value.exactly, ← a.exactly);
              none = λ y. cc;
              found = λ p y. let g : ◌≡◌ {A = Places} (record { name = name; sort = sort; value = value; end = end; size = n }) p = cc in rw g at f;
            }

        pub with_literal : (end : ℕ) → (matches_part text value 10 12 ≡ true) × After text value 2 end
            → EntryAt text at (Some (record { name = name; sort = sort; value = value; end = end; size = 12 }))
        unfolding entry_size
        with_literal end u = found_at 12 end (λ z. omega arith) (rw (headed, as_literal, u.0)) (after_more text at value end 10 2 to_value u.1)

        pub with_decimal : (end : ℕ) → matches_part text value 10 12 ≡ false → (matches_part text value 12 18 ≡ true) × After text value 6 end
            → EntryAt text at (Some (record { name = name; sort = sort; value = value; end = end; size = 16 }))
        unfolding entry_size
        with_decimal end v u =
            found_at 16 end (λ z. omega arith) (rw (headed, as_literal, v, as_decimal, u.0)) (after_more text at value end 10 6 to_value u.1)

        pub with_neither : matches_part text value 10 12 ≡ false → matches_part text value 12 18 ≡ false → EntryAt text at None
        unfolding entry_size
        with_neither v u = none_at (rw (headed, as_literal, v, as_decimal, u))

-- ---- what a value says, of the tokens from it on

module _ (us : List (List ℕ)) (t : List ℕ) (w : ℕ) (e : t ≡ slice_index_or us 0 []) (h : w ≡ literal_width t) where
  fits_literal : fits Literal (slice_index_or us 0 []) ≡ nat_lt 0 w
  unfolding fits
  fits_literal = rw (h, e)

  pub says_width : 0 < w → w ≡ value_width us
  unfolding value_width
  says_width l = rw (fits_literal, lt-ltb 0 w l) (h ∙ rw e)

  pub says_other_width : (u : List ℕ) (v : ℕ) → w ≤ 0 → u ≡ slice_index_or us 3 [] → v ≡ width_said u → v ≡ value_width us
  unfolding value_width
  says_other_width u v l k g = rw (fits_literal, le-ltb 0 w l) (g ∙ rw k)

  pub says_value : 0 < w → (base : ℕ) (d : List ℕ) (r : Option ℕ) → base ≡ base_of t → d ≡ drop 2 t → r ≡ numbered (value_in base d)
      → r ≡ numbered (value_said us)
  unfolding value_said
  says_value l base d r p q k = k ∙ rw (fits_literal, lt-ltb 0 w l, p, q, e)

  pub says_decimal : (u d : List ℕ) (r : Option ℕ) → w ≤ 0 → u ≡ slice_index_or us 2 [] → d ≡ drop 2 u → r ≡ numbered (value_in 10 d)
      → r ≡ numbered (value_said us)
  unfolding value_said
  says_decimal u d r l q p k = k ∙ rw (fits_literal, le-ltb 0 w l, p, q)

-- ---- what an entry says, by the places of its parts

module _ (text : List ℕ) (at : ℕ) (r : Places) (p : Parts text at r) where
  pub entry_name : (n : List ℕ) → n ≡ inside (slice_index_or (tokens (drop r.name text)) 0 []) → n ≡ (entry_of (tokens (drop at text))).name
  unfolding entry_of
  entry_name n h = h ∙ ap inside (token_at_lem text at 2 r.name _ p.name refl)

  module _ (w : ℕ) (i : Result ℕ ℕ) (h : i ≡ item_said text r.sort r.value w) where
    entry_told : i ≡ told_to w (entry_of (tokens (drop at text)))
    unfolding entry_of item_said misfits
    entry_told = h ∙ rw (p.value.left, token_at_lem text at 8 r.sort _ p.sort refl)

    entry_width : (entry_of (tokens (drop at text))).width ≤ 64
    unfolding entry_of
    entry_width = width_most (drop 10 (tokens (drop at text)))

    pub entry_unfit : is_err i ≡ misfits w (entry_of (tokens (drop at text)))
    entry_unfit = ap is_err entry_told ∙ told_unfit (entry_of (tokens (drop at text))) w

    pub entry_word : word_in i ≡ small (numbered (entry_of (tokens (drop at text))).value)
    entry_word = ap word_in entry_told ∙ told_word (entry_of (tokens (drop at text))) w

    -- a word that fits is the entry's value, exactly
    pub entry_exact : (v : ℕ) → i ≡ Ok v → v ≡ (entry_of (tokens (drop at text))).value
    entry_exact v e = told_exact _ w v entry_width (sym entry_told ∙ e)

    pub entry_for : result_ok i ≡ word_for w (entry_of (tokens (drop at text)))
    entry_for = ap result_ok entry_told ∙ told_for (entry_of (tokens (drop at text))) w entry_width

-- ---- entry by entry

no_entry_size : entry_size [] ≡ 0
unfolding entry_size matches heading fits equal ascii
no_entry_size = refl

entry_some : (ts : List (List ℕ)) → (entry_size ts ≢ 0) → 0 < length ts
entry_some [] x = absurd (x no_entry_size)
entry_some (t ∷ ts) x = omega arith

steps : (ts : List (List ℕ)) → (entry_size ts ≢ 0) → step_over ts ≡ entry_size ts
unfolding step_over
steps ts x = rw (ne_eqb (entry_size ts) 0 x)

stops : (ts : List (List ℕ)) → entry_size ts ≡ 0 → step_over ts ≡ length ts
unfolding step_over
stops ts e = rw (eq-eqb (entry_size ts) 0 e)

module _ {B : Type 0} (says : List (List ℕ) → List B) where
  pub chop_entry : (ts : List (List ℕ)) → (entry_size ts ≢ 0) → chop step_over says 0 ts ≡ says ts ++ chop step_over says 0 (drop (entry_size ts) ts)
  chop_entry ts x =
      chop_front step_over says ts (entry_some ts x) (rw (steps ts x) (omega arith)) ∙ rw (steps ts x)

  pub chop_last : (ts : List (List ℕ)) → entry_size ts ≡ 0 → says [] ≡ [] → chop step_over says 0 ts ≡ says ts
  chop_last [] e z = chop_none step_over says ∙ sym z
  chop_last (t ∷ ts) e z =
      let l : 0 < length (t ∷ ts) = omega arith in
      let n : step_over (t ∷ ts) ≡ length (t ∷ ts) = stops (t ∷ ts) e in
      chop_front step_over says (t ∷ ts) l (omega (arith, n))
      ∙ rw (n, drop-length (t ∷ ts), chop_none step_over says) (append_none (says (t ∷ ts)))
    where
      append_none : (l : List B) → (l ++ []) ≡ l
      append_none [] = refl
      append_none (x ∷ xs) = ap (λ (m : List B). x ∷ m) (append_none xs)

module _ (ts : List (List ℕ)) (n : ℕ) (e : n ≡ entry_size ts) where
  pub entries_more : (n ≢ 0) → entries_in ts ≡ entry_of ts ∷ entries_in (drop n ts)
  unfolding entries_in
  entries_more x =
      let y : (entry_size ts ≢ 0) = λ z. x (e ∙ z) in
      chop_entry (λ us. cond (entry_size us == 0) [] (entry_of us ∷ [])) ts y ∙ rw (ne_eqb (entry_size ts) 0 y, e)

  pub entries_end : n ≡ 0 → entries_in ts ≡ []
  unfolding entries_in
  entries_end z =
      chop_last (λ us. cond (entry_size us == 0) [] (entry_of us ∷ [])) ts (sym e ∙ z) (rw no_entry_size) ∙ rw (sym e ∙ z)

  pub left_more : (n ≢ 0) → left_in ts ≡ left_in (drop n ts)
  unfolding left_in
  left_more x =
      let y : (entry_size ts ≢ 0) = λ z. x (e ∙ z) in
      chop_entry (λ us. cond (entry_size us == 0) us []) ts y ∙ rw (ne_eqb (entry_size ts) 0 y, e)

  pub left_end : n ≡ 0 → left_in ts ≡ ts
  unfolding left_in
  left_end z = chop_last (λ us. cond (entry_size us == 0) us []) ts (sym e ∙ z) (rw no_entry_size) ∙ rw (sym e ∙ z)

  pub entry_tokens : (n ≢ 0) → 0 < length ts
  entry_tokens x = entry_some ts (λ z. x (e ∙ z))

-- ---- the text as a whole

module _ (text : List ℕ) (t : List ℕ) (b : Bool) (r : ℕ) (e : t ≡ slice_index_or (tokens (drop 0 text)) 1 []) (q : b ≡ equal t (ascii "model")) where
  pub begins_model : b ≡ true → After text 0 2 r → Begins text r
  unfolding body
  begins_model y a = record { inside = a.inside; left = a.left ∙ rw (← e, ← q, y); exactly = rw (← e, ← q, y) a.exactly }

  pub begins_bare : b ≡ false → After text 0 1 r → Begins text r
  unfolding body
  begins_bare y a = record { inside = a.inside; left = a.left ∙ rw (← e, ← q, y); exactly = rw (← e, ← q, y) a.exactly }

and_none : (o x y : Bool) → (o && false && x) ≡ (o && false && y)
and_none true x y = refl
and_none false x y = refl

closing : (l : List (List ℕ)) (o : Bool)
    → (o && equal (slice_index_or l 0 []) (ascii ")") && length (drop 1 l) == 0) ≡ (o && equal (slice_index_or l 0 []) (ascii ")") && length l == 1)
unfolding equal ascii
closing [] o = and_none o _ _
closing (x ∷ xs) o = rw (eqb-suc-suc (length xs) 0)

pub model_is :
    (text : List ℕ) (end last : ℕ) (t u : List ℕ) (o c d : Bool)
    → Ends text end
    → After text end 1 last
    → t ≡ slice_index_or (tokens (drop 0 text)) 0 []
    → o ≡ equal t (ascii "(")
    → u ≡ slice_index_or (tokens (drop end text)) 0 []
    → c ≡ equal u (ascii ")")
    → d ≡ (length (tokens (drop last text)) == 0)
    → (o && c && d) ≡ is_model text
unfolding is_model
model_is text end last t u o c d e a p i q j k =
    rw (k, a.left, j, q, ← e.left, i, p) (closing (tokens (drop end text)) (equal (slice_index_or (tokens text) 0 []) (ascii "(")))

-- ---- the loop over the entries

pub ends_here : (text : List ℕ) (at n : ℕ) → at ≤ length text → left_in (tokens (drop at text)) ≡ left_in (body (tokens text))
    → n ≡ entry_size (tokens (drop at text))
    → n ≡ 0
    → Ends text at
ends_here text at n h l e z = record { inside = h; left = sym (left_end (tokens (drop at text)) n e z) ∙ l }

pub ends_later : (text : List ℕ) (at n next : ℕ) → left_in (tokens (drop at text)) ≡ left_in (body (tokens text))
    → n ≡ entry_size (tokens (drop at text))
    → (n ≢ 0)
    → After text at n next
    → left_in (tokens (drop next text)) ≡ left_in (body (tokens text))
ends_later text at n next l e x a = rw a.left (sym (left_more (tokens (drop at text)) n e x) ∙ l)

pub entry_moves : (text : List ℕ) (at n next : ℕ) → n ≡ entry_size (tokens (drop at text)) → (n ≢ 0) → After text at n next → at < next
entry_moves text at n next e x a = after_moves text at n next a (omega arith) (entry_tokens (tokens (drop at text)) n e x)
