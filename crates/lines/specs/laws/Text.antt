-- Laws of the table that the text is.
use Rattle.std.specs.Prelude.{◌≡◌, Bool, cond, not, ◌||◌, ◌&&◌, eqb, length, drop, Option, Some, None}
use Rattle.std.proofs.Math.Path.{refl, sym}
use Rattle.std.proofs.Common.{ap, ◌∙◌, arith, drop-drop}
use Rattle.std.proofs.Math.Bool.{true, false}
use mathlib.Core.List.{List, [], ◌∷◌}
use Prim.Native.Nat.{ℕ, zero, suc, ◌+◌, ◌-◌, ◌^◌, ◌≤◌, ◌<◌}
use Rattle.std.proofs.Math.Dec.{ltb}
use Rattle.std.proofs.Math.ListN.{take}
use borrow.Author.Tests.{eq-eqb, ne_eqb, lt-ltb, le-ltb, ltb-true, ltb-false}
use Rattle.texts.specs.declared.runs.Class.TheVariants.{Line}
use Rattle.texts.specs.Runs.{is_feed, is_in, length_of_run}
use Rattle.texts.specs.laws.Runs.{pieces_last, pieces_more}
use Rattle.texts.specs.Numbers.{value_in, numbered}
use Rattle.texts.specs.laws.Numbers.{huge_is, small_is, small_below}
use Rattle.lines.specs.Lines.{Token, token, lines, tokens}
use Rattle.lines.specs.Words.{number_of}
use Rattle.lines.specs.Format.{signed}
use Rattle.lines.specs.inner.Told.{id_of, find_line, small, narrow, width_told, is_alias, alias_of}

-- ---- lines from a place on

line_run : (s : List ℕ) (n : ℕ) (e : ℕ) → e ≡ n + length_of_run (is_in Line) (drop n s) → e ≡ n + length_of_run (λ b. not (is_feed b)) (drop n s)
unfolding is_in
line_run s n e h = h

pub lines_last : (s : List ℕ) (n e : ℕ) → e ≡ n + length_of_run (is_in Line) (drop n s) → length s ≤ e
    → lines (drop n s) ≡ take (e - n) (drop n s) ∷ []
unfolding lines
lines_last s n e h l = pieces_last is_feed s n e (line_run s n e h) l

pub lines_more : (s : List ℕ) (n e : ℕ) → e ≡ n + length_of_run (is_in Line) (drop n s) → e < length s
    → lines (drop n s) ≡ take (e - n) (drop n s) ∷ lines (drop (e + 1) s)
unfolding lines
lines_more s n e h l = pieces_more is_feed s n e (line_run s n e h) l

-- place n is where line i begins
abbrev pub Begins : List ℕ → ℕ → ℕ → Type 0
Begins s n i = lines (drop n s) ≡ drop i (lines s)

pub begins_first : (s : List ℕ) → Begins s 0 0
begins_first s = refl

pub begins_next : (s : List ℕ) (n e i : ℕ) → Begins s n i → e ≡ n + length_of_run (is_in Line) (drop n s) → e < length s → Begins s (e + 1) (i + 1)
begins_next s n e i b h l =
    let f : drop 1 (lines (drop n s)) ≡ drop (i + 1) (lines s) = rw b (drop-drop 1 i (lines s)) in
    ap (λ (ls : List (List ℕ)). drop 1 ls) (sym (lines_more s n e h l)) ∙ f

-- ---- a line by its id: w is what is looked for, among the lines from line i on of which so many are left
abbrev pub find_from : ℕ → List ℕ → ℕ → ℕ → List ℕ
find_from id s count i = find_line id (take (count - i) (drop i (lines s)))

module _ (id : ℕ) (s : List ℕ) (n e i count : ℕ) (b : Begins s n i) (h : e ≡ n + length_of_run (is_in Line) (drop n s)) (k : i < count)
    (t : Bool) (q : t ≡ eqb (id_of (tokens (take (e - n) (drop n s)))) id) where
  left : count - i ≡ suc (count - (i + 1))
  left = omega arith

  pub find_found : (w : List ℕ) → w ≡ find_from id s count i → t ≡ true → take (e - n) (drop n s) ≡ w
  unfolding find_line
  find_found w f y = by (ltb e (length s)) refl
    where
      by : (c : Bool) → ltb e (length s) ≡ c → take (e - n) (drop n s) ≡ w
      by true l = sym (f ∙ rw (← b, lines_more s n e h (ltb-true e (length s) l), left, ← q, y))
      by false l = sym (f ∙ rw (← b, lines_last s n e h (ltb-false e (length s) l), left, ← q, y))

  pub find_turn : (w : List ℕ) → w ≡ find_from id s count i → t ≡ false → e < length s → w ≡ find_from id s count (i + 1)
  unfolding find_line
  find_turn w f y l =
      f ∙ rw (← b, lines_more s n e h l, left, ← q, y, ← begins_next s n e i b h l)

  pub find_last : (w : List ℕ) → w ≡ find_from id s count i → t ≡ false → length s ≤ e → [] ≡ w
  unfolding find_line
  find_last w f y l = sym (f ∙ rw (← b, lines_last s n e h l, left, ← q, y) (none (count - (i + 1))))
    where
      none : (m : ℕ) → find_line id (take m []) ≡ []
      none zero = refl
      none (suc m) = refl

pub find_starts : (id : ℕ) (s : List ℕ) (count : ℕ) → find_line id (take count (lines s)) ≡ find_from id s count 0
find_starts id s count = let e : count - 0 ≡ count = omega arith in rw e

pub find_over : (id : ℕ) (s : List ℕ) (count i : ℕ) (w : List ℕ) → w ≡ find_from id s count i → count ≤ i → [] ≡ w
unfolding find_line
find_over id s count i w f h = let z : count - i ≡ 0 = omega arith in sym (f ∙ rw z)

-- a part without bytes
pub empty_part : (s w : List ℕ) (n : ℕ) → [] ≡ w → take (n - n) (drop n s) ≡ w
empty_part s w n f = let z : n - n ≡ 0 = omega arith in rw z f

-- ---- numbers of a line

pub small_huge : (u : Token) (r : Option ℕ) → r ≡ numbered (value_in 10 u) → r ≡ None → 0 ≡ small (value_in 10 u)
unfolding small
small_huge u r q y = let b : 2 ^ 64 ≤ value_in 10 u = huge_is _ (sym q ∙ y) in rw (le-ltb (value_in 10 u) (2 ^ 64) b)

pub small_held : (u : Token) (r : Option ℕ) (n : ℕ) → r ≡ numbered (value_in 10 u) → r ≡ Some n → n ≡ small (value_in 10 u)
unfolding small
small_held u r n q y =
    let b : value_in 10 u ≡ n = small_is _ _ (sym q ∙ y) in
    rw (b, lt-ltb n (2 ^ 64) (small_below _ _ (sym q ∙ y)))

pub small_id : (n : ℕ) → n < 2 ^ 64 → small n ≡ n
unfolding small
small_id n h = rw (lt-ltb n (2 ^ 64) h)

pub id_huge : (id : ℕ) (ts : List Token) (u : Token) (r : Option ℕ) → u ≡ token ts 0 → r ≡ numbered (value_in 10 u) → r ≡ None → id < 2 ^ 64
    → false ≡ eqb (id_of ts) id
unfolding id_of
id_huge id ts u r g q y l =
    let b : 2 ^ 64 ≤ value_in 10 u = huge_is _ (sym q ∙ y) in
    rw (← g) (sym (ne_eqb (value_in 10 u) id (λ z. not_both z b)))
  where
    not_both : value_in 10 u ≡ id → 2 ^ 64 ≤ value_in 10 u → ⊥
    not_both z b = omega arith

pub id_small : (id : ℕ) (ts : List Token) (u : Token) (own : ℕ) (r : Option ℕ) → u ≡ token ts 0 → r ≡ numbered (value_in 10 u) → r ≡ Some own
    → eqb own id ≡ eqb (id_of ts) id
unfolding id_of
id_small id ts u own r g q y = let b : value_in 10 u ≡ own = small_is _ _ (sym q ∙ y) in rw (← g, b)

-- a sort's width
pub not_told : (ts : List Token) (t : Token) (k : ℕ) → t ≡ token ts 1 → k ≡ number_of t → (k ≡ 0 → ⊥) → 0 ≡ width_told ts
unfolding width_told
not_told ts t k e f h = rw (← e, ← f, ne_eqb k 0 h)

narrow_same : (n : ℕ) → narrow (small n) ≡ narrow n
unfolding small narrow
narrow_same n = by (ltb n (2 ^ 64)) refl
  where
    by : (c : Bool) → ltb n (2 ^ 64) ≡ c → narrow (cond c n 0) ≡ narrow n
    by true l = refl
    by false l =
        let b : 2 ^ 64 ≤ n = ltb-false n (2 ^ 64) l in
        sym (rw (le-ltb n 65 (omega arith)))

module _ (ts : List Token) (t u : Token) (k m : ℕ) (e : t ≡ token ts 1) (f : k ≡ number_of t) (z : k ≡ 0) (g : u ≡ token ts 3)
    (q : m ≡ small (value_in 10 u)) where
  told_is : width_told ts ≡ narrow m
  unfolding width_told
  told_is = rw (← e, ← f, eq-eqb k 0 z, ← g, q) (sym (narrow_same (value_in 10 u)))

  pub told_narrow : m < 65 → m ≡ width_told ts
  unfolding narrow
  told_narrow h = sym (told_is ∙ rw (lt-ltb m 65 h))

  pub told_wide : 65 ≤ m → 0 ≡ width_told ts
  unfolding narrow
  told_wide h = sym (told_is ∙ rw (le-ltb m 65 h))

-- another name
pub alias_huge : (ts : List Token) (u : Token) (r : Option ℕ) → u ≡ token ts 4 → r ≡ numbered (value_in 10 u) → r ≡ None → false ≡ is_alias ts
unfolding is_alias
alias_huge ts u r g q y =
    let b : 2 ^ 64 ≤ value_in 10 u = huge_is _ (sym q ∙ y) in
    rw (← g, ne_eqb (value_in 10 u) 0 (λ z. not_both z b))
    (by (eqb (number_of (token ts 1)) 25 || eqb (number_of (token ts 1)) 26) (not (signed (token ts 3))))
  where
    not_both : value_in 10 u ≡ 0 → 2 ^ 64 ≤ value_in 10 u → ⊥
    not_both z b = omega arith

    by : (c d : Bool) → false ≡ ((c && false) && d)
    by true d = refl
    by false d = refl

pub alias_told : (ts : List Token) (t u v : Token) (k by : ℕ) (s : Bool) (r : Option ℕ) → t ≡ token ts 1 → k ≡ number_of t → u ≡ token ts 4
    → r ≡ numbered (value_in 10 u) → r ≡ Some by → v ≡ token ts 3 → s ≡ signed v
    → (((eqb k 25 || eqb k 26) && eqb by 0) && not s) ≡ is_alias ts
unfolding is_alias
alias_told ts t u v k by s r e f g q y h i =
    let b : value_in 10 u ≡ by = small_is _ _ (sym q ∙ y) in rw (← e, ← f, ← g, b, ← h, ← i)

pub alias_is : (ts : List Token) (u : Token) (a : Bool) (n : ℕ) → a ≡ is_alias ts → a ≡ true → u ≡ token ts 3 → n ≡ small (value_in 10 u)
    → n ≡ alias_of ts
unfolding alias_of
alias_is ts u a n e y g q = q ∙ rw (← e, y, g)

pub alias_none : (ts : List Token) (a : Bool) → a ≡ is_alias ts → a ≡ false → 0 ≡ alias_of ts
unfolding alias_of
alias_none ts a e y = rw (← e, y)
