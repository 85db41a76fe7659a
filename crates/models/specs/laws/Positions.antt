-- Laws of where a name stands in a list, of marks and of words: which variable an entry is of, and which entry a variable has.
use Rattle.std.specs.Prelude.{◌≡◌, refl, Bool, true, false, cond, ◌||◌, ltb, length}
use Rattle.std.proofs.Math.Path.{sym, ap}
use Rattle.std.proofs.Common.{◌∙◌, not-suc-le-zero, lt-suc_self}
use Rattle.std.proofs.Math.Bool.{not}
use Rattle.std.proofs.lemmas.Bool.{false≢true}
use mathlib.Core.List.{List, [], ◌∷◌}
use Prim.Native.Nat.{ℕ, zero, suc, ◌≤◌, ◌<◌}
use native.Mathlib.Omega.{arith}
use Rattle.std.proofs.Math.Decide.{ℕ_discrete, dec_lt}
use Rattle.std.proofs.Math.Dec.{eqb}
use Rattle.std.proofs.Math.ListN.{get_or, length-set, length-replicate, get_or-map}
use Rattle.std.proofs.lemmas.List.{get_or-replicate, length-map}
use Rattle.std.proofs.Math.Seq.{get_or-set_same, get_or-set_other}
use borrow.Author.Tests.{lt-ltb, le-ltb, ltb-false, eq-eqb, ne_eqb}
use Rattle.texts.specs.Runs.{equal}
use Rattle.texts.specs.Numbers.{numbered}
use Rattle.texts.specs.laws.Runs.{equal_same, equal_self}
use Rattle.nodes.specs.Problem.{zeros}
use Rattle.entries.specs.Names.{position, is_again, some}
use Rattle.entries.specs.Entries.{Entry, no_entry}
use Rattle.models.specs.Judgement.{names_of}
use Rattle.entries.specs.inner.Places.{small}
use Rattle.models.specs.inner.Judging.{unmarked, marks_up, words_up}
use Rattle.entries.specs.laws.Names.{some_each}

-- ---- where a name stands

pub position_most : (n : List ℕ) (ms : List (List ℕ)) → position n ms ≤ length ms
unfolding position
position_most n [] = omega arith
position_most n (m ∷ ms) = by (equal m n) (position_most n ms)
  where
    by : (t : Bool) → position n ms ≤ length ms → cond t 0 (suc (position n ms)) ≤ length (m ∷ ms)
    by true h = omega arith
    by false h = omega arith

-- what stands there is the name
found_step : (n m : List ℕ) (ms : List (List ℕ)) (t : Bool) → equal m n ≡ t → (position n ms < length ms → get_or ms (position n ms) [] ≡ n)
    → cond t 0 (suc (position n ms)) < length (m ∷ ms)
    → get_or (m ∷ ms) (cond t 0 (suc (position n ms))) [] ≡ n
found_step n m ms true e again l = equal_same m n e
found_step n m ms false e again l = again (omega arith)

pub position_found : (n : List ℕ) (ms : List (List ℕ)) → position n ms < length ms → get_or ms (position n ms) [] ≡ n
unfolding position
position_found n [] h = absurd (not-suc-le-zero h)
position_found n (m ∷ ms) h = found_step n m ms (equal m n) refl (position_found n ms) h

-- it is the first
first_step : (n m : List ℕ) (ms : List (List ℕ)) (t : Bool) (k : ℕ) → equal m n ≡ t
    → ((j : ℕ) → j < length ms → get_or ms j [] ≡ n → position n ms ≤ j)
    → k < length (m ∷ ms)
    → get_or (m ∷ ms) k [] ≡ n
    → cond t 0 (suc (position n ms)) ≤ k
first_step n m ms true k f again h e = omega arith
first_step n m ms false zero f again h e = absurd (false≢true (sym f ∙ rw e (equal_self n)))
first_step n m ms false (suc j) f again h e = let i : position n ms ≤ j = again j (omega arith) e in omega arith

pub position_first : (n : List ℕ) (ms : List (List ℕ)) (k : ℕ) → k < length ms → get_or ms k [] ≡ n → position n ms ≤ k
unfolding position
position_first n [] k h e = absurd (not-suc-le-zero h)
position_first n (m ∷ ms) k h e = first_step n m ms (equal m n) k refl (position_first n ms) h e

some_none_left : (a : Bool) → (a || false) ≡ a
some_none_left true = refl
some_none_left false = refl

some_right : (a : Bool) → (a || true) ≡ true
some_right true = refl
some_right false = refl

pub some_same : (f g : ℕ → Bool) (n : ℕ) → ((k : ℕ) → k < n → f k ≡ g k) → some f n ≡ some g n
unfolding some
some_same f g zero h = refl
some_same f g (suc n) h = rw (some_same f g n (λ k l. h k (omega arith)), h n (lt-suc_self n))

-- a name stands before place k exactly if one of the first k is it
before_step : (n : List ℕ) (ms : List (List ℕ)) (k : ℕ) (u t : Bool) → suc k ≤ length ms → equal (get_or ms k []) n ≡ t
    → ltb (position n ms) k ≡ u
    → ltb (position n ms) (suc k) ≡ (u || t)
before_step n ms k u true h e i =
    let p : position n ms ≤ k = position_first n ms k h (equal_same (get_or ms k []) n e) in
    lt-ltb (position n ms) (suc k) (omega arith) ∙ sym (some_right u)
before_step n ms k u false h e i =
    rw (some_none_left u, ← i)
    (elim (dec_lt (position n ms) k) [
      | yes l ↦ lt-ltb (position n ms) (suc k) (omega arith) ∙ sym (lt-ltb (position n ms) k l)
      | no l ↦
          elim (ℕ_discrete (position n ms) k) [
            | yes q ↦
                let b : position n ms < length ms = omega arith in
                let g : get_or ms k [] ≡ n = ap (λ (m : ℕ). get_or ms m []) (sym q) ∙ position_found n ms b in
                absurd (false≢true (sym e ∙ rw g (equal_self n)))
            | no x ↦
                let a : suc k ≤ position n ms = omega arith in
                let b : k ≤ position n ms = omega arith in le-ltb (position n ms) (suc k) a ∙ sym (le-ltb (position n ms) k b)
          ]
    ])

pub position_before : (n : List ℕ) (ms : List (List ℕ)) (k : ℕ) → k ≤ length ms → ltb (position n ms) k ≡ some (λ j. equal (get_or ms j []) n) k
unfolding some
position_before n ms zero h = le-ltb (position n ms) 0 (omega arith)
position_before n ms (suc k) h =
    before_step n ms k (some (λ j. equal (get_or ms j []) n) k) (equal (get_or ms k []) n) h refl (position_before n ms k (omega arith))

-- ---- names that stand once

-- name k of a list in which no name stands twice stands at k
pub position_own : (ns : List (List ℕ)) → some (is_again ns) (length ns) ≡ false → (k : ℕ) → k < length ns → position (get_or ns k []) ns ≡ k
unfolding is_again
position_own ns h k l =
    let a : k ≤ position (get_or ns k []) ns = ltb-false (position (get_or ns k []) ns) k (some_each (is_again ns) (length ns) h k l) in
    let b : position (get_or ns k []) ns ≤ k = position_first (get_or ns k []) ns k l refl in
    omega arith

-- ---- entries and their owners

pub names_length : (es : List Entry) → length (names_of es) ≡ length es
names_length es = length-map es (λ (e : Entry). e.name)

pub names_at : (es : List Entry) (k : ℕ) → get_or (names_of es) k [] ≡ (get_or es k no_entry).name
unfolding no_entry
names_at es k = get_or-map (λ (e : Entry). e.name) es k no_entry

module _ (ns : List (List ℕ)) (es : List Entry) where
  abbrev owner : ℕ → ℕ
  owner j = position (get_or es j no_entry).name ns

  -- entries with one owner have one name
  pub owner_name : (j : ℕ) → owner j < length ns → get_or ns (owner j) [] ≡ (get_or es j no_entry).name
  owner_name j h = position_found (get_or es j no_entry).name ns h

  -- the name of entry j is n, which stands at o among the names
  pub owner_same : (n : List ℕ) (o j : ℕ) → owner j < length ns → o < length ns → get_or ns o [] ≡ n → position n ns ≡ o
      → eqb (owner j) o ≡ equal (get_or (names_of es) j []) n
  owner_same n o j h l e p = rw (names_at es j) (by (ℕ_discrete (owner j) o))
    where
      by : Dec (owner j ≡ o) → eqb (owner j) o ≡ equal (get_or es j no_entry).name n
      by (yes q) =
          let g : (get_or es j no_entry).name ≡ n = sym (owner_name j h) ∙ ap (λ (i : ℕ). get_or ns i []) q ∙ e in
          eq-eqb (owner j) o q ∙ rw g (sym (equal_self n))
      by (no x) = ne_eqb (owner j) o x ∙ sym (no_name (equal (get_or es j no_entry).name n) refl)
        where
          no_name : (t : Bool) → equal (get_or es j no_entry).name n ≡ t → t ≡ false
          no_name true f = absurd (x (ap (λ (m : List ℕ). position m ns) (equal_same (get_or es j no_entry).name n f) ∙ p))
          no_name false f = refl

  -- ---- marks

  pub marks_length : (k : ℕ) → length (marks_up ns es k) ≡ 1024
  unfolding marks_up unmarked
  marks_length zero = length-replicate {A = Bool} 1024 false
  marks_length (suc k) = length-set (marks_up ns es k) (owner k) true ∙ marks_length k

  pub marks_at : (k o : ℕ) → o < 1024 → get_or (marks_up ns es k) o false ≡ some (λ j. eqb (owner j) o) k
  unfolding marks_up some unmarked
  marks_at zero o h = get_or-replicate {A = Bool} 1024 o false false h
  marks_at (suc k) o h =
      elim (ℕ_discrete (owner k) o) [
        | yes q ↦
            rw (q, get_or-set_same (marks_up ns es k) o true false (omega (arith, marks_length k)), eq-eqb o o refl)
            (sym (some_right (some (λ j. eqb (owner j) o) k)))
        | no x ↦
            rw (get_or-set_other (marks_up ns es k) (owner k) o true false (λ e. x (sym e)), ne_eqb (owner k) o x)
            (marks_at k o h ∙ sym (some_none_left (some (λ j. eqb (owner j) o) k)))
      ]

  -- an entry's variable is marked exactly if an earlier entry gave its name
  pub marks_again : (k : ℕ) → k ≤ length es → length ns ≤ 1024 → ((j : ℕ) → j < k → owner j < length ns) → owner k < length ns
      → get_or (marks_up ns es k) (owner k) false ≡ is_again (names_of es) k
  unfolding is_again
  marks_again k l m known h =
      marks_at k (owner k) (omega arith)
      ∙ some_same (λ j. eqb (owner j) (owner k)) (λ j. equal (get_or (names_of es) j []) (get_or (names_of es) k [])) k
      (λ j i. owner_same (get_or (names_of es) k []) (owner k) j (known j i) h (owner_name k h ∙ sym (names_at es k)) (rw (names_at es k) refl))
      ∙ sym (position_before (get_or (names_of es) k []) (names_of es) k (omega (arith, names_length es)))

  pub words_length : (n : ℕ) → length (words_up ns es n) ≡ 1024
  unfolding words_up zeros
  words_length zero = length-replicate {A = ℕ} 1024 0
  words_length (suc n) = length-set (words_up ns es n) (owner n) _ ∙ words_length n

  -- ---- where no name stands twice, neither in the list nor among the entries, and every name is known

  module _ (once : some (is_again ns) (length ns) ≡ false) (few : length ns ≤ 1024) (known : (j : ℕ) → j < length es → owner j < length ns) where
    -- variable k is not marked exactly if it is absent
    pub marks_absent : (k : ℕ) → k < length ns
        → not (get_or (marks_up ns es (length es)) k false) ≡ eqb (position (get_or ns k []) (names_of es)) (length es)
    marks_absent k l =
        let p = position (get_or ns k []) (names_of es) in
        let a : get_or (marks_up ns es (length es)) k false ≡ ltb p (length es) =
        marks_at (length es) k (omega arith)
        ∙ some_same (λ j. eqb (owner j) k) (λ j. equal (get_or (names_of es) j []) (get_or ns k [])) (length es)
        (λ j i. owner_same (get_or ns k []) k j (known j i) l refl (position_own ns once k l))
        ∙ sym (position_before (get_or ns k []) (names_of es) (length es) (omega (arith, names_length es))) in
        let m : p ≤ length es = omega (arith, position_most (get_or ns k []) (names_of es), names_length es) in
        elim (dec_lt p (length es)) [
          | yes i ↦ ap not (a ∙ lt-ltb p (length es) i) ∙ sym (ne_eqb p (length es) (λ e. omega arith))
          | no i ↦ ap not (a ∙ le-ltb p (length es) (omega arith)) ∙ sym (eq-eqb p (length es) (omega arith))
        ]

    -- entry j of variable k
    pub entry_owner : (j k : ℕ) → j < length es → k < length ns → (get_or es j no_entry).name ≡ get_or ns k [] → owner j ≡ k
    entry_owner j k i l e = ap (λ (m : List ℕ). position m ns) e ∙ position_own ns once k l

    module _ (single : (j : ℕ) → j < length es → is_again (names_of es) j ≡ false) (k : ℕ) (l : k < length ns) where
      abbrev entry : ℕ
      entry = position (get_or ns k []) (names_of es)

      pub entry_name : entry < length es → (get_or es entry no_entry).name ≡ get_or ns k []
      entry_name h = sym (names_at es entry) ∙ position_found (get_or ns k []) (names_of es) (omega (arith, names_length es))

      -- no other entry is of that variable
      only : (i : ℕ) → i < length es → owner i ≡ k → i ≡ entry
      unfolding is_again
      only i h q =
          let e : get_or (names_of es) i [] ≡ get_or ns k [] = names_at es i ∙ sym (owner_name i (known i h)) ∙ ap (λ (o : ℕ). get_or ns o []) q in
          let a : i ≤ position (get_or (names_of es) i []) (names_of es) =
          ltb-false (position (get_or (names_of es) i []) (names_of es)) i (single i h) in
          let b : i ≤ entry = rw e at a in
          let c : entry ≤ i = position_first (get_or ns k []) (names_of es) i (omega (arith, names_length es)) e in
          omega arith

      words_at : (n : ℕ) → n ≤ length es → entry < n → get_or (words_up ns es n) k 0 ≡ small (numbered (get_or es entry no_entry).value)
      unfolding words_up
      words_at zero i g = absurd (not-suc-le-zero g)
      words_at (suc n) i g =
          elim (ℕ_discrete n entry) [
            | yes q ↦
                let o : owner n ≡ k = rw q (entry_owner entry k (omega arith) l (entry_name (omega arith))) in
                rw (o, get_or-set_same (words_up ns es n) k (small (numbered (get_or es n no_entry).value)) 0 (omega (arith, words_length n)), q)
            | no x ↦
                get_or-set_other (words_up ns es n) (owner n) k (small (numbered (get_or es n no_entry).value)) 0
                (λ e. x (only n (omega arith) (sym e)))
                ∙ words_at n (omega arith) (omega arith)
          ]

      pub words_for : entry < length es → get_or (words_up ns es (length es)) k 0 ≡ small (numbered (get_or es entry no_entry).value)
      words_for h = words_at (length es) (omega arith) h
