-- Laws of reading entry by entry: 32 to 34 so far, the marks and the values.
use Rattle.std.specs.Prelude.{Option, Some, None, ◌≡◌, Bool, true, false, List, ℕ, ◌+◌, ◌-◌, ◌≤◌, ◌<◌, get_or, set, drop}
use Rattle.std.proofs.Math.Path.{refl, sym, ap}
use Rattle.std.proofs.Common.{◌∙◌, arith, add-one, length-drop}
use Rattle.std.proofs.Math.ListN.{length}
use borrow.Author.Tests.{eq-eqb, ne_eqb, eqb-false}
use Rattle.texts.specs.Numbers.{numbered}
use Rattle.problem.specs.Layout.{width_at}
use Rattle.nodes.specs.Problem.{zeros}
use Rattle.models.specs.declared.Judged.{Judged}
use Rattle.models.specs.declared.Judged.TheVariants.{Yes, Refused}
use Rattle.entries.specs.Tokens.{tokens}
use Rattle.entries.specs.Names.{names, position, is_again}
use Rattle.entries.specs.Entries.{Entry, no_entry, entry_size, entry_of, entries_in, entries, misfits}
use Rattle.models.specs.Judgement.{refuse, ◌next◌, first_said, variables, names_of, unknown_at, again_at, misfit_at}
use Rattle.entries.specs.inner.Places.{After, Begins, place_in, small}
use Rattle.models.specs.inner.Judging.{unmarked, marks_up, words_up, Reading, entries_said, Read}
use Rattle.entries.specs.laws.Names.{rest_first, place_is, place_none}
use Rattle.entries.specs.laws.Entries.{entries_more, entries_end, entry_moves}
use Rattle.models.specs.laws.First.{refused_not, next_stays, next_yes, refuse_given, refuse_not, not_refused, said_none, said_next, said_more, said_at, said_each}
use Rattle.models.specs.laws.Positions.{position_most, marks_again}

module _ (s list text : List ℕ) where
  abbrev ns : List (List ℕ)
  ns = names list

  abbrev es : List Entry
  es = entries text

  abbrev owner : ℕ → ℕ
  owner j = position (get_or es j no_entry).name ns

  -- the entry at a place is entry k
  entry_at : (at k n : ℕ) → entries_in (tokens (drop at text)) ≡ drop k es → n ≡ entry_size (tokens (drop at text)) → (n ≡ 0 → ⊥)
      → (k < length es) × (get_or es k no_entry ≡ entry_of (tokens (drop at text))) × (drop (k + 1) es ≡ entries_in (drop n (tokens (drop at text))))
  entry_at at k n l e x =
      rest_first es k no_entry (entry_of (tokens (drop at text))) (entries_in (drop n (tokens (drop at text))))
      (sym l ∙ entries_more (tokens (drop at text)) n e x)

  -- entries that are known
  pub known_each : (k : ℕ) → first_said (unknown_at s ns es) k ≡ Yes → (j : ℕ) → j < k → owner j < length ns
  unfolding unknown_at
  known_each k h j l =
      let x : (owner j ≡ length ns → ⊥) = eqb-false (owner j) (length ns) (not_refused 32 j _ (said_each (unknown_at s ns es) k h j l)) in
      omega (arith, position_most (get_or es j no_entry).name ns)

  pub reading_start : (at : ℕ) (marks : List Bool) (words : List ℕ) → Begins text at → marks ≡ unmarked → words ≡ zeros → Reading s list text marks words at 0 Yes Yes
  unfolding entries marks_up words_up
  reading_start at marks words b g w =
      record {
        inside = b.inside;
        few = omega arith;
        counted = omega arith;
        left = ap entries_in b.left;
        known = said_none (unknown_at s ns es);
        again_first = sym (said_none (again_at s ns es));
        misfit_first = sym (said_none (misfit_at s ns es));
        marked = g;
        worded = w;
      }

  module _ (marks : List Bool) (words : List ℕ) (at k n : ℕ) (again misfit : Judged) (R : Reading s list text marks words at k again misfit)
      (e : n ≡ entry_size (tokens (drop at text))) where
    pub reading_end : (r : Judged) → n ≡ 0 → r ≡ (again next misfit) → Read s list text marks words r
    unfolding entries_said
    reading_end r z q =
        let f : length es - k ≡ 0 = sym (length-drop k es) ∙ ap length (sym R.left ∙ entries_end (tokens (drop at text)) n e z) in
        let g : k ≡ length es = omega (arith, R.counted) in
        let u : first_said (unknown_at s ns es) (length es) ≡ Yes = ap (first_said (unknown_at s ns es)) (sym g) ∙ R.known in
        record {
          said =
              q
              ∙ ap (λ (a : Judged). a next misfit) (R.again_first ∙ ap (first_said (again_at s ns es)) g)
              ∙ ap (λ (b : Judged). first_said (again_at s ns es) (length es) next b) (R.misfit_first ∙ ap (first_said (misfit_at s ns es)) g)
              ∙ sym (next_yes (first_said (unknown_at s ns es) (length es)) _ u);
          marked = λ y. R.marked ∙ ap (marks_up ns es) g;
          worded = λ y. R.worded ∙ ap (words_up ns es) g;
        }

    module _ (x : n ≡ 0 → ⊥) (m : List ℕ) (p : Option ℕ) (i : m ≡ (entry_of (tokens (drop at text))).name) (q : p ≡ place_in m ns) where
      here : (k < length es) × (get_or es k no_entry ≡ entry_of (tokens (drop at text))) × (drop (k + 1) es ≡ entries_in (drop n (tokens (drop at text))))
      here = entry_at at k n R.left e x

      own_name : m ≡ (get_or es k no_entry).name
      own_name = i ∙ ap (λ (y : Entry). y.name) (sym here.1)

      pub reading_unknown : (marks' : List Bool) (words' : List ℕ) → p ≡ None → Read s list text marks' words' (Refused (record { number = 32; place = k }))
      unfolding entries_said unknown_at
      reading_unknown marks' words' z =
          let none = place_none m ns (sym q ∙ z) in
          let l : length ns ≤ owner k = rw own_name at none in
          let g : owner k ≡ length ns = omega (arith, l, position_most (get_or es k no_entry).name ns) in
          let u : Refused (record { number = 32; place = k }) ≡ first_said (unknown_at s ns es) (length es) =
          said_at (unknown_at s ns es) k (length es) (Refused (record { number = 32; place = k })) R.known
          (refuse_given 32 k _ (eq-eqb (owner k) (length ns) g)) refl here.0 in
          let rest = first_said (again_at s ns es) (length es) next first_said (misfit_at s ns es) (length es) in
          record {
            said = next_stays (Refused (record { number = 32; place = k })) rest refl ∙ ap (λ (a : Judged). a next rest) u;
            marked = λ y. absurd (refused_not _ y);
            worded = λ y. absurd (refused_not _ y);
          }

      module _ (o : ℕ) (z : p ≡ Some o) where
        found : (o ≡ owner k) × (o < length ns)
        found = let at_place = place_is m ns o (sym q ∙ z) in rw own_name at at_place

        pub owner_below : o < length ns
        owner_below = found.1

        own : o ≡ owner k
        own = found.0

        own_below : owner k < length ns
        own_below = omega (arith, found.1, own)

        module _ (few : length ns ≤ 1024) (place : ℕ) (a : After text at n place) where
          known_more : first_said (unknown_at s ns es) (k + 1) ≡ Yes
          unfolding unknown_at
          known_more = said_more (unknown_at s ns es) k R.known (refuse_not 32 k _ (ne_eqb (owner k) (length ns) (λ z. omega (arith, own_below))))

          again_more : (again' : Judged) → again' ≡ (again next refuse 33 k (get_or marks o false)) → again' ≡ first_said (again_at s ns es) (k + 1)
          unfolding again_at
          again_more again' r =
              let t : get_or marks o false ≡ is_again (names_of es) k =
              rw (R.marked, own)
              (marks_again ns es k R.counted few (known_each k R.known) own_below) in
              said_next (again_at s ns es) k again (refuse 33 k (get_or marks o false)) again' R.again_first (ap (refuse 33 k) t) r

          misfit_more : (misfit' : Judged) (w id : ℕ) (t : Bool) → w ≡ width_at s id → id ≡ get_or (variables s) o 0
              → t ≡ misfits w (entry_of (tokens (drop at text)))
              → misfit' ≡ (misfit next refuse 34 k t)
              → misfit' ≡ first_said (misfit_at s ns es) (k + 1)
          unfolding misfit_at
          misfit_more misfit' w id t p v h r =
              said_next (misfit_at s ns es) k misfit (refuse 34 k t) misfit' R.misfit_first
              (ap (refuse 34 k) (h ∙ rw (p, v, own, here.1))) r

          pub reading_more :
              (again' misfit' : Judged) (w id v : ℕ) (t : Bool)
              → again' ≡ (again next refuse 33 k (get_or marks o false))
              → w ≡ width_at s id
              → id ≡ get_or (variables s) o 0
              → t ≡ misfits w (entry_of (tokens (drop at text)))
              → misfit' ≡ (misfit next refuse 34 k t)
              → v ≡ small (numbered (entry_of (tokens (drop at text))).value)
              → Reading s list text (set marks o true) (set words o v) place (k + 1) again' misfit'
          unfolding marks_up words_up
          reading_more again' misfit' w id v t r j h b r' u =
              record {
                inside = a.inside;
                few = omega (arith, R.few, entry_moves text at n place e x a);
                counted = omega (arith, here.0);
                left = rw a.left (sym here.2);
                known = known_more;
                again_first = again_more again' r;
                misfit_first = misfit_more misfit' w id t j h b r';
                marked = rw (add-one, R.marked, own);
                worded = rw (add-one, R.worded, own, u, here.1);
              }
