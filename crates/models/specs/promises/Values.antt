-- "under the values of the text": where nothing is refused, every variable has one entry of its name, which fits it, and its place
-- holds that entry's value.
use Rattle.std.specs.Prelude.{◌≡◌, refl, Bool, true, false, cond, not, ◌||◌, leb, eqb}
use Rattle.std.proofs.Common.{sym, ap, ◌∙◌, true≢false, not-suc-le-zero, lit<, length-append, get_or-set_same}
use mathlib.Core.List.{List, [], ◌∷◌, ◌++◌}
use Prim.Native.Nat.{ℕ, zero, suc, ◌^◌, ◌≤◌, ◌<◌}
use native.Mathlib.Omega.{arith}
use Rattle.std.proofs.Math.Decide.{ℕ_discrete, dec_lt}
use Rattle.std.proofs.Math.ListN.{length, get_or, get_or-append}
use Rattle.std.proofs.Math.Seq.{get_or-append_seam, get_or-set_other}
use borrow.Author.Tests.{eqb-true, eqb-false, leb-false, ltb-false, not-false}
use Rattle.problem.specs.Layout.{node_count, node_at, width_at}
use Rattle.problem.specs.laws.Facts.{accepted_facts}
use Rattle.entries.specs.Names.{names, position, is_again, some}
use Rattle.entries.specs.Entries.{Entry, no_entry, entries, misfits}
use Rattle.models.specs.Judgement.{variables_below, variables, list_wrong, names_of, again_at, misfit_at, absent_at, assigned_up, assigned}
use Rattle.models.specs.laws.First.{not_refused, said_each}
use Rattle.models.specs.laws.Positions.{position_most, position_found, position_first, position_own, names_length, names_at}
use Rattle.models.specs.laws.Variables.{below}
use Rattle.models.specs.laws.Values.{assigned_length}
use Rattle.models.specs.promises.Order.{stages}
use Rattle.models.specs.promises.Exactly.{Unrefused, accepted}
use Rattle.models.specs.promises.Numbers.{as_many}

-- ---- variables ascend

last_above : (l : List ℕ) (n i k : ℕ) (t : Bool) → ((j : ℕ) → j < length l → get_or l j 0 < n)
    → (k < length l → get_or l i 0 < get_or l k 0)
    → i < k
    → k < length (l ++ cond t (n ∷ []) [])
    → get_or (l ++ cond t (n ∷ []) []) i 0 < get_or (l ++ cond t (n ∷ []) []) k 0
last_above l n i k true each again a h =
    elim (dec_lt k (length l)) [
      | yes b ↦
          let c : i < length l = omega arith in
          rw (get_or-append l (n ∷ []) 0 i c, get_or-append l (n ∷ []) 0 k b) (again b)
      | no b ↦
          let e : k ≡ length l = omega (arith, length-append l (n ∷ [])) in
          let c : i < length l = omega arith in
          rw (e, get_or-append_seam l n [] 0, get_or-append l (n ∷ []) 0 i c) (each i c)
    ]
last_above l n i k false each again a h =
    let b : k < length l = omega (arith, length-append l []) in
    let c : i < length l = omega arith in
    rw (get_or-append l [] 0 i c, get_or-append l [] 0 k b) (again b)

ascending : (s : List ℕ) (n i k : ℕ) → i < k → k < length (variables_below s n) → get_or (variables_below s n) i 0 < get_or (variables_below s n) k 0
unfolding variables_below
ascending s zero i k a h = absurd (not-suc-le-zero h)
ascending s (suc n) i k a h =
    last_above (variables_below s n) n i k (eqb (node_at s n).kind 0) (below s n) (ascending s n i k a) a h

-- ---- a variable's place

module _ (s : List ℕ) (ns : List (List ℕ)) (es : List Entry) (few : node_count s ≤ 1024) where
  assigned_at : (m k : ℕ) → k < m → m ≤ length (variables s)
      → get_or (assigned_up s ns es m) (get_or (variables s) k 0) 0 ≡ (get_or es (position (get_or ns k []) (names_of es)) no_entry).value
  unfolding assigned_up variables
  assigned_at zero k a h = absurd (not-suc-le-zero a)
  assigned_at (suc m) k a h =
      elim (ℕ_discrete k m) [
        | yes e ↦
            let b : get_or (variables_below s (node_count s)) m 0 < 1024 = let c = below s (node_count s) m h in omega arith in
            rw e (get_or-set_same (assigned_up s ns es m) (get_or (variables_below s (node_count s)) m 0) _ 0 (omega (arith, assigned_length s ns es m)))
        | no x ↦
            let c : get_or (variables_below s (node_count s)) k 0 < get_or (variables_below s (node_count s)) m 0 =
            ascending s (node_count s) k m (omega arith) h in
            get_or-set_other (assigned_up s ns es m) (get_or (variables_below s (node_count s)) m 0) (get_or (variables_below s (node_count s)) k 0) _ 0
            (λ e. omega arith)
            ∙ assigned_at m k (omega arith) (omega arith)
      ]

-- what is given to variable k: one entry and no other has its name; sort and value are of the variable's width, the value is not too
-- large for it, and the variable's place holds it
pub record Given (s list text : List ℕ) (k : ℕ) : Type 0 where
  pub entry : ℕ
  pub inside : entry < length (entries text)
  pub named : (get_or (entries text) entry no_entry).name ≡ get_or (names list) k []
  pub only : (i : ℕ) → i < length (entries text) → (get_or (entries text) i no_entry).name ≡ get_or (names list) k [] → i ≡ entry
  pub sort : (get_or (entries text) entry no_entry).sort ≡ width_at s (get_or (variables s) k 0)
  pub width : (get_or (entries text) entry no_entry).width ≡ width_at s (get_or (variables s) k 0)
  pub short : (get_or (entries text) entry no_entry).value < 2 ^ width_at s (get_or (variables s) k 0)
  pub held : get_or (assigned s (names list) (entries text)) (get_or (variables s) k 0) 0 ≡ (get_or (entries text) entry no_entry).value

or_right : (a b : Bool) → (a || b) ≡ false → b ≡ false
or_right true b h = absurd (true≢false h)
or_right false b h = h

none_of : (a b c : Bool) → (a || b || c) ≡ false → (a ≡ false) × (b ≡ false) × (c ≡ false)
none_of true b c h = absurd (true≢false h)
none_of false true c h = absurd (true≢false h)
none_of false false true h = absurd (true≢false h)
none_of false false false h = (refl, refl, refl)

-- an entry that fits a width
fits_width : (w : ℕ) (e : Entry) → misfits w e ≡ false → (e.sort ≡ w) × (e.width ≡ w) × (e.value < 2 ^ w)
unfolding misfits
fits_width w e h =
    let n = none_of (not (eqb e.sort w)) (not (eqb e.width w)) (leb (2 ^ e.width) e.value) h in
    let v : e.width ≡ w = eqb-true e.width w (not-false _ n.1) in
    let l : e.value < 2 ^ e.width = leb-false (2 ^ e.width) e.value n.2 in
    (eqb-true e.sort w (not-false _ n.0), v, rw v at l)

module _ (s list text : List ℕ) (u : Unrefused s list text) (k : ℕ) (l : k < length (names list)) where
  abbrev ns : List (List ℕ)
  ns = names list

  abbrev es : List Entry
  es = entries text

  -- the entry of variable k
  abbrev own : ℕ
  own = position (get_or ns k []) (names_of es)

  own_inside : own < length es
  unfolding Unrefused stages absent_at
  own_inside =
      let x : (own ≡ length es → ⊥) = eqb-false own (length es) (not_refused 35 _ _ (said_each _ (length ns) (u 6 (lit< tt)) k l)) in
      omega (arith, position_most (get_or ns k []) (names_of es), names_length es)

  own_named : (get_or es own no_entry).name ≡ get_or ns k []
  own_named = sym (names_at es own) ∙ position_found (get_or ns k []) (names_of es) (omega (arith, own_inside, names_length es))

  -- 33 is not given: an entry stands first of those of its name
  own_only : (i : ℕ) → i < length es → (get_or es i no_entry).name ≡ get_or ns k [] → i ≡ own
  unfolding Unrefused stages again_at is_again
  own_only i h e =
      let n : get_or (names_of es) i [] ≡ get_or ns k [] = names_at es i ∙ e in
      let a : i ≤ position (get_or (names_of es) i []) (names_of es) =
      ltb-false (position (get_or (names_of es) i []) (names_of es)) i (not_refused 33 i _ (said_each _ (length es) (u 4 (lit< tt)) i h)) in
      let b : own ≤ i = position_first (get_or ns k []) (names_of es) i (omega (arith, h, names_length es)) n in
      let c : i ≤ own = rw n at a in
      omega arith

  -- 30 is not given: the names differ, and there are as many as variables
  distinct : some (is_again ns) (length ns) ≡ false
  unfolding Unrefused stages list_wrong
  distinct = or_right (not (eqb (length ns) (length (variables s)))) (some (is_again ns) (length ns)) (not_refused 30 0 _ (u 1 (lit< tt)))

  owner : position (get_or es own no_entry).name ns ≡ k
  owner = ap (λ (n : List ℕ). position n ns) own_named ∙ position_own ns distinct k l

  -- 34 is not given
  own_fits : misfits (width_at s (get_or (variables s) k 0)) (get_or es own no_entry) ≡ false
  unfolding Unrefused stages misfit_at
  own_fits =
      let h = not_refused 34 own _ (said_each (misfit_at s ns es) (length es) (u 5 (lit< tt)) own own_inside) in
      rw owner at h

  pub text_values : Given s list text k
  unfolding assigned Unrefused
  text_values =
      let f = fits_width _ _ own_fits in
      record {
        entry = own;
        inside = own_inside;
        named = own_named;
        only = own_only;
        sort = f.0;
        width = f.1;
        short = f.2;
        held =
            assigned_at s ns es (accepted_facts s (accepted s list text u)).header.nodes (length ns) k l
            (omega (arith, as_many s list text (u 1 (lit< tt))));
      }
