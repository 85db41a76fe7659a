-- Laws of the values of a text: what the marks and the words say of it, and when its values can be evaluated.
use Rattle.std.specs.Prelude.{Result, Err, Ok, Option, Some, None, is_some, unwrap_or, ◌≡◌, ◌↔◌, Bool, cond, ◌||◌, set}
use Rattle.std.specs.Option.{option_eq}
use Rattle.std.specs.Result.{result_and}
use Rattle.std.proofs.Math.Path.{refl, sym, ap, ap₂}
use Rattle.std.proofs.Common.{◌∙◌, true≢false, add-one, pow_mono, length-set}
use Rattle.std.proofs.Math.Bool.{true, false, not}
use Rattle.std.proofs.lemmas.Bool.{false≢true}
use mathlib.Core.List.{List, []}
use Prim.Native.Nat.{ℕ, zero, suc, ◌+◌, ◌^◌, ◌≤◌, ◌<◌}
use native.Mathlib.Omega.{arith}
use Rattle.std.proofs.Math.Nat.{lt_of_lt_of_le}
use Rattle.std.proofs.Math.Dec.{leb, eqb}
use Rattle.std.proofs.Math.ListN.{length, get_or}
use Rattle.std.proofs.lemmas.List.{length-replicate}
use borrow.Author.Tests.{le-leb, leb-false, eqb-true, eqb-false, not-false, eq-eqb, ne_eqb}
use Rattle.words.specs.Agree.{Agrees}
use Rattle.words.specs.laws.Agree.{agrees_of_within, lo_within, within_hi}
use Rattle.problem.specs.declared.Refusal.{Refusal}
use Rattle.problem.specs.Layout.{node_count, root_count, node_at, width_at}
use Rattle.problem.specs.Refusals.{Accepted, refusal, bit_outside, checked}
use Rattle.problem.specs.laws.Tests.{eq_yes, or_no, and_no}
use Rattle.problem.specs.laws.Facts.{accepted_facts, within_right}
use Rattle.nodes.specs.Problem.{problem, zeros, evaluate}
use Rattle.nodes.specs.Values.{VariablesAgree}
use Rattle.evaluation.specs.inner.Evaluation.{Assigned}
use Rattle.models.specs.declared.Fault.{Fault}
use Rattle.models.specs.declared.Judged.{Judged}
use Rattle.models.specs.declared.Judged.TheVariants.{Yes, Refused}
use Rattle.entries.specs.Names.{names, position, is_again, some}
use Rattle.entries.specs.Entries.{Entry, no_entry, is_model, entries, misfits}
use Rattle.models.specs.Judgement.{of_problem, list_wrong, judged, refuse, ◌next◌, first_said, variables, names_of, unknown_at, again_at, misfit_at, absent_at, assigned_up, assigned, contradicted_at, zero_at, judged_entries, judged_text}
use Rattle.entries.specs.inner.Places.{counted, Listed, Named}
use Rattle.models.specs.inner.Judging.{Kept, Prepared, Placing, Sound, said, told, marks_up, words_up, placed_up, entries_said, Read, unmarked_at, values_said, is_yes}
use Rattle.entries.specs.laws.Numbers.{small_is_it}
use Rattle.models.specs.laws.First.{yes_is, answered, passed, not_given, failed, went, given, said_and, refuse_given, refuse_not, next_stays, next_yes, next_assoc, next_left, next_right, not_refused, said_each, said_same}
use Rattle.models.specs.laws.Positions.{position_most, names_length, marks_absent, marks_length, words_length, words_for}
use Rattle.models.specs.laws.Variables.{few_names, variable_count, variable_at, variable_below}
use Rattle.models.specs.laws.Reading.{known_each}

or_parts : (a b : Bool) → (a || b) ≡ false → (a ≡ false) × (b ≡ false)
or_parts true b h = absurd (true≢false h)
or_parts false b h = (refl, h)

-- ---- 36: variables that agree

agree_right : (lo hi v : ℕ) → ((bit_outside lo v || bit_outside v hi) ≡ false) ↔ Agrees lo hi v
agree_right lo hi v =
    let e = or_no (within_right lo v) (within_right v hi) in
    (λ h. agrees_of_within (e.0 h).0 (e.0 h).1, λ a. e.1 (lo_within a, within_hi a))

pub assigned_of : (s vs : List ℕ) → checked s ≡ Accepted → node_count s ≤ length vs → first_said (contradicted_at s vs) (node_count s) ≡ Yes → Assigned s vs
unfolding contradicted_at VariablesAgree problem
assigned_of s vs a l h =
    record {
      accepted = a;
      places = l;
      agrees = λ n i v.
          (and_no (eq_yes (node_at s n).kind 0) (agree_right (node_at s n).lo (node_at s n).hi (get_or vs n 0))).0
          (not_refused 36 n _ (said_each (contradicted_at s vs) (node_count s) h n i)) v;
    }

-- ---- the values by id

pub assigned_length : (s : List ℕ) (ns : List (List ℕ)) (es : List Entry) (k : ℕ) → length (assigned_up s ns es k) ≡ 1024
unfolding assigned_up zeros
assigned_length s ns es zero = length-replicate {A = ℕ} 1024 0
assigned_length s ns es (suc k) = length-set (assigned_up s ns es k) (get_or (variables s) k 0) _ ∙ assigned_length s ns es k

pub assigned_room : (s : List ℕ) (ns : List (List ℕ)) (es : List Entry) → checked s ≡ Accepted → node_count s ≤ length (assigned s ns es)
unfolding assigned
assigned_room s ns es a = omega (arith, (accepted_facts s a).header.nodes, assigned_length s ns es (length ns))

pub placed_length : (ids words : List ℕ) (k : ℕ) → length (placed_up ids words k) ≡ 1024
unfolding placed_up zeros
placed_length ids words zero = length-replicate {A = ℕ} 1024 0
placed_length ids words (suc k) = length-set (placed_up ids words k) (get_or ids k 0) (get_or words k 0) ∙ placed_length ids words k

pub placed_none : (ids words values : List ℕ) → values ≡ zeros → values ≡ placed_up ids words 0
unfolding placed_up
placed_none ids words values h = h

pub placed_more : (ids words values : List ℕ) (k : ℕ) → values ≡ placed_up ids words k → set values (get_or ids k 0) (get_or words k 0) ≡ placed_up ids words (k + 1)
unfolding placed_up
placed_more ids words values k h = rw (add-one, h)

pub placed_all : (ids words : List ℕ) (k n : ℕ) → k ≡ n → placed_up ids words k ≡ placed_up ids words n
placed_all ids words k n e = ap (placed_up ids words) e

-- an id has its place
pub below_length : (ids words values : List ℕ) (k id : ℕ) → values ≡ placed_up ids words k → id < 1024 → id < length values
below_length ids words values k id e h = omega (arith, ap length e, placed_length ids words k)

-- ---- 35 and the values, where the entries are all known, given once, and fit

module _ (s list text ids : List ℕ) (given : List Bool) (words : List ℕ) (count : ℕ) (p : Prepared s list ids count)
    (said : entries_said s (names list) (entries text) ≡ Yes)
    (marked : given ≡ marks_up (names list) (entries text) (length (entries text)))
    (worded : words ≡ words_up (names list) (entries text) (length (entries text))) where
  abbrev ns : List (List ℕ)
  ns = names list

  abbrev es : List Entry
  es = entries text

  abbrev owner : ℕ → ℕ
  owner j = position (get_or es j no_entry).name ns

  abbrev entry : ℕ → ℕ
  entry k = position (get_or ns k []) (names_of es)

  nodes_few : node_count s ≤ 1024
  nodes_few = (accepted_facts s p.accepted).header.nodes

  count_is : count ≡ length ns
  count_is = p.all

  names_few : length ns ≤ 1024
  names_few = omega (arith, nodes_few, count_is, p.variables.few)

  once : some (is_again ns) (length ns) ≡ false
  once = ap (some (is_again ns)) (sym count_is) ∙ p.distinct

  all_known : first_said (unknown_at s ns es) (length es) ≡ Yes
  unfolding entries_said
  all_known = next_left (first_said (unknown_at s ns es) (length es)) _ said

  after_known : (first_said (again_at s ns es) (length es) next first_said (misfit_at s ns es) (length es)) ≡ Yes
  unfolding entries_said
  after_known = next_right (first_said (unknown_at s ns es) (length es)) _ said

  known : (j : ℕ) → j < length es → owner j < length ns
  known = known_each s list text (length es) all_known

  single : (j : ℕ) → j < length es → is_again (names_of es) j ≡ false
  unfolding again_at
  single j l = not_refused 33 j _ (said_each (again_at s ns es) (length es) (next_left _ _ after_known) j l)

  fitting : (j : ℕ) → j < length es → misfits (width_at s (get_or (variables s) (owner j) 0)) (get_or es j no_entry) ≡ false
  unfolding misfit_at
  fitting j l = not_refused 34 j _ (said_each (misfit_at s ns es) (length es) (next_right _ _ after_known) j l)

  -- a value that fits is held by 64 bits
  value_held : (j : ℕ) → j < length es → (get_or es j no_entry).value < 2 ^ 64
  unfolding misfits width_at
  value_held j l =
      let i : get_or (variables s) (owner j) 0 < node_count s =
      variable_below s ids count p.variables nodes_few (owner j) (omega (arith, known j l, count_is)) in
      let w : (node_at s (get_or (variables s) (owner j) 0)).width ≤ 64 =
      ((accepted_facts s p.accepted).node (get_or (variables s) (owner j) 0) i).width_most in
      fits_in (get_or es j no_entry) (node_at s (get_or (variables s) (owner j) 0)).width w (fitting j l)
    where
      fits_in : (e : Entry) (w : ℕ) → w ≤ 64 → (not (eqb e.sort w) || not (eqb e.width w) || leb (2 ^ e.width) e.value) ≡ false → e.value < 2 ^ 64
      fits_in e w h q =
          let a = or_parts (not (eqb e.sort w) || not (eqb e.width w)) (leb (2 ^ e.width) e.value) q in
          let b = or_parts (not (eqb e.sort w)) (not (eqb e.width w)) a.0 in
          let c : e.width ≡ w = eqb-true e.width w (not-false (eqb e.width w) b.1) in
          let k : e.width ≤ 64 = omega (arith, c) in
          lt_of_lt_of_le (leb-false (2 ^ e.width) e.value a.1) (pow_mono k)

  -- 35
  pub absent_same : first_said (unmarked_at ids given) count ≡ first_said (absent_at s ns es) (length ns)
  unfolding absent_at
  absent_same =
      said_same (unmarked_at ids given) (absent_at s ns es) count
      (λ k l. ap₂ (refuse 35) (variable_at s ids count p.variables nodes_few k l)
      (ap (λ (g : List Bool). not (get_or g k false)) marked ∙ marks_absent ns es once names_few known k (omega (arith, count_is))))
      ∙ ap (first_said (absent_at s ns es)) count_is

  -- the values, where no variable is absent
  module _ (present : (k : ℕ) → k < length ns → entry k < length es) where
    placed_assigned : (k : ℕ) → k ≤ length ns → placed_up ids words k ≡ assigned_up s ns es k
    unfolding placed_up assigned_up
    placed_assigned zero h = refl
    placed_assigned (suc k) h =
        let l : k < length ns = omega arith in
        let v : get_or words k 0 ≡ (get_or es (entry k) no_entry).value =
        ap (λ (g : List ℕ). get_or g k 0) worded ∙ words_for ns es once names_few known single k l (present k l)
        ∙ small_is_it (get_or es (entry k) no_entry).value (value_held (entry k) (present k l)) in
        rw (placed_assigned k (omega arith), variable_at s ids count p.variables nodes_few k (omega (arith, count_is)), v)

    pub values_assigned : placed_up ids words count ≡ assigned s ns es
    unfolding assigned
    values_assigned = ap (placed_up ids words) count_is ∙ placed_assigned (length ns) (omega arith)

  pub all_present : first_said (absent_at s ns es) (length ns) ≡ Yes → (k : ℕ) → k < length ns → entry k < length es
  unfolding absent_at
  all_present h k l =
      let x : (entry k ≡ length es → ⊥) =
      eqb-false (entry k) (length es) (not_refused 35 _ _ (said_each (absent_at s ns es) (length ns) h k l)) in
      omega (arith, position_most (get_or ns k []) (names_of es), names_length es)

  abbrev rest : List ℕ → Judged
  rest vs = first_said (contradicted_at s vs) (node_count s) next first_said (zero_at s (evaluate (problem s) vs)) (root_count s)

  -- all that is said after 34
  pub values_judged :
      (r : Judged)
      → r ≡ (first_said (unmarked_at ids given) count next values_said s (placed_up ids words count))
      → r ≡ judged_entries s ns es
  unfolding judged_entries values_said
  values_judged r q =
      q
      ∙ ap (λ (a : Judged). a next rest (placed_up ids words count)) absent_same
      ∙ by (is_yes (first_said (absent_at s ns es) (length ns))) refl
      ∙ sym (next_yes (first_said (misfit_at s ns es) (length es)) _ (next_right _ _ after_known))
      ∙ sym (next_yes (first_said (again_at s ns es) (length es)) _ (next_left _ _ after_known))
      ∙ sym (next_yes (first_said (unknown_at s ns es) (length es)) _ all_known)
    where
      by : (t : Bool) → is_yes (first_said (absent_at s ns es) (length ns)) ≡ t
          → (first_said (absent_at s ns es) (length ns) next rest (placed_up ids words count)) ≡ (first_said (absent_at s ns es) (length ns) next rest (assigned s ns es))
      by true y = ap (λ (vs : List ℕ). first_said (absent_at s ns es) (length ns) next rest vs) (values_assigned (all_present (yes_is _ y)))
      by false y = sym (next_stays _ _ y) ∙ next_stays _ _ y

-- what is said of the entries stays
pub entries_judged : (s : List ℕ) (ns : List (List ℕ)) (es : List Entry) (r : Judged) → r ≡ entries_said s ns es → is_yes r ≡ false → r ≡ judged_entries s ns es
unfolding entries_said judged_entries
entries_judged s ns es r q h =
    let u = first_said (unknown_at s ns es) (length es) in
    let a = first_said (again_at s ns es) (length es) in
    let m = first_said (misfit_at s ns es) (length es) in
    let rest =
    first_said (absent_at s ns es) (length ns)
    next first_said (contradicted_at s (assigned s ns es)) (node_count s)
    next first_said (zero_at s (evaluate (problem s) (assigned s ns es))) (root_count s) in
    next_stays r rest h
    ∙ ap (λ (x : Judged). x next rest) q
    ∙ next_assoc u (a next m) rest
    ∙ ap (λ (x : Judged). u next x) (next_assoc a m rest)

-- ---- as code finds them

pub places_of : (s vs ids words : List ℕ) (k : ℕ) → checked s ≡ Accepted → vs ≡ placed_up ids words k → node_count s ≤ length vs
places_of s vs ids words k a e = omega (arith, (accepted_facts s a).header.nodes, ap length e, placed_length ids words k)

pub sound_of : (s vs ids words : List ℕ) (k : ℕ) → checked s ≡ Accepted → vs ≡ placed_up ids words k → Sound s vs
sound_of s vs ids words k a e = record { accepted = a; places = places_of s vs ids words k a e }

-- 35, then 36, then the roots
module _ (s ids words vs : List ℕ) (count : ℕ) (a : Judged) (r : Result Unit Fault) (p : said r ≡ a) (u : Unit) (h : r ≡ Ok u)
    (e : vs ≡ placed_up ids words count) (r' : Result Unit Fault) (q : said r' ≡ first_said (contradicted_at s vs) (node_count s)) where
  pub values_fault : (f : Fault) → r' ≡ Err f → (t : Result (Option ℕ) Fault) → t ≡ Err f → told t ≡ (a next values_said s (placed_up ids words count))
  unfolding values_said
  values_fault f g t z = went a _ r p u (told t) h (rw (← e) (failed _ _ r' q f g t z))

  pub values_passed : (u' : Unit) (us : List ℕ) (t : Judged) → r' ≡ Ok u' → us ≡ evaluate (problem s) vs → t ≡ first_said (zero_at s us) (root_count s)
      → t ≡ (a next values_said s (placed_up ids words count))
  unfolding values_said
  values_passed u' us t g k m = went a _ r p u t h (rw (← e) (went _ _ r' q u' t g (m ∙ rw k)))

-- the same of what is said
module _ (s vs ids words : List ℕ) (count : ℕ) (a missing : Judged) (p : missing ≡ a) (y : is_yes missing ≡ true) (e : vs ≡ placed_up ids words count) where
  pub values_wrong : (r : Judged) → r ≡ first_said (contradicted_at s vs) (node_count s) → is_yes r ≡ false → r ≡ (a next values_said s (placed_up ids words count))
  unfolding values_said
  values_wrong r q h = passed a _ missing r p y (rw (← e) (answered _ _ r q h))

  pub values_zero :
      (wrong r : Judged) (us : List ℕ)
      → wrong ≡ first_said (contradicted_at s vs) (node_count s)
      → is_yes wrong ≡ true
      → us ≡ evaluate (problem s) vs
      → r ≡ first_said (zero_at s us) (root_count s)
      → r ≡ (a next values_said s (placed_up ids words count))
  unfolding values_said
  values_zero wrong r us q h u k = passed a _ missing r p y (rw (← e) (passed _ _ wrong r q h (k ∙ rw u)))

-- 31 and 32 to 34, then what is left
module _ (s list text : List ℕ) (m : Bool) (syntax found : Result Unit Fault) (q : m ≡ is_model text) (p : said syntax ≡ refuse 31 0 (not m))
    (k : said found ≡ entries_said s (names list) (entries text)) where
  first : said (result_and syntax found) ≡ (refuse 31 0 (not (is_model text)) next entries_said s (names list) (entries text))
  first = said_and syntax found ∙ rw (p, k, q)

  pub text_fault : (f : Fault) → result_and syntax found ≡ Err f → (t : Result (Option ℕ) Fault) → t ≡ Err f
      → told t ≡ (refuse 31 0 (not (is_model text)) next judged_entries s (names list) (entries text))
  text_fault f h t z =
      let e : Refused f ≡ (refuse 31 0 (not (is_model text)) next entries_said s (names list) (entries text)) = rw h at first in
      rw z (by (is_yes (refuse 31 0 (not (is_model text)))) refl e)
    where
      by : (t : Bool) → is_yes (refuse 31 0 (not (is_model text))) ≡ t
          → Refused f ≡ (refuse 31 0 (not (is_model text)) next entries_said s (names list) (entries text))
          → Refused f ≡ (refuse 31 0 (not (is_model text)) next judged_entries s (names list) (entries text))
      by false y e = e ∙ sym (next_stays _ _ y) ∙ next_stays _ _ y
      by true y e =
          let g = yes_is (refuse 31 0 (not (is_model text))) y in
          entries_judged s (names list) (entries text) (Refused f) (e ∙ next_yes _ _ g) refl ∙ sym (next_yes _ _ g)

  module _ (u : Unit) (h : result_and syntax found ≡ Ok u) where
    both : (refuse 31 0 (not (is_model text)) next entries_said s (names list) (entries text)) ≡ Yes
    both = sym first ∙ by u (result_and syntax found) h
      where
        by : (u : Unit) (r : Result Unit Fault) → r ≡ Ok u → said r ≡ Yes
        by tt r e = rw e

    pub found_nothing : said found ≡ Yes
    found_nothing = k ∙ next_right _ _ both

    pub text_passed : (t : Judged) → t ≡ judged_entries s (names list) (entries text)
        → t ≡ (refuse 31 0 (not (is_model text)) next judged_entries s (names list) (entries text))
    text_passed t e = e ∙ sym (next_yes _ _ (next_left _ _ both))

-- the same of what is said
module _ (s list text : List ℕ) (m : Bool) (syntax found said : Judged) (q : m ≡ is_model text) (p : syntax ≡ (Yes next refuse 31 0 (not m)))
    (k : found ≡ entries_said s (names list) (entries text)) (e : said ≡ (syntax next found)) where
  syntax_is : syntax ≡ refuse 31 0 (not (is_model text))
  syntax_is = p ∙ next_yes Yes (refuse 31 0 (not m)) refl ∙ ap (λ (b : Bool). refuse 31 0 (not b)) q

  pub text_wrong : is_yes said ≡ false → said ≡ (refuse 31 0 (not (is_model text)) next judged_entries s (names list) (entries text))
  text_wrong h = by (is_yes syntax) refl
    where
      by : (t : Bool) → is_yes syntax ≡ t → said ≡ (refuse 31 0 (not (is_model text)) next judged_entries s (names list) (entries text))
      by false y = answered _ _ said (e ∙ sym (next_stays syntax found y) ∙ syntax_is) h
      by true y =
          let f : said ≡ found = e ∙ next_yes syntax found (yes_is syntax y) in
          passed _ _ syntax said syntax_is y (entries_judged s (names list) (entries text) said (f ∙ k) h)

  pub found_right : is_yes said ≡ true → is_yes found ≡ true
  found_right h = ap is_yes (next_right syntax found (sym e ∙ yes_is said h))

  pub text_right : (t : Judged) → is_yes said ≡ true → t ≡ judged_entries s (names list) (entries text)
      → t ≡ (refuse 31 0 (not (is_model text)) next judged_entries s (names list) (entries text))
  text_right t h u = passed _ _ syntax t syntax_is (ap is_yes (next_left syntax found (sym e ∙ yes_is said h))) u

-- a mark for each variable, and its value's place
module _ (s list text ids : List ℕ) (given : List Bool) (words values : List ℕ) (count : ℕ) (p : Prepared s list ids count) (r : Judged)
    (d : Read s list text given words r) (y : is_yes r ≡ true) where
  pub given_room : count ≤ length given
  given_room =
      omega (arith, (few_names s list ids count p).1, ap length (d.marked (yes_is r y)), marks_length (names list) (entries text) (length (entries text)))

  pub placing : values ≡ zeros → Placing ids words values count
  placing z =
      let few = few_names s list ids count p in
      record {
        ids_room = few.2;
        words_room = omega (arith, few.1, ap length (d.worded (yes_is r y)), words_length (names list) (entries text) (length (entries text)));
        none = z;
        below = λ k l.
            rw (variable_at s ids count p.variables few.0 k l)
            (let i = variable_below s ids count p.variables few.0 k l in omega (arith, few.0));
      }

-- what is left
module _ (s list text ids : List ℕ) (given : List Bool) (words : List ℕ) (count : ℕ) (p : Prepared s list ids count) (r : Judged)
    (d : Read s list text given words r) (y : r ≡ Yes) where
  pub text_judged : (t : Judged) → t ≡ (first_said (unmarked_at ids given) count next values_said s (placed_up ids words count)) → t ≡ judged_entries s (names list) (entries text)
  text_judged t q = values_judged s list text ids given words count p (sym d.said ∙ y) (d.marked y) (d.worded y) t q

-- 30
module _ (s list froms tos ids : List ℕ) (count : ℕ) (named : Option ℕ) (a : checked s ≡ Accepted) (k : Kept s ids (node_count s) count)
    (l : Listed list froms tos named) where
  nodes : node_count s ≤ 1024
  nodes = (accepted_facts s a).header.nodes

  few : count ≤ 1024
  few = omega (arith, k.few, nodes)

  pub wrong_count : (named ≡ Some count → ⊥) → list_wrong (variables s) (names list) ≡ true
  unfolding list_wrong
  wrong_count x = rw (ne_eqb (length (names list)) (length (variables s)) (λ e. x (l.count ∙ sized (e ∙ sym (variable_count s ids count k nodes)))))
    where
      sized : length (names list) ≡ count → counted (length (names list)) ≡ Some count
      sized e = rw (e, le-leb count 1024 few)

  pub count_given : (t : Bool) → t ≡ not (option_eq eqb named (Some count)) → t ≡ true → list_wrong (variables s) (names list) ≡ true
  count_given t q y = wrong_count (λ e. true≢false (sym y ∙ q ∙ rw (e, eq-eqb count count refl)))

  pub right_count : (t : Bool) → t ≡ not (option_eq eqb named (Some count)) → (r : Result Unit Fault) → said r ≡ refuse 30 0 t → (u : Unit) → r ≡ Ok u
      → named ≡ Some count
  right_count t q r e u h = by named (not-false (option_eq eqb named (Some count)) (sym q ∙ not_given 30 0 t r e u h))
    where
      by : (o : Option ℕ) → option_eq eqb o (Some count) ≡ true → o ≡ Some count
      by None h = absurd (false≢true h)
      by (Some k) h = ap Some (eqb-true k count h)

  pub digests_room : (digests : List ℕ) → length digests ≡ 1024 → count ≤ length digests
  digests_room digests h = omega (arith, few)

  module _ (e : named ≡ Some count) where
    all : count ≡ length (names list)
    all = by (leb (length (names list)) 1024) (sym l.count ∙ e)
      where
        by : (t : Bool) → cond t (Some (length (names list))) None ≡ Some count → count ≡ length (names list)
        by true h = sym (ap (λ (o : Option ℕ). unwrap_or o 0) h)
        by false h = absurd (false≢true (ap is_some h))

    pub named_of : Named list froms tos count
    named_of =
        record {
          all = all;
          froms_room = omega (arith, few, l.froms_room);
          tos_room = omega (arith, few, l.tos_room);
          placed = l.placed count e;
        }

    same_count : eqb (length (names list)) (length (variables s)) ≡ true
    same_count = eq-eqb (length (names list)) (length (variables s)) (sym all ∙ variable_count s ids count k nodes)

    module _ (g : Bool) (q : g ≡ some (is_again (names list)) count) where
      pub twice : list_wrong (variables s) (names list) ≡ g
      unfolding list_wrong
      twice = rw (same_count, ← all, q)

      pub wrong_twice : g ≡ true → list_wrong (variables s) (names list) ≡ true
      wrong_twice h = twice ∙ h

      pub right_list : g ≡ false → list_wrong (variables s) (names list) ≡ false
      right_list h = twice ∙ h

      pub prepared : g ≡ false → Prepared s list ids count
      prepared h = record { accepted = a; variables = k; all = all; distinct = sym q ∙ h }

module _ (s list text : List ℕ) where
  pub list_wrong_lem : list_wrong (variables s) (names list) ≡ true → Refused (record { number = 30; place = 0 }) ≡ judged_text s list text
  unfolding judged_text
  list_wrong_lem h =
      next_stays (Refused (record { number = 30; place = 0 })) _ refl
      ∙ ap (λ (x : Judged). x next (refuse 31 0 (not (is_model text)) next judged_entries s (names list) (entries text)))
      (refuse_given 30 0 _ h)

  -- 30, by a test
  module _ (t : Bool) (r : Result Unit Fault) (q : said r ≡ refuse 30 0 t) where
    pub list_fault : (t ≡ true → list_wrong (variables s) (names list) ≡ true) → (f : Fault) → r ≡ Err f → (j : Result (Option ℕ) Fault) → j ≡ Err f
        → told j ≡ judged_text s list text
    unfolding judged_text
    list_fault w f h j z =
        let y = given 30 0 t r q f h in failed _ _ r (q ∙ ap (refuse 30 0) (y ∙ sym (w y))) f h j z

  pub list_right : list_wrong (variables s) (names list) ≡ false → (r : Judged)
      → r ≡ (refuse 31 0 (not (is_model text)) next judged_entries s (names list) (entries text))
      → r ≡ judged_text s list text
  unfolding judged_text
  list_right h r k = k ∙ sym (next_yes (refuse 30 0 (list_wrong (variables s) (names list))) _ (refuse_not 30 0 _ h))

  -- the problem's own refusals
  pub problem_wrong : (r : Refusal) → checked s ≡ refusal r.number r.place → (j : Result (Option ℕ) Fault)
      → j ≡ Err (record { number = r.number; place = r.place })
      → told j ≡ judged s list text
  unfolding judged of_problem
  problem_wrong r q j z =
      rw (q, z)
      (next_stays (Refused (record { number = r.number; place = r.place })) (judged_text s list text) refl
      ∙ ap (λ (y : Judged). y next judged_text s list text) (refuse_given r.number r.place true refl))

  pub problem_right : (r : Judged) → checked s ≡ Accepted → r ≡ judged_text s list text → r ≡ judged s list text
  unfolding judged of_problem
  problem_right r q k = k ∙ rw q (sym (next_yes Yes _ refl))
