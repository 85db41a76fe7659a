-- Over all lines: the world that a text tells and the nodes that it makes, under the same values of the inputs.
use Rattle.std.specs.Prelude.{◌≡◌, Bool, ◌↔◌, ℕ, zero, suc, ◌+◌, ◌-◌, ◌<◌, ltb, length}
use Rattle.std.proofs.Math.Path.{refl, sym}
use Rattle.std.proofs.Common.{◌∙◌, length-append}
use Rattle.std.proofs.Math.Bool.{true, false, cond}
use Rattle.std.proofs.lemmas.Bool.{false≢true}
use mathlib.Core.List.{List, [], ◌∷◌, ◌++◌, map, append_assoc, append-nil}
use native.Mathlib.Omega.{arith}
use Rattle.std.proofs.Math.Nat.{add-zero}
use Rattle.std.proofs.Math.Dec.{eqb}
use Rattle.std.proofs.Math.ListN.{get_or, drop}
use Rattle.std.proofs.Math.Seq.{drop-drop, drop-append_seam, get_or-drop, drop-length}
use borrow.Author.Tests.{eqb-true, eqb-false, not-false}
use Rattle.problem.specs.declared.layout.Node.{Node}
use Rattle.lines.specs.declared.table.Makes.{Makes}
use Rattle.lines.specs.declared.table.Makes.TheVariants.{Value}
use Rattle.lines.specs.Lines.{Token, token, lines, tokens}
use Rattle.lines.specs.Words.{number_of, word_of, shape}
use Rattle.lines.specs.Format.{refs_from, item_of, item}
use Rattle.spelling.specs.Nodes.{variable_node, own, nots}
use Rattle.btor2.specs.Conversion.{State, start, known, at, width_in, operands, new_nodes, node_for, with_root, naming, added, after, sort_unknown, line_fault, after_line, converted, refused, convert_from, outcome}
use Rattle.btor2.specs.Meaning.{World, sort_of, line_of, operand, valued, told, tell_line, tell, world, AllOne, Met}
use Rattle.nodes.specs.Problem.{by_kind}
use Rattle.btor2.specs.Inputs.{inputs_of, variable_widths, widths_by, input_widths}
use Rattle.btor2.specs.inner.Values.{Gives, Kinds, Evaluated, Fitting}
use Rattle.lines.specs.inner.Told.{id_of}
use Rattle.btor2.specs.laws.Sorts.{added_sorts}
use Rattle.btor2.specs.laws.Reached.{Reached, begin, more, fold_more, fold_stops, outcome_reached}
use Rattle.btor2.specs.laws.Entry.{known_snoc_other, at_snoc_new, at_snoc_other}
use Rattle.btor2.specs.laws.Passed.{Passes, passes}
use Rattle.btor2.specs.laws.Sound.{Sound, reached_sound, unknown_sort, name_unknown, Role, makes_sort, makes_input, makes_a_value, makes_a_root, role}
use Rattle.btor2.specs.laws.Step.{sort_none, added_nodes}
use Rattle.btor2.specs.laws.Built.{AllBuilt}
use Rattle.btor2.specs.laws.Fine.{Fine, reached_fine, root_nodes, root_stands, item_word, one_ref}
use Rattle.btor2.specs.laws.Tied.{Tied, one_with, NoVariable, inputs_past, at_head, stands_width}
use Rattle.btor2.specs.laws.World.{own_constant, nots_constant, no_append, all_at, has_value, Worth, line_worth}

-- ---- small laws

input_nodes : (σ : State) (ts : List Token) → number_of (token ts 1) ≡ 1 → new_nodes σ (item ts) ≡ variable_node (at (item ts).sort σ.sorts) ∷ []
unfolding new_nodes item item_of shape refs_from operands nots own
input_nodes σ ts e = rw e

input_stands : (σ : State) (ts : List Token) → number_of (token ts 1) ≡ 1 → node_for σ (item ts) ≡ length σ.nodes
unfolding node_for
input_stands σ ts e = rw (input_nodes σ ts e) (let z : length σ.nodes + 1 - 1 ≡ length σ.nodes = omega arith in z)

item_id : (ts : List Token) → (item ts).id ≡ id_of ts
unfolding item item_of id_of
item_id ts = refl

item_value : (ts : List Token) (k : ℕ) → k ≡ number_of (token ts 1) → (shape (word_of k)).makes ≡ Value → (shape (item ts).word).makes ≡ Value
unfolding item item_of
item_value ts k e m = rw (← e) m

-- no variable in what lines other than an input's make
value_constant : (σ : State) (ts : List Token) → (shape (item ts).word).makes ≡ Value → NoVariable (new_nodes σ (item ts))
unfolding new_nodes
value_constant σ ts m = no_append (nots (operands σ (item ts).refs)) _ (nots_constant (operands σ (item ts).refs)) (own_constant (item ts).word _ _ _ _ _ _ _ _ m)

root_constant : (σ : State) (ts : List Token) → number_of (token ts 1) ≡ 27 → NoVariable (new_nodes σ (item ts))
root_constant σ ts z = rw (root_nodes σ ts z) (nots_constant (operands σ (item ts).refs))

role_value : (k : ℕ) → 1 < k → k < 27 → (shape (word_of k)).makes ≡ Value
role_value k l h = by k _ (role k) l h
  where
    by : (k : ℕ) (m : Makes) → Role k m → 1 < k → k < 27 → m ≡ Value
    by k m makes_sort p q = absurd (omega arith)
    by k m makes_input p q = absurd (omega arith)
    by k m (makes_a_value a b) p q = refl
    by k m (makes_a_root a) p q = absurd (omega arith)

-- what is left of the inputs after nodes that are none
past_new : (ms new rest : List Node) (vs : List ℕ) → NoVariable new
    → inputs_of (drop (length ms) ((ms ++ new) ++ rest)) (drop (length ms) vs) ≡ inputs_of (drop (length (ms ++ new)) ((ms ++ new) ++ rest)) (drop (length (ms ++ new)) vs)
past_new ms new rest vs n =
    rw (append_assoc ms new rest, drop-append_seam ms (new ++ rest)) (inputs_past new rest (drop (length ms) vs) n ∙ rest_is)
  where
    rest_is : inputs_of rest (drop (length new) (drop (length ms) vs)) ≡ inputs_of (drop (length (ms ++ new)) (ms ++ (new ++ rest))) (drop (length (ms ++ new)) vs)
    rest_is = rw (drop-drop (length new) (length ms) vs, ← append_assoc ms new rest, drop-append_seam (ms ++ new) rest, length-append ms new)

-- ---- one line

module _ (gives : Gives) (G : Kinds gives) (ns : List Node) (vs : List ℕ) (E : Evaluated gives ns vs) (B : AllBuilt ns)
    (Ft : Fitting (variable_widths ns) (inputs_of ns vs)) {room : ℕ} {ls : List (List ℕ)} {σ : State} {W : World} (D : Tied ns vs σ W)
    (l : List ℕ) (ts : List Token) (e : tokens l ≡ ts) (S : Sound ls σ) (P : Passes room σ ts) (A : AllBuilt σ.nodes) (rest : List Node)
    (en : ns ≡ (σ.nodes ++ new_nodes σ (item ts)) ++ rest) where
  no_sort : known (item ts).id σ.sorts ≡ false
  no_sort = rw (item_id ts) (unknown_sort l ts e S P (item_id ts))

  no_name : known (item ts).id σ.named ≡ false
  no_name = rw (item_id ts) (name_unknown l ts e S P (item_id ts))

  -- a sort more
  sorts_then : (x : ℕ) → sort_of x (((item ts).id, (item ts).first) ∷ W.sorts) ≡ at x (σ.sorts ++ ((item ts).id, (item ts).first) ∷ [])
  unfolding sort_of
  sorts_then x = by (eqb (item ts).id x) refl
    where
      by : (b : Bool) → eqb (item ts).id x ≡ b → cond b (item ts).first (sort_of x W.sorts) ≡ at x (σ.sorts ++ ((item ts).id, (item ts).first) ∷ [])
      by true q =
          let z : (item ts).id ≡ x = eqb-true (item ts).id x q in
          sym (at_snoc_new x σ.sorts (item ts).id (item ts).first (rw z at no_sort) z)
      by false q = D.sorts_tied x ∙ sym (at_snoc_other x σ.sorts (item ts).id (item ts).first (eqb-false (item ts).id x q))

  -- a name more
  names_then : (node v : ℕ) → get_or vs node 0 ≡ v → width_in ns node ≡ at (item ts).sort σ.sorts → (x : ℕ)
      → known x (σ.named ++ ((item ts).id, node) ∷ []) ≡ true
      → line_of x (((item ts).id, record { width = sort_of (item ts).sort W.sorts; value = v }) ∷ W.values)
      ≡ record { width = width_in ns (at x (σ.named ++ ((item ts).id, node) ∷ [])); value = get_or vs (at x (σ.named ++ ((item ts).id, node) ∷ [])) 0 }
  unfolding line_of
  names_then node v ev ew x k = by (eqb (item ts).id x) refl
    where
      by : (b : Bool) → eqb (item ts).id x ≡ b
          → cond b (record { width = sort_of (item ts).sort W.sorts; value = v }) (line_of x W.values)
          ≡ record { width = width_in ns (at x (σ.named ++ ((item ts).id, node) ∷ [])); value = get_or vs (at x (σ.named ++ ((item ts).id, node) ∷ [])) 0 }
      by true q =
          let z : (item ts).id ≡ x = eqb-true (item ts).id x q in
          rw (at_snoc_new x σ.named (item ts).id node (rw z at no_name) z, D.sorts_tied (item ts).sort, ew, ev)
      by false q =
          let z = eqb-false (item ts).id x q in
          let h : known x σ.named ≡ true = sym (known_snoc_other x σ.named (item ts).id node z) ∙ k in
          rw (at_snoc_other x σ.named (item ts).id node z) (D.values_tied x h)

  coming_past : NoVariable (new_nodes σ (item ts)) → W.coming ≡ inputs_of (drop (length (σ.nodes ++ new_nodes σ (item ts))) ns) (drop (length (σ.nodes ++ new_nodes σ (item ts))) vs)
  coming_past n = D.coming_tied ∙ rw en (past_new σ.nodes (new_nodes σ (item ts)) rest vs n)

  -- an input's variable
  input_coming : number_of (token ts 1) ≡ 1 → W.coming ≡ get_or vs (length σ.nodes) 0 ∷ inputs_of rest (drop (length σ.nodes + 1) vs)
  unfolding inputs_of
  input_coming z =
      let d : drop (length σ.nodes) ns ≡ variable_node (at (item ts).sort σ.sorts) ∷ rest =
      rw (en, input_nodes σ ts z, append_assoc σ.nodes (variable_node (at (item ts).sort σ.sorts) ∷ []) rest) (drop-append_seam σ.nodes (variable_node (at (item ts).sort σ.sorts) ∷ rest)) in
      D.coming_tied ∙ rw (d, get_or-drop (length σ.nodes) vs 0 0, add-zero, drop-drop 1 (length σ.nodes) vs)

  input_left : number_of (token ts 1) ≡ 1 → drop 1 W.coming ≡ inputs_of (drop (length (σ.nodes ++ new_nodes σ (item ts))) ns) (drop (length (σ.nodes ++ new_nodes σ (item ts))) vs)
  input_left z =
      let c : length (σ.nodes ++ new_nodes σ (item ts)) ≡ length σ.nodes + 1 = length-append σ.nodes (new_nodes σ (item ts)) ∙ rw (input_nodes σ ts z) in
      let d : drop (length (σ.nodes ++ new_nodes σ (item ts))) ns ≡ rest = rw en (drop-append_seam (σ.nodes ++ new_nodes σ (item ts)) rest) in
      rw (input_coming z, d, c)

  input_width : number_of (token ts 1) ≡ 1 → width_in ns (length σ.nodes) ≡ at (item ts).sort σ.sorts
  input_width z =
      stands_width ns (length σ.nodes) _ (at_head ns (length σ.nodes) _ [] (rw (input_nodes σ ts z) at (all_at gives G ns vs E B Ft D ts S P A rest en)))

  root_met : number_of (token ts 1) ≡ 27 → AllOne ((operand W (item ts).refs 0).value ∷ W.demands) ↔ AllOne (map (λ r. get_or vs r 0) (with_root σ.roots (node_for σ (item ts))))
  unfolding AllOne
  root_met z =
      let v : get_or vs (node_for σ (item ts)) 0 ≡ (operand W (item ts).refs 0).value =
      rw (root_stands σ ts z) (has_value gives G ns vs E B Ft D ts S P A rest en 0 (rw (item_word ts, z) one_ref)) in
      let o = one_with (λ r. get_or vs r 0) σ.roots (node_for σ (item ts)) in
      let d = D.demands_tied in
      (λ a. o.1 (v ∙ a.0, d.0 a.1), λ a. (sym v ∙ (o.0 a).0, d.1 (o.0 a).1))

  pub line_tied : (k : ℕ) (m : Makes) → Role k m → k ≡ number_of (token ts 1) → k < 28 → Tied ns vs (added σ (item ts) m) (told W (item ts) m)
  unfolding added naming told valued Worth
  line_tied k m makes_sort q h =
      record { sorts_tied = sorts_then; values_tied = D.values_tied; coming_tied = D.coming_tied; demands_tied = D.demands_tied }
  line_tied k m makes_input q h =
      let i = input_coming (sym q) in
      record {
        sorts_tied = D.sorts_tied;
        values_tied = names_then (node_for σ (item ts)) _ (rw (input_stands σ ts (sym q), i)) (rw (input_stands σ ts (sym q)) (input_width (sym q)));
        coming_tied = input_left (sym q);
        demands_tied = D.demands_tied;
      }
  line_tied k m (makes_a_value a b) q h =
      let mk = item_value ts k q (role_value k a b) in
      let v = line_worth gives G ns vs E B Ft D ts S P A rest en mk in
      record {
        sorts_tied = D.sorts_tied;
        values_tied = names_then (node_for σ (item ts)) _ v.0 v.1;
        coming_tied = coming_past (value_constant σ ts mk);
        demands_tied = D.demands_tied;
      }
  line_tied k m (makes_a_root a) q h =
      let z : number_of (token ts 1) ≡ 27 = omega arith in
      record {
        sorts_tied = D.sorts_tied;
        values_tied = D.values_tied;
        coming_tied = coming_past (root_constant σ ts z);
        demands_tied = root_met z;
      }

-- ---- all lines

start_tied : (ns : List Node) (vs : List ℕ) → Tied ns vs start (record { sorts = []; values = []; coming = inputs_of ns vs; demands = [] })
unfolding sort_of at known AllOne
start_tied ns vs =
    record { sorts_tied = λ id. refl; values_tied = λ id h. absurd (false≢true h); coming_tied = refl; demands_tied = (λ a. tt, λ a. tt) }

after_nodes : (σ : State) (ts : List Token) → (after σ (item ts)).nodes ≡ σ.nodes ++ new_nodes σ (item ts)
unfolding after item item_of
after_nodes σ ts = added_nodes σ ts (number_of (token ts 1)) (shape (word_of (number_of (token ts 1)))).makes (role (number_of (token ts 1))) refl

line_tied_here : (gives : Gives) (G : Kinds gives) (ns : List Node) (vs : List ℕ) (E : Evaluated gives ns vs) (B : AllBuilt ns) (Ft : Fitting (variable_widths ns) (inputs_of ns vs))
    {room : ℕ} {ls : List (List ℕ)} {σ : State} {W : World} → Tied ns vs σ W → (l : List ℕ) (ts : List Token) → tokens l ≡ ts → Sound ls σ → Passes room σ ts → AllBuilt σ.nodes
    → (rest : List Node) → ns ≡ (after σ (item ts)).nodes ++ rest → Tied ns vs (after σ (item ts)) (told W (item ts) (item ts).makes)
unfolding after item item_of
line_tied_here gives G ns vs E B Ft {room} {ls} {σ} {W} D l ts q S P A rest en =
    line_tied gives G ns vs E B Ft D l ts q S P A rest (en ∙ rw (after_nodes σ ts)) (number_of (token ts 1)) (shape (word_of (number_of (token ts 1)))).makes (role (number_of (token ts 1))) refl P.form.listed

line_on : (gives : Gives) (G : Kinds gives) (ns : List Node) (vs : List ℕ) (E : Evaluated gives ns vs) (B : AllBuilt ns) (Ft : Fitting (variable_widths ns) (inputs_of ns vs))
    {room : ℕ} {done : List (List ℕ)} {σ : State} {W : World} → Tied ns vs σ W → (l : List ℕ) (ts : List Token) → tokens l ≡ ts → Reached room done σ → line_fault room σ ts ≡ 0
    → (rest : List Node) → ns ≡ (after_line σ ts).nodes ++ rest → Tied ns vs (after_line σ ts) (tell_line W ts)
unfolding after_line tell_line
line_on gives G ns vs E B Ft D l [] q r f rest en = D
line_on gives G ns vs E B Ft {room} {done} {σ} {W} D l (t ∷ ts) q r f rest en =
    line_tied_here gives G ns vs E B Ft D l (t ∷ ts) q (reached_sound r) (passes room σ t ts f) (reached_fine r).built rest en

-- a line that was passed, and one that was not
passed_line : (room : ℕ) (σ τ : State) (k : ℕ) (l : List ℕ) (ls : List (List ℕ)) → convert_from room σ k (l ∷ ls) ≡ converted τ
    → (line_fault room σ (tokens l) ≡ 0) × (convert_from room (after_line σ (tokens l)) (suc k) ls ≡ converted τ)
passed_line room σ τ k l ls e = by (line_fault room σ (tokens l)) refl
  where
    by : (m : ℕ) → line_fault room σ (tokens l) ≡ m → (line_fault room σ (tokens l) ≡ 0) × (convert_from room (after_line σ (tokens l)) (suc k) ls ≡ converted τ)
    by zero q = (q, sym (fold_more room σ k l ls q) ∙ e)
    by (suc m) q =
        let f : convert_from room σ k (l ∷ ls) ≡ refused (suc m) k = fold_stops room σ k (suc m) l ls q (λ z. let y : suc m ≡ 0 = z in omega arith) in
        absurd (let z : ◌≡◌ {A = ℕ} 0 1 = cc in omega arith)

-- what comes behind the nodes and the sorts of a state
pub record Behind (σ τ : State) : Type 0 where
  pub rest : List Node
  pub nodes_are : τ.nodes ≡ σ.nodes ++ rest
  pub sorts_stay : (id : ℕ) → known id σ.sorts ≡ true → (known id τ.sorts ≡ true) × (at id τ.sorts ≡ at id σ.sorts)

behind_self : (σ : State) → Behind σ σ
behind_self σ = record { rest = []; nodes_are = sym (append-nil σ.nodes); sorts_stay = λ id k. (k, refl) }

behind_on : {σ τ υ : State} → Behind σ τ → Behind τ υ → Behind σ υ
behind_on {σ} {τ} {υ} a b =
    record {
      rest = a.rest ++ b.rest;
      nodes_are = b.nodes_are ∙ rw a.nodes_are (append_assoc σ.nodes a.rest b.rest);
      sorts_stay = λ id k. let p = a.sorts_stay id k in let q = b.sorts_stay id p.0 in (q.0, q.1 ∙ p.1);
    }

behind_added : (σ : State) (ts : List Token) (k : ℕ) (m : Makes) → Role k m → k ≡ number_of (token ts 1) → Behind σ (added σ (item ts) m)
behind_added σ ts k m r q =
    record { rest = new_nodes σ (item ts); nodes_are = added_nodes σ ts k m r q; sorts_stay = added_sorts σ (item ts) m }

behind_line : (σ : State) (ts : List Token) → Behind σ (after_line σ ts)
unfolding after_line after item item_of
behind_line σ [] = behind_self σ
behind_line σ (t ∷ ts) = behind_added σ (t ∷ ts) (number_of (token (t ∷ ts) 1)) (shape (word_of (number_of (token (t ∷ ts) 1)))).makes (role (number_of (token (t ∷ ts) 1))) refl

behind : (room : ℕ) (ls : List (List ℕ)) (σ τ : State) (k : ℕ) → convert_from room σ k ls ≡ converted τ → Behind σ τ
unfolding convert_from
behind room [] σ τ k e = let f : σ ≡ τ = cc in rw (← f) (behind_self σ)
behind room (l ∷ ls) σ τ k e =
    let p = passed_line room σ τ k l ls e in
    behind_on (behind_line σ (tokens l)) (behind room ls (after_line σ (tokens l)) τ (suc k) p.1)

-- the demands of the whole text
met_from : (gives : Gives) → Kinds gives → (vs : List ℕ) (τ : State) → Evaluated gives τ.nodes vs → Fine τ
    → Fitting (variable_widths τ.nodes) (inputs_of τ.nodes vs) → (room : ℕ) (ls done : List (List ℕ)) (σ : State) (W : World) (k : ℕ)
    → Reached room done σ → convert_from room σ k ls ≡ converted τ → Tied τ.nodes vs σ W
    → AllOne (tell W ls).demands ↔ AllOne (map (λ r. get_or vs r 0) τ.roots)
unfolding tell convert_from
met_from gives G vs τ E F Ft room [] done σ W k r e D = let f : σ ≡ τ = cc in rw (← f) D.demands_tied
met_from gives G vs τ E F Ft room (l ∷ ls) done σ W k r e D =
    let p = passed_line room σ τ k l ls e in
    let b = behind room ls (after_line σ (tokens l)) τ (suc k) p.1 in
    met_from gives G vs τ E F Ft room ls (done ++ l ∷ []) (after_line σ (tokens l)) (tell_line W (tokens l)) (suc k) (more l r p.0) p.1
    (line_on gives G τ.nodes vs E F.built Ft D l (tokens l) refl r p.0 b.rest b.nodes_are)

pub text_met : (gives : Gives) → Kinds gives → (room : ℕ) (text : List ℕ) (τ : State) → outcome room text ≡ converted τ → (vs : List ℕ) → Evaluated gives τ.nodes vs
    → Fitting (variable_widths τ.nodes) (inputs_of τ.nodes vs) → Met text (inputs_of τ.nodes vs) ↔ AllOne (map (λ r. get_or vs r 0) τ.roots)
unfolding Met world outcome
text_met gives G room text τ o vs E Ft = by (ltb room 9) refl
  where
    by : (t : Bool) → ltb room 9 ≡ t → Met text (inputs_of τ.nodes vs) ↔ AllOne (map (λ r. get_or vs r 0) τ.roots)
    by true q = absurd (let z : ◌≡◌ {A = ℕ} 0 1 = cc in omega arith)
    by false q =
        let c : convert_from room start 1 (lines text) ≡ converted τ = rw q at o in
        met_from gives G vs τ E (reached_fine (outcome_reached room text τ o)) Ft room (lines text) [] start _ 1 begin c (start_tied τ.nodes vs)

-- ---- widths of the inputs

widths_past : (ms ns : List Node) → NoVariable ms → variable_widths (ms ++ ns) ≡ variable_widths ns
unfolding NoVariable variable_widths
widths_past [] ns n = refl
widths_past (m ∷ ms) ns n = by m.kind n.0 (widths_past ms ns n.1)
  where
    by : (k : ℕ) → (k ≡ 0 → ⊥) → variable_widths (ms ++ ns) ≡ variable_widths ns
        → by_kind k (m.width ∷ variable_widths (ms ++ ns)) (variable_widths (ms ++ ns)) (variable_widths (ms ++ ns)) ≡ variable_widths ns
    by zero n h = absurd (n refl)
    by (suc zero) n h = h
    by (suc (suc k)) n h = h

-- of a line that passes, with what comes behind it
module _ {room : ℕ} {ls : List (List ℕ)} {σ : State} (ts : List Token) (S : Sound ls σ) (P : Passes room σ ts) (τ : State) (rest : List Node)
    (en : τ.nodes ≡ (σ.nodes ++ new_nodes σ (item ts)) ++ rest) (stay : (id : ℕ) → known id σ.sorts ≡ true → at id τ.sorts ≡ at id σ.sorts) where
  dropped : drop (length σ.nodes) τ.nodes ≡ new_nodes σ (item ts) ++ rest
  dropped = rw (en, append_assoc σ.nodes (new_nodes σ (item ts)) rest) (drop-append_seam σ.nodes (new_nodes σ (item ts) ++ rest))

  role_widths : (k : ℕ) (m : Makes) → Role k m → k ≡ number_of (token ts 1) → k < 28 → (sort_unknown m (item ts).sort σ.sorts ≡ false) → (ws : List ℕ) → variable_widths rest ≡ ws
      → variable_widths (drop (length σ.nodes) τ.nodes) ≡ widths_by τ.sorts (item ts) m ws
  unfolding widths_by variable_widths
  role_widths k m makes_sort q h u ws e = rw (dropped, sort_none σ ts (sym q)) e
  role_widths k m makes_input q h u ws e = rw (dropped, input_nodes σ ts (sym q), e, stay (item ts).sort (not-false _ u))
  role_widths k m (makes_a_value a b) q h u ws e =
      rw dropped (widths_past (new_nodes σ (item ts)) rest (value_constant σ ts (item_value ts k q (role_value k a b))) ∙ e)
  role_widths k m (makes_a_root a) q h u ws e =
      let z : number_of (token ts 1) ≡ 27 = omega arith in
      rw dropped (widths_past (new_nodes σ (item ts)) rest (root_constant σ ts z) ∙ e)

  pub line_widths : (ws : List ℕ) → variable_widths rest ≡ ws → variable_widths (drop (length σ.nodes) τ.nodes) ≡ widths_by τ.sorts (item ts) (item ts).makes ws
  unfolding item item_of
  line_widths ws e = role_widths (number_of (token ts 1)) _ (role (number_of (token ts 1))) refl P.form.listed P.sort_known ws e

after_sorts : (σ : State) (ts : List Token) (id : ℕ) → known id σ.sorts ≡ true → (known id (after σ (item ts)).sorts ≡ true) × (at id (after σ (item ts)).sorts ≡ at id σ.sorts)
unfolding after
after_sorts σ ts id h = added_sorts σ (item ts) (item ts).makes id h

by_tokens : (room : ℕ) (τ σ : State) (ts : List Token) {done : List (List ℕ)} → Reached room done σ → line_fault room σ ts ≡ 0 → Behind (after_line σ ts) τ → (lss : List (List Token))
    → variable_widths (drop (length (after_line σ ts).nodes) τ.nodes) ≡ input_widths τ.sorts lss
    → variable_widths (drop (length σ.nodes) τ.nodes) ≡ input_widths τ.sorts (ts ∷ lss)
unfolding after_line input_widths
by_tokens room τ σ [] r f b lss h = h
by_tokens room τ σ (t ∷ ts) r f b lss h =
    let n : τ.nodes ≡ (σ.nodes ++ new_nodes σ (item (t ∷ ts))) ++ b.rest = b.nodes_are ∙ rw (after_nodes σ (t ∷ ts)) in
    let d : drop (length (after σ (item (t ∷ ts))).nodes) τ.nodes ≡ b.rest = rw b.nodes_are (drop-append_seam (after σ (item (t ∷ ts))).nodes b.rest) in
    line_widths (t ∷ ts) (reached_sound r) (passes room σ t ts f) τ b.rest n (λ id k. let a = after_sorts σ (t ∷ ts) id k in (b.sorts_stay id a.0).1 ∙ a.1) (input_widths τ.sorts lss) (rw d at h)

widths_from : (room : ℕ) (τ : State) (ls done : List (List ℕ)) (σ : State) (k : ℕ) → Reached room done σ → convert_from room σ k ls ≡ converted τ
    → variable_widths (drop (length σ.nodes) τ.nodes) ≡ input_widths τ.sorts (map tokens ls)
unfolding convert_from input_widths variable_widths
widths_from room τ [] done σ k r e = let f : σ ≡ τ = cc in rw (← f, drop-length σ.nodes)
widths_from room τ (l ∷ ls) done σ k r e =
    let p = passed_line room σ τ k l ls e in
    by_tokens room τ σ (tokens l) r p.0 (behind room ls (after_line σ (tokens l)) τ (suc k) p.1) (map tokens ls)
    (widths_from room τ ls (done ++ l ∷ []) (after_line σ (tokens l)) (suc k) (more l r p.0) p.1)

pub text_widths : (room : ℕ) (text : List ℕ) (τ : State) → outcome room text ≡ converted τ → variable_widths τ.nodes ≡ input_widths τ.sorts (map tokens (lines text))
unfolding outcome
text_widths room text τ o = by (ltb room 9) refl
  where
    by : (t : Bool) → ltb room 9 ≡ t → variable_widths τ.nodes ≡ input_widths τ.sorts (map tokens (lines text))
    by true q = absurd (let z : ◌≡◌ {A = ℕ} 0 1 = cc in omega arith)
    by false q = widths_from room τ (lines text) [] start 1 begin (rw q at o)
