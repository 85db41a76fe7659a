-- The bytes of a state as the search evaluates them: their nodes' values are those of the state's nodes.
use Rattle.std.specs.Prelude.{◌≡◌, refl, List, [], ◌∷◌, map, ◌↔◌, ℕ, zero, suc, ◌-◌, ◌^◌, ◌≤◌, ◌<◌, drop}
use Rattle.std.proofs.Math.Path.{sym, ap}
use Rattle.std.proofs.Common.{◌∙◌}
use native.Mathlib.Omega.{arith}
use Rattle.std.proofs.Math.Pow.{ones_lt}
use Rattle.std.proofs.Math.ListN.{length, get_or}
use Rattle.words.specs.Agree.{Agrees}
use Rattle.words.specs.laws.Agree.{agrees_lt}
use Rattle.operators.specs.Meaning.{meaning}
use Rattle.operators.specs.Table.{kind_of, shape_of}
use Rattle.operators.specs.laws.Meaning.{meaning_known}
use Rattle.problem.specs.declared.layout.Node.{Node}
use Rattle.problem.specs.Layout.{root_count, width_at, root_at}
use Rattle.nodes.specs.Problem.{by_kind, problem, value_of}
use Rattle.nodes.specs.Values.{VariablesAgree}
use Rattle.nodes.specs.Values as run
use Rattle.nodes.specs.laws.Nodes.{Which, variable, constant, inner, which, kind_own, kind_constant, kind_inner}
use Rattle.nodes.specs.laws.Readings.{gives_value, value_of_constant}
use Rattle.spelling.specs.Nodes.{variable_node, invert}
use Rattle.btor2.specs.Conversion.{State, bytes_of}
use Rattle.btor2.specs.Meaning.{AllOne}
use Rattle.btor2.specs.Inputs.{inputs_of, variable_widths}
use Rattle.btor2.specs.inner.Values.{node_value, Evaluated, Fitting}
use Rattle.btor2.specs.laws.Given.{search_gives}
use Rattle.btor2.specs.laws.Built.{Built, is_variable, is_a_constant, is_not, is_of_both, is_a_test, is_choice, is_sum, is_part, is_signs, AllBuilt}
use Rattle.btor2.specs.laws.Fine.{Fine}
use Rattle.btor2.specs.laws.Bytes.{nodes_told, roots_told}
use Rattle.btor2.specs.laws.Accepted.{both_kinds, test_kinds, read_at, told_width, facts_at, root_in_place}

-- ---- variables are free

not_a_variable : (k : ℕ) → 2 ≤ k → k ≡ 0 → ⊥
not_a_variable k l e = omega arith

-- a node of kind 0 is a variable whose bits are all free
pub built_free : {ns : List Node} {i : ℕ} {m : Node} → Built ns i m → m.kind ≡ 0 → m ≡ variable_node m.width
built_free (is_variable l g) e = refl
built_free (is_a_constant l g f) e = absurd (omega arith)
built_free (is_not l g ai w) e = absurd (omega arith)
built_free (is_of_both {k} t l g ai bi wa wb) e =
    absurd (not_a_variable k (both_kinds (λ (x : ℕ). 2 ≤ x) k t (omega arith) (omega arith) (omega arith) (omega arith) (omega arith) (omega arith) (omega arith)) e)
built_free (is_a_test {k} t ew ai bi w) e = absurd (not_a_variable k (test_kinds (λ (x : ℕ). 2 ≤ x) k t (omega arith) (omega arith) (omega arith)) e)
built_free (is_choice l g ai bi ci wa wb wc) e = absurd (omega arith)
built_free (is_sum l g ai bi w) e = absurd (omega arith)
built_free (is_part l g ai w f) e = absurd (omega arith)
built_free (is_signs l g ai w) e = absurd (omega arith)

-- ---- values that fit

one_on : (vs : List ℕ) (i : ℕ) → get_or vs (suc i) 0 ≡ get_or (drop 1 vs) i 0
one_on [] zero = refl
one_on [] (suc i) = refl
one_on (v ∷ vs) i = refl

pub all_fitting : (ns : List Node) (vs : List ℕ) → ((i : ℕ) → i < length ns → (get_or ns i (invert 0 0)).kind ≡ 0 → get_or vs i 0 < 2 ^ (get_or ns i (invert 0 0)).width)
    → Fitting (variable_widths ns) (inputs_of ns vs)
unfolding Fitting variable_widths inputs_of
all_fitting [] vs f = tt
all_fitting (n ∷ ns) vs f =
    by n.kind (f 0 (omega arith)) (all_fitting ns (drop 1 vs) (λ i h e. rw (one_on vs i) at (f (suc i) (omega arith) e)))
  where
    by : (k : ℕ) → (k ≡ 0 → get_or vs 0 0 < 2 ^ n.width) → Fitting (variable_widths ns) (inputs_of ns (drop 1 vs))
        → Fitting (by_kind k (n.width ∷ variable_widths ns) (variable_widths ns) (variable_widths ns)) (by_kind k (get_or vs 0 0 ∷ inputs_of ns (drop 1 vs)) (inputs_of ns (drop 1 vs)) (inputs_of ns (drop 1 vs)))
    by zero h r = (h refl, r)
    by (suc zero) h r = r
    by (suc (suc k)) h r = r

-- ---- roots

one_each : (f : ℕ → ℕ) (rs : List ℕ) → AllOne (map f rs) ↔ ((j : ℕ) → j < length rs → f (get_or rs j 0) ≡ 1)
unfolding AllOne
one_each f [] = (λ a j h. absurd (omega arith), λ a. tt)
one_each f (r ∷ rs) = (λ a. there a.0 ((one_each f rs).0 a.1), λ a. (a 0 (omega arith), (one_each f rs).1 (λ j h. a (suc j) (omega arith))))
  where
    there : f r ≡ 1 → ((j : ℕ) → j < length rs → f (get_or rs j 0) ≡ 1) → (j : ℕ) → j < suc (length rs) → f (get_or (r ∷ rs) j 0) ≡ 1
    there e more zero h = e
    there e more (suc j) h = more j (omega arith)

-- ---- the bytes of a state

module _ (σ : State) (F : Fine σ) (fn : length σ.nodes ≤ 1024) (fr : length σ.roots ≤ 256) (vs : List ℕ) where
  abbrev s : List ℕ
  s = bytes_of σ

  abbrev node : ℕ → Node
  node i = get_or σ.nodes i (invert 0 0)

  pub roots_one : AllOne (map (λ r. get_or vs r 0) σ.roots) ↔ ((j : ℕ) → j < root_count s → get_or vs (root_at s j) 0 ≡ 1)
  roots_one =
      let e = one_each (λ r. get_or vs r 0) σ.roots in (
        λ a j h. let l : j < length σ.roots = rw (roots_told σ fn fr) at h in rw (root_in_place σ F fn fr j l) (e.0 a j l),
        λ a. e.1 (λ j h. rw (root_in_place σ F fn fr j h) at (a j (rw (roots_told σ fn fr) h))),
      )

  pub agree_fits : VariablesAgree (problem s) vs → Fitting (variable_widths σ.nodes) (inputs_of σ.nodes vs)
  unfolding VariablesAgree problem AllBuilt
  agree_fits A = all_fitting σ.nodes vs (λ i h e. fits i h e)
    where
      fits : (i : ℕ) → i < length σ.nodes → (node i).kind ≡ 0 → get_or vs i 0 < 2 ^ (node i).width
      fits i h e =
          let r = read_at σ F fn fr i h in
          let a : Agrees (node i).lo (node i).hi (get_or vs i 0) = rw r at (A i (rw (nodes_told σ fn fr) h) (rw r e)) in
          let v : node i ≡ variable_node (node i).width = built_free (F.built i h) e in
          let y : (node i).hi ≡ 2 ^ (node i).width - 1 = ap (λ (n : Node). n.hi) v in
          agrees_lt (node i).width (rw y (ones_lt (node i).width)) a

  -- a node's value in the search is that of the state's node
  valued_as : (k : ℕ) → k < length σ.nodes → Which (node k).kind → get_or vs k 0 ≡ value_of (problem s) vs k
      → get_or vs k 0 ≡ node_value search_gives σ.nodes vs (node k) (get_or vs k 0)
  unfolding node_value
  valued_as k h (variable e) E = sym (kind_own (node k).kind _ _ _ e)
  valued_as k h (constant e) E =
      let r = read_at σ F fn fr k h in
      let c : (node k).lo ≡ value_of (problem s) vs k = rw r at (value_of_constant s vs k (rw r e)) in
      E ∙ sym c ∙ sym (kind_constant (node k).kind _ _ _ e)
  valued_as k h (inner l) E =
      let r = read_at σ F fn fr k h in
      let m = node k in
      let a : 0 < (shape_of m.kind).operands → m.a < k = rw r at (facts_at σ F fn fr k h).a_below in
      let b : 1 < (shape_of m.kind).operands → m.b < k = rw r at (facts_at σ F fn fr k h).b_below in
      let g : meaning (kind_of m.kind) m.width (width_at s m.a) (width_at s m.b) m.b (get_or vs m.a 0) (get_or vs m.b 0) (get_or vs m.c 0) ≡ value_of (problem s) vs k =
      rw r at (gives_value s vs k (rw r l)) in
      E
      ∙ sym g
      ∙ meaning_known (kind_of m.kind) _ _ _ _ _ _ _ _ _ _ _ _
      (record {
        a = λ z. (told_width σ F fn fr m.a (before (a z) h), refl);
        b = λ z. (told_width σ F fn fr m.b (before (b z) h), refl);
        c = λ z. refl;
      })
      ∙ sym (kind_inner m.kind _ _ _ l)
    where
      before : {x y n : ℕ} → x < y → y < n → x < n
      before p q = omega arith

  pub nodes_evaluated : run.Evaluated (problem s) vs → Evaluated search_gives σ.nodes vs
  unfolding run.Evaluated Evaluated problem
  nodes_evaluated E k h = valued_as k h (which (node k).kind) (E k (rw (nodes_told σ fn fr) h))
