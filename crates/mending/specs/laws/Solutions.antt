-- The mended file has the file's solutions, moved along the map: node for node and root for root, both ways.
use Rattle.std.specs.Prelude.{◌≡◌, List, ◌↔◌, ℕ, ◌≤◌, ◌<◌}
use Rattle.std.proofs.Math.Path.{sym, ap, subst}
use Rattle.std.proofs.Common.{◌∙◌, lt-ltb, le-ltb}
use Rattle.std.proofs.Math.ListN.{get_or}
use Rattle.words.specs.Agree.{Agrees}
use Rattle.operators.specs.Table.{kind_of}
use Rattle.operators.specs.Meaning.{meaning}
use Rattle.operators.specs.laws.Meaning.{meaning_alike}
use Rattle.problem.specs.declared.layout.Node.{Node}
use Rattle.problem.specs.Layout.{node_count, root_count, node_at, width_at, root_at}
use Rattle.problem.specs.inner.Facts.{HeaderFacts}
use Rattle.nodes.specs.Problem.{problem, value_of}
use Rattle.nodes.specs.Values.{Evaluated, VariablesAgree}
use Rattle.nodes.specs.laws.Nodes.{which, variable, constant, inner}
use Rattle.nodes.specs.laws.Readings.{own_value, value_of_constant, gives_value}
use Rattle.mending.specs.Order.{operands_of, field, old, new}
use Rattle.mending.specs.Mended.{renumbered, mended}
use Rattle.mending.specs.Solutions.{Solution}
use Rattle.mending.specs.inner.Order.{AllPlaced, Inside}
use Rattle.mending.specs.laws.Order.{old_lt, new_lt, old_new}
use Rattle.mending.specs.laws.Mended.{moved_node, mended_nodes, mended_roots, mended_node, mended_root}

-- a field that names an operand, and one that does not
module _ (s : List ℕ) (n : Node) (p : ℕ) where
  pub renumbered_operand : p < operands_of n → renumbered s n p ≡ new s (field n p)
  unfolding renumbered
  renumbered_operand h = rw (lt-ltb p (operands_of n) h)

  renumbered_other : operands_of n ≤ p → renumbered s n p ≡ field n p
  unfolding renumbered
  renumbered_other h = rw (le-ltb p (operands_of n) h)

-- what the operator of a node gives from the widths and values that stand at its fields
abbrev standing : List ℕ → List ℕ → Node → ℕ
standing s vs n =
    meaning (kind_of n.kind) n.width (width_at s n.a) (width_at s n.b) n.b (get_or vs n.a 0) (get_or vs n.b 0)
    (get_or vs n.c 0)

-- node i has its value, and a variable's agrees
record Holds (s vs : List ℕ) (i : ℕ) : Type 0 where
  value : get_or vs i 0 ≡ value_of (problem s) vs i
  agrees : (node_at s i).kind ≡ 0 → Agrees (node_at s i).lo (node_at s i).hi (get_or vs i 0)

module _ (s : List ℕ) (H : HeaderFacts s) (inside : Inside s) (all : AllPlaced s) where
  abbrev few : node_count s ≤ 1024
  few = H.nodes

  abbrev m : List ℕ
  m = mended s

  width_moved : (i : ℕ) → i < node_count s → width_at m (new s i) ≡ width_at s i
  unfolding width_at
  width_moved i h =
      ap (λ (n : Node). n.width) (mended_node s H few all (new s i) (new_lt s few all i h))
      ∙ ap (λ (o : ℕ). (node_at s o).width) (old_new s few all i h)

  -- ---- values vs of the file and us of the mended file, each old node's value at its new id
  module _ (vs us : List ℕ) (moved : (k : ℕ) → k < node_count s → get_or us k 0 ≡ get_or vs (old s k) 0) where
    value_moved : (i : ℕ) → i < node_count s → get_or us (new s i) 0 ≡ get_or vs i 0
    value_moved i h = moved (new s i) (new_lt s few all i h) ∙ ap (λ (o : ℕ). get_or vs o 0) (old_new s few all i h)

    -- an operand's width and value are found at its new id
    operand_moved :
        (i : ℕ)
        → i < node_count s
        → (p : ℕ)
        → p < operands_of (node_at s i)
        → (width_at m (renumbered s (node_at s i) p) ≡ width_at s (field (node_at s i) p))
        × (get_or us (renumbered s (node_at s i) p) 0 ≡ get_or vs (field (node_at s i) p) 0)
    unfolding Inside
    operand_moved i h p l =
        let e = renumbered_operand s (node_at s i) p l in
        let b = inside i h p l in (
          ap (width_at m) e ∙ width_moved (field (node_at s i) p) b,
          ap (λ (o : ℕ). get_or us o 0) e ∙ value_moved (field (node_at s i) p) b,
        )

    -- the operator of an old node gives the same from its renumbered operands
    standing_moved : (i : ℕ) → i < node_count s → standing m us (moved_node s (node_at s i)) ≡ standing s vs (node_at s i)
    standing_moved i h =
        meaning_alike (kind_of (node_at s i).kind) (node_at s i).width _ _ _ _ _ _ _ _ _ _ _ _
        (record { a = operand_moved i h 0; b = operand_moved i h 1; c = λ l. (operand_moved i h 2 l).1 })
        (λ l. renumbered_other s (node_at s i) 1 l)

    -- so a node's value by its equation is the old one's
    equation_moved : (k : ℕ) → k < node_count s → value_of (problem m) us k ≡ value_of (problem s) vs (old s k)
    equation_moved k h =
        let o = old s k in
        let e = mended_node s H few all k h in
        let same : (node_at m k).kind ≡ (node_at s (old s k)).kind = ap (λ (n : Node). n.kind) e in
        elim (which (node_at s (old s k)).kind) [
          | variable z ↦ sym (own_value m us k (same ∙ z)) ∙ moved k h ∙ own_value s vs (old s k) z
          | constant z ↦ sym (value_of_constant m us k (same ∙ z)) ∙ ap (λ (n : Node). n.lo) e ∙ value_of_constant s vs (old s k) z
          | inner l ↦
              sym (gives_value m us k (rw same l)) ∙ ap (standing m us) e ∙ standing_moved (old s k) (old_lt s few all k h)
              ∙ gives_value s vs (old s k) l
        ]

    holds_moved : (k : ℕ) → k < node_count s → Holds m us k ↔ Holds s vs (old s k)
    holds_moved k h =
        let e = mended_node s H few all k h in
        let q = moved k h in
        let v = equation_moved k h in (
          λ x. record { value = sym q ∙ x.value ∙ v; agrees = λ z. rw (e, q) at (x.agrees (rw e z)) },
          λ x. record { value = q ∙ x.value ∙ sym v; agrees = λ z. rw (e, q) (x.agrees (rw e at z)) },
        )

    root_moved : (j : ℕ) → j < root_count s → root_at s j < node_count s → get_or us (root_at m j) 0 ≡ get_or vs (root_at s j) 0
    root_moved j h l = ap (λ (o : ℕ). get_or us o 0) (mended_root s H few all j h) ∙ value_moved (root_at s j) l

    module _ (roots : (j : ℕ) → j < root_count s → root_at s j < node_count s) where
      to_mended : Solution s vs → Solution m us
      unfolding Evaluated VariablesAgree problem
      to_mended x =
          let each : (k : ℕ) → k < node_count m → Holds m us k =
          λ k h.
          let l : k < node_count s = rw (mended_nodes s H few all) at h in
          let o = old_lt s few all k l in
          (holds_moved k l).1 (record { value = x.evaluated (old s k) o; agrees = x.agrees (old s k) o }) in
          record {
            evaluated = λ k h. (each k h).value;
            agrees = λ k h. (each k h).agrees;
            all_one = λ j h. let l : j < root_count s = rw (mended_roots s H few all) at h in root_moved j l (roots j l) ∙ x.all_one j l;
          }

      from_mended : Solution m us → Solution s vs
      unfolding Evaluated VariablesAgree problem
      from_mended x =
          let each : (i : ℕ) → i < node_count s → Holds s vs i =
          λ i h.
          let k = new_lt s few all i h in
          let l : new s i < node_count m = rw (mended_nodes s H few all) k in
          subst (Holds s vs) (old_new s few all i h)
          ((holds_moved (new s i) k).0 (record { value = x.evaluated (new s i) l; agrees = x.agrees (new s i) l })) in
          record {
            evaluated = λ i h. (each i h).value;
            agrees = λ i h. (each i h).agrees;
            all_one = λ j h. sym (root_moved j h (roots j h)) ∙ x.all_one j (rw (mended_roots s H few all) h);
          }

      -- "The result has the same solutions"
      pub same_solutions : Solution s vs ↔ Solution m us
      same_solutions = (to_mended, from_mended)
