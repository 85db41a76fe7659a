-- What the code's readings of a node have to do with the definitions.
use Rattle.std.specs.Prelude.{◌≡◌, true, ltb, leb, length}
use Rattle.std.proofs.Math.Path.{refl, sym}
use Rattle.std.proofs.Common.{ap, ◌∙◌, subst, arith, leb→le, ltb-true}
use mathlib.Core.List.{List, []}
use Prim.Native.Nat.{ℕ, zero, suc, ◌+◌, ◌*◌, ◌^◌, ◌≤◌, ◌<◌}
use Rattle.std.proofs.Math.Decide.{dec_lt}
use Rattle.std.proofs.Math.ListN.{get_or}
use Rattle.operators.specs.Table.{kind_count, kinds, kind_of, shape, shape_of}
use Rattle.operators.specs.Meaning.{meaning}
use Rattle.operators.specs.laws.Meaning.{fit_used, meaning_known}
use Rattle.fixed.specs.declared.Pair.{Pair}
use Rattle.fixed.specs.Fixed.{pair}
use Rattle.operators.specs.inner.Ready.{Ready}
use Rattle.fixed.specs.inner.Pairs.{Ternary}
use Rattle.problem.specs.declared.layout.Node.{Node}
use Rattle.picking.specs.declared.spot.Three.{Three}
use Rattle.picking.specs.Spot.{at}
use Rattle.problem.specs.Layout.{node_at, width_at, root_at}
use Rattle.problem.specs.Refusals.{Accepted, checked}
use Rattle.problem.specs.laws.Facts.{accepted_facts, node_inside}
use Rattle.nodes.specs.Problem.{Prob, Pairs, three, problem, arg, spot_of, value_of, pair_at, fill_up, pairs, pair_hi}
use Rattle.picking.specs.laws.Positions.{every_kind, few_positions}
use Rattle.nodes.specs.laws.Positions.{at_three}
use Rattle.nodes.specs.inner.Good.{Good, GoodNode}
use Rattle.nodes.specs.laws.Nodes.{value_own, value_constant, value_operator, pair_own, pair_operator, pair_in}
use Rattle.nodes.specs.laws.Pairs.{Room, length_fill_up, fill_up_ternary, pairs_filled}
use Rattle.nodes.specs.laws.Spot.{spot_pairs_ready}
use Rattle.nodes.specs.inner.Nodes.{ids, OperandsBelow, held_in, widths_in, operator_in, Readable, standing_op, Evaluable, pairs_of, derives, Narrowed, Fillable, Unfilled, Fills, Filled}
use Rattle.nodes.specs.laws.Good.{good_of}

-- a position that the code's test finds there
pub there_below :
    (n : Node) {k c : ℕ}
    → OperandsBelow n k
    → c ≡ (shape_of n.kind).operands
    → (i : ℕ)
    → ltb i c ≡ true
    → at (ids n) i < k
there_below n {c = c} p e i t = p i (rw e at (ltb-true i c t))

-- a position that is neither the first nor the second
pub at_third : (x : Three) (i : ℕ) → (i ≡ 0 → ⊥) → (i ≡ 1 → ⊥) → x.c ≡ at x i
at_third x zero n m = absurd (n refl)
at_third x (suc zero) n m = absurd (m refl)
at_third x (suc (suc i)) n m = refl

-- ---- node i of an accepted problem

-- a kind uses at most two fields for each of its operands, so none where it has no operand
few_fields : (k : ℕ) → (shape_of k).fields ≤ 2 * (shape_of k).operands
few_fields k = leb→le _ _ (every_kind (λ o. leb (shape o).fields (2 * (shape o).operands)) kinds tt k)

module _ (s vs : List ℕ) (i : ℕ) where
  abbrev n : Node
  n = node_at s i

  abbrev positions : ℕ
  positions = (shape_of (node_at s i).kind).operands

  -- its field a is the id of a node: an operand's, or 0
  pub first_inside : checked s ≡ Accepted → Evaluable s vs i → (node_at s i).a < (problem s).nodes
  unfolding problem
  first_inside a v =
      let f = (accepted_facts s a).node i v.inside in
      let few = few_fields n.kind in
      elim (dec_lt 0 positions) [
        | yes h ↦ omega (arith, f.a_below h, v.inside)
        | no x ↦ omega (arith, f.a_unused (omega arith), v.inside)
      ]

  -- what stands at the positions that it has
  stands : (f : ℕ → ℕ) (j : ℕ) → j < (shape_of (node_at s i).kind).operands → f (at (ids (node_at s i)) j) ≡ at (three (shape_of (node_at s i).kind).operands (λ k. f (at (ids (node_at s i)) k))) j
  stands f j h = sym (at_three positions (λ k. f (at (ids n) k)) j h (few_positions n.kind))

  -- its kind is one of the table
  pub kind_there : checked s ≡ Accepted → Evaluable s vs i → (node_at s i).kind < kind_count
  unfolding problem
  kind_there a v = ((accepted_facts s a).node i v.inside).kind_known

  -- its operator can be put to work on what its operands hold
  pub held_ready :
      checked s ≡ Accepted
      → Evaluable s vs i
      → 2 ≤ (node_at s i).kind
      → Ready (standing_op s (node_at s i)) (held_in vs (node_at s i)).a (held_in vs (node_at s i)).b (held_in vs (node_at s i)).c
  unfolding problem width_at held_in
  held_ready ok v k =
      let g : Good (problem s) = good_of s ok in
      let here = g.node i v.inside in
      let fits : (j : ℕ) → j < positions → at (held_in vs n) j < 2 ^ (node_at s (at (ids n) j)).width =
      λ j h. rw (at_three positions (λ k. get_or vs (at (ids n) k) 0) j h (few_positions n.kind)) (v.narrow (at (ids n) j) (here.below j h)) in
      record {
        operator = k;
        known = here.known;
        some = here.some;
        wide = here.wide;
        fit = fit_used (kind_of n.kind) _ _ _ _ _ _ _ _ ((accepted_facts s ok).node i v.inside).rule
            (λ h. let a = g.node n.a (first_inside ok v) in (a.some, a.wide))
            (record { a = fits 0; b = fits 1; c = fits 2 });
      }

  -- and what it gives is the node's value
  pub held_value :
      2 ≤ (node_at s i).kind
      → meaning (kind_of (node_at s i).kind) (node_at s i).width (width_at s (node_at s i).a) (width_at s (node_at s i).b) (node_at s i).b
      (held_in vs (node_at s i)).a (held_in vs (node_at s i)).b (held_in vs (node_at s i)).c
      ≡ value_of (problem s) vs i
  unfolding problem width_at held_in
  held_value k =
      meaning_known (kind_of n.kind) _ _ _ _ _ _ _ _ _ _ _ _
      (record { a = λ h. (stands (λ m. (node_at s m).width) 0 h, refl); b = λ h. (stands (λ m. (node_at s m).width) 1 h, refl); c = λ h. refl })
      ∙ sym (value_operator (problem s) i vs k)

  -- the same by its fields
  pub gives_value :
      2 ≤ (node_at s i).kind
      → meaning (kind_of (node_at s i).kind) (node_at s i).width (width_at s (node_at s i).a) (width_at s (node_at s i).b) (node_at s i).b
      (get_or vs (node_at s i).a 0) (get_or vs (node_at s i).b 0) (get_or vs (node_at s i).c 0)
      ≡ value_of (problem s) vs i
  unfolding held_in
  gives_value k =
      let u : ℕ → ℕ = λ m. get_or vs m 0 in
      meaning_known (kind_of n.kind) _ _ _ _ _ _ _ _ _ _ _ _
      (record { a = λ h. (refl, stands u 0 h); b = λ h. (refl, stands u 1 h); c = stands u 2 })
      ∙ held_value k

  pub own_value : (node_at s i).kind ≡ 0 → get_or vs i 0 ≡ value_of (problem s) vs i
  unfolding problem
  own_value k = sym (value_own (problem s) i vs k)

  pub value_of_constant : (node_at s i).kind ≡ 1 → (node_at s i).lo ≡ value_of (problem s) vs i
  unfolding problem
  value_of_constant k = sym (value_constant (problem s) i vs k)

-- ---- pairs

module _ (s los his : List ℕ) (i : ℕ) where
  abbrev both : Pairs
  both = pairs_of los his

  pub own_pair : (node_at s i).kind < 2 → pair (node_at s i).lo (node_at s i).hi ≡ pair_at (problem s) (pairs_of los his) i
  unfolding problem
  own_pair k = sym (pair_own (problem s) i both k)

  pub derives_pair : 2 ≤ (node_at s i).kind → derives s los his (node_at s i) ≡ pair_at (problem s) (pairs_of los his) i
  unfolding problem operator_in held_in widths_in width_at three
  derives_pair k = sym (pair_operator (problem s) i both k)

  -- the operator of node i can be put to work on the pairs below it
  pub narrowed : checked s ≡ Accepted → Fillable s los his i → 2 ≤ (node_at s i).kind → Narrowed s los his (node_at s i)
  unfolding problem spot_of operator_in held_in widths_in width_at three
  narrowed a f k =
      let P : Prob = problem s in
      let g : Good P = good_of s a in
      let here : GoodNode P i = g.node i f.inside in
      record {
        below_lo = λ j h. omega (arith, here.below j h, f.inside, f.room_lo);
        below_hi = λ j h. omega (arith, here.below j h, f.inside, f.room_hi);
        ready = spot_pairs_ready P g i f.inside k both [] (λ j b. f.ternary (arg P i j) (here.below j b));
      }

-- the pairs of all nodes are filled in, over what the lists held before
pub filled_all :
    (s los his los' his' : List ℕ) (i : ℕ)
    → i ≡ (problem s).nodes
    → pairs_of los' his' ≡ fill_up (problem s) i (pairs_of los his)
    → Fills s los his los' his'
filled_all s los his los' his' i n e = rw n at e

module _ (s los his : List ℕ) (a : checked s ≡ Accepted) (u : Unfilled s los his) where
  abbrev before : Pairs
  before = pairs_of los his

  room : Room before (problem s).nodes
  room = (u.room_lo, u.room_hi)

  good : Good (problem s)
  good = good_of s a

  -- those of the first i nodes are
  pub fillable :
      (los' his' : List ℕ) (i : ℕ)
      → pairs_of los' his' ≡ fill_up (problem s) i (pairs_of los his)
      → i < (problem s).nodes
      → Fillable s los' his' i
  fillable los' his' i e l =
      let long = length_fill_up (problem s) before i in
      record {
        room_lo = omega (arith, u.room_lo, ap (λ (w : Pairs). length w.los) e, long.0);
        room_hi = omega (arith, u.room_hi, ap (λ (w : Pairs). length w.his) e, long.1);
        inside = l;
        ternary =
            λ n h.
            subst (λ (w : Pairs). Ternary ((problem s).width n) (pair_in w n)) (sym e)
            (fill_up_ternary (problem s) good before room i (omega arith) n h);
      }

  -- those of all nodes are, and are the problem's
  pub filled : {los' his' : List ℕ} → Fills s los his los' his' → Filled s los' his'
  filled {los'} {his'} e =
      let long = length_fill_up (problem s) before (problem s).nodes in
      let same : (n : ℕ) → n < (problem s).nodes → pair_in (pairs_of los' his') n ≡ pair_in (pairs (problem s)) n =
      λ n l. ap (λ (w : Pairs). pair_in w n) e ∙ pairs_filled (problem s) good before room n l in
      record {
        accepted = a;
        room_lo = omega (arith, u.room_lo, ap (λ (w : Pairs). length w.los) e, long.0);
        room_hi = omega (arith, u.room_hi, ap (λ (w : Pairs). length w.his) e, long.1);
        lo = λ n l. ap (λ (p : Pair). p.lo) (same n l);
        hi = λ n l. ap (λ (p : Pair). p.hi) (same n l);
      }

-- ---- roots

pub root_inside : (s : List ℕ) (j : ℕ) → checked s ≡ Accepted → j < (problem s).entries → root_at s j < (problem s).nodes
unfolding problem
root_inside s j a h = (good_of s a).root_below j h

pub root_hi :
    (s los his : List ℕ) (j r : ℕ)
    → Filled s los his
    → j < (problem s).entries
    → r ≡ root_at s j
    → get_or his r 0 ≡ pair_hi (problem s) ((problem s).root j)
unfolding problem
root_hi s los his j r f l e = ap (λ (m : ℕ). get_or his m 0) e ∙ f.hi (root_at s j) (root_inside s j f.accepted l)

-- the 24 bytes of node i are there
pub node_there : (s : List ℕ) (i : ℕ) → checked s ≡ Accepted → i < (problem s).nodes → 9 + 24 * i + 24 ≤ length s
unfolding problem
node_there s i a h = node_inside (accepted_facts s a) i h

-- ---- node i of an accepted problem, as it was read

module _ (s vs : List ℕ) (i : ℕ) {m : Node} (e : m ≡ node_at s i) (a : checked s ≡ Accepted) where
  -- its operands have lower ids
  pub operands_below : Evaluable s vs i → (j : ℕ) → j < (shape_of m.kind).operands → at (ids m) j < i
  unfolding problem
  operands_below v j h = rw e (((good_of s a).node i v.inside).below j (rw e at h))

  -- it has a width
  pub sized : Evaluable s vs i → (1 ≤ m.width) × (m.width ≤ 64)
  unfolding problem
  sized v = let g = (good_of s a).node i v.inside in rw e (g.some, g.wide)

  -- and the bytes of its operand a are there
  pub first_readable : Evaluable s vs i → Readable s m.a
  first_readable v = rw e (node_there s (node_at s i).a a (first_inside s vs i a v))
