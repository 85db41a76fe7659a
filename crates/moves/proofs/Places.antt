-- What the loops of a walk, a move and a run take from the definitions, at places of the tape.
use Rattle.std.specs.Prelude.{Option, None, Some}
use mathlib.Core.Path.{◌≡◌, sym, ap, ap₂, ◌∙◌, subst}
use mathlib.Core.List.{List, [], ◌∷◌, ◌++◌}
use Prim.Native.Nat.{ℕ, zero, suc, ◌+◌, ◌*◌, ◌-◌, ◌%◌, ◌≤◌, ◌<◌}
use native.Mathlib.Omega.{arith}
use native.Mathlib.Nat.{not-suc-le-zero, add-zero}
use native.Mathlib.Decide.{ℕ_discrete}
use lib.ListN.{length, get_or, drop, length-drop, length-append, get_or-append}
use lib.Seq.{get_or-drop, drop-drop, get_or-append_seam}
use Rattle.words.specs.laws.Agree.{agrees_lt}
use Rattle.operators.specs.Table.{shape_of}
use Rattle.problem.specs.declared.layout.Node.{Node}
use Rattle.problem.specs.Layout.{node_at, width_at, root_at}
use Rattle.picking.specs.declared.spot.Spot.{Spot}
use Rattle.picking.specs.declared.spot.Three.{Three}
use Rattle.picking.specs.Spot.{at}
use Rattle.nodes.specs.Problem.{Prob, problem, three, count, arg, Variable, spot_of, spot}
use Rattle.nodes.specs.laws.Positions.{three_same, past_three}
use Rattle.evaluation.specs.Lists.{Lists, Lists.done, Lists.keep, Lists.skip}
use Rattle.moves.specs.Step.{Out, goes, Step}
use Rattle.moves.specs.Moves.{End, sets, stuck, short, Walk, Walk.arrives, Walk.unserved, Walk.stops, Walk.onward, Unsatisfied, Move, Move.no_word, Move.from_root}
use Rattle.nodes.specs.inner.Good.{Good}
use Rattle.nodes.specs.laws.Good.{good_of}
use Rattle.nodes.specs.laws.Nodes.{operand_node}
use Rattle.nodes.specs.laws.Pairs.{pairs_ternary}
use Rattle.nodes.specs.laws.Spot.{spot_fair}
use Rattle.evaluation.specs.laws.Lists.{lists_unique}
use Rattle.evaluation.specs.inner.Lists.{Count}
use Rattle.moves.specs.inner.Moves.{Aimed, out_of, Stepping, Searching, Nth, prob_in}
use Rattle.nodes.specs.inner.Good.{Held}
use Rattle.moves.specs.declared.view.Prepared.{Prepared}
use Rattle.moves.specs.laws.Moves.{Next, step_next, root_aimed}
use Rattle.nodes.specs.inner.Nodes.{ids, OperandsBelow, held_in, widths_in, Filled, Spotted, spot_in}

-- ---- the tape, by places

module _ (tape : List ℕ) (k : ℕ) where
  first_word : get_or (drop k tape) 0 0 ≡ get_or tape k 0
  first_word = get_or-drop k tape 0 0 ∙ ap (λ (i : ℕ). get_or tape i 0) (add-zero k)

  second_word : get_or (drop k tape) 1 0 ≡ get_or tape (k + 1) 0
  second_word = get_or-drop k tape 1 0

  left : length (drop k tape) ≡ length tape - k
  left = length-drop k tape

-- ---- a node as a step sees it

-- variables and constants have no positions
inner_kind : (k : ℕ) → 0 < (shape_of k).operands → 2 ≤ k
inner_kind zero h = absurd (not-suc-le-zero h)
inner_kind (suc zero) h = absurd (not-suc-le-zero h)
inner_kind (suc (suc k)) h = omega arith

module _ (s los his vs : List ℕ) (n : ℕ) where
  -- the node with its operands' pairs
  abbrev seen : Three → Three → Spot
  seen lo hi =
      let S : Spot = spot (problem s) vs n in
      record { kind = S.kind; width = S.width; low = S.low; widths = S.widths; los = lo; his = hi; current = S.current }

  spot_is : Filled s los his → n < (problem s).nodes → spot_in s los his vs (node_at s n) ≡ spot (problem s) vs n
  unfolding spot_in spot_of problem held_in widths_in width_at three
  spot_is f l =
      let inside : (i : ℕ) → i < count (problem s) n → arg (problem s) n i < (problem s).nodes =
      operand_node (problem s) (good_of s f.accepted) n l in
      ap₂ seen
      (three_same (count (problem s) n) _ _ (λ i h. f.lo (arg (problem s) n i) (inside i h)))
      (three_same (count (problem s) n) _ _ (λ i h. f.hi (arg (problem s) n i) (inside i h)))

  module _ (W : Searching s los his vs) (l : n < (problem s).nodes) where
    good : Good (problem s)
    good = good_of s W.filled.accepted

    pub spotted : Spotted los his vs (node_at s n)
    unfolding problem
    spotted =
        let below : OperandsBelow (node_at s n) (problem s).nodes = λ i h. operand_node (problem s) good n l i h in
        record {
          below_lo = λ i h. omega (arith, below i h, W.filled.room_lo);
          below_hi = λ i h. omega (arith, below i h, W.filled.room_hi);
          below = λ i h. omega (arith, below i h, W.held.places);
        }

    pub stepping : (t : ℕ) → Aimed (problem s) n t → Stepping (spot (problem s) vs n) t
    unfolding spot_of
    stepping t a =
        record {
          fair = λ h. spot_fair (problem s) good vs W.held n l (inner_kind ((problem s).kind n) h);
          past = λ i h u. past_three (count (problem s) n) _ i h u ∙ sym (past_three (count (problem s) n) _ i h u);
          target = agrees_lt ((problem s).width n) (pairs_ternary (problem s) good n l).short a;
        }

-- ---- a walk

-- where the loop of a walk is: at node n with target t, at a place of the tape, with so many steps made; and what a walk
-- from there comes to, the whole walk comes to
pub record On (s vs tape : List ℕ) (from start made n t k steps : ℕ) : Type 0 where
  pub node : n < (problem s).nodes
  pub aimed : Aimed (problem s) n t
  pub on_tape : k ≤ length tape
  pub few : steps ≤ k
  pub words : k + 2 * made ≡ start + 2 * steps
  pub onto : (r : End) → Walk (problem s) vs n t (drop k tape) steps r → Walk (problem s) vs from 1 (drop start tape) made r

-- what a view knows, of values that are held
pub searching : (r : Prepared) {vs : List ℕ} → Held (prob_in r) vs → Searching r.pairs.problem.bytes.now r.pairs.los.now r.pairs.his.now vs
searching r h = record { filled = r.pairs.filled; open_roots = r.open; held = h }

module _ {s vs tape : List ℕ} {from start made n t k steps : ℕ} (o : On s vs tape from start made n t k steps) {d : Node} (e : d ≡ node_at s n) where
  pub walk_arrives : d.kind ≡ 0 → Walk (problem s) vs from 1 (drop start tape) made (sets n t steps (drop k tape))
  unfolding problem
  walk_arrives z = o.onto _ (arrives (rw e at z))

  pub stepping_in : {los his : List ℕ} {S : Spot} → Searching s los his vs → S ≡ spot_in s los his vs d → Stepping S t
  stepping_in {los} {his} W q = rw (q, e, spot_is s los his vs n W.filled o.node) (stepping s los his vs n W o.node t o.aimed)

  module _ (x : d.kind ≡ 0 → ⊥) where
    not_a_variable : Variable (problem s) n → ⊥
    unfolding problem
    not_a_variable z = x (ap (λ (d : Node). d.kind) e ∙ z)

    pub walk_short : length tape - k < 2 → Walk (problem s) vs from 1 (drop start tape) made short
    walk_short h = o.onto _ (unserved {ws = drop k tape} not_a_variable (omega (arith, left tape k)))

    -- the step that the code makes, which picks at position i what it found
    module _ {los his : List ℕ} (W : Searching s los his vs) {S : Spot} (q : S ≡ spot_in s los his vs d) (i : ℕ) (found : Option ℕ)
        (st : Step S t (get_or tape k 0) (get_or tape (k + 1) 0) (out_of i found)) (h : k + 2 ≤ length tape) where
      made_step : {p : Out} → out_of i found ≡ p → Step (spot (problem s) vs n) t (get_or (drop k tape) 0 0) (get_or (drop k tape) 1 0) p
      made_step z = rw (first_word tape k, second_word tape k, ← z, ← spot_is s los his vs n W.filled o.node, ← e, ← q) st

      pub walk_stuck : found ≡ None → Walk (problem s) vs from 1 (drop start tape) made (stuck (steps + 1) (drop (k + 2) tape))
      walk_stuck z =
          o.onto _
          (subst (λ (l : List ℕ). Walk (problem s) vs n t (drop k tape) steps (stuck (steps + 1) l)) (drop-drop 2 k tape)
          (stops {ws = drop k tape} not_a_variable (omega (arith, left tape k)) (made_step (ap (out_of i) z))))

      module _ {v m : ℕ} (z : found ≡ Some v) (a : m ≡ at (ids d) i) where
        is_arg : m ≡ arg (problem s) n i
        unfolding problem
        is_arg = rw e at a

        goes_on : Step (spot (problem s) vs n) t (get_or (drop k tape) 0 0) (get_or (drop k tape) 1 0) (goes i v)
        goes_on = made_step (ap (out_of i) z)

        next : Next (problem s) (good_of s W.filled.accepted) n i v
        next = step_next (problem s) (good_of s W.filled.accepted) vs o.node goes_on

        pub walk_below : m < n
        walk_below = rw is_arg next.below

        pub walk_on : On s vs tape from start made m v (k + 2) (steps + 1)
        walk_on =
            record {
              node = omega (arith, walk_below, o.node);
              aimed = rw is_arg next.aimed;
              on_tape = h;
              few = omega (arith, o.few);
              words = omega (arith, o.words);
              onto =
                  λ r w.
                  o.onto r
                  (onward {ws = drop k tape} not_a_variable (omega (arith, left tape k)) goes_on
                  (subst (λ (l : List ℕ). Walk (problem s) vs (arg (problem s) n i) v l (steps + 1) r) (sym (drop-drop 2 k tape))
                  (rw is_arg at w)));
            }

-- ---- counts

-- the k-th member stands at k in the list
nth_at :
    {A : ℕ → Type 0} {n : ℕ} {us : List ℕ} (k j : ℕ) → Count A j k → A j → Lists A n us → j < n → (k < length us) × (get_or us k 0 ≡ j)
nth_at k j m b done h = absurd (not-suc-le-zero h)
nth_at {A} k j m b (keep {n} {l} r a) h =
    elim (ℕ_discrete j n) [
      | yes e ↦
          let q : length l ≡ k = ap length (lists_unique (subst (λ (i : ℕ). Lists A i l) (sym e) r) m.lists) ∙ m.is in
          (simp length-append (omega arith), ap (λ (i : ℕ). get_or (l ++ (n ∷ [])) i 0) (sym q) ∙ get_or-append_seam l n [] 0 ∙ sym e)
      | no x ↦
          let w : (k < length l) × (get_or l k 0 ≡ j) = nth_at k j m b r (omega arith) in
          (simp length-append (omega arith), get_or-append l (n ∷ []) 0 k w.0 ∙ w.1)
    ]
nth_at {A} k j m b (skip {n} {l} r x) h = nth_at k j m b r (let ne : j ≡ n → ⊥ = λ e. x (subst A e b) in omega arith)

-- ---- a move

module _ (P : Prob) (vs : List ℕ) where
  module _ (tape : List ℕ) (k s : ℕ) where
    pub move_short : length tape ≤ k → Move P vs (drop k tape) s short
    move_short h = no_word (omega (arith, left tape k))

    pub move_root :
        {u j : ℕ} {r : End}
        → k < length tape
        → Count (Unsatisfied P vs) P.entries u
        → Nth (Unsatisfied P vs) P.entries (get_or tape k 0 % u) j
        → Walk P vs (P.root j) 1 (drop (k + 1) tape) s r
        → Move P vs (drop k tape) s r
    move_root {u} {j} {r} h c m w =
        let q : get_or c.list (get_or tape k 0 % u) 0 ≡ j = (nth_at (get_or tape k 0 % u) j m.before m.member c.lists m.inside).1 in
        from_root {r = r} c.list (omega (arith, left tape k)) c.lists (rw (first_word tape k, c.is, q, drop-drop 1 k tape) w)

-- a root is a node that 1 is a target of
pub move_from :
    {s los his vs : List ℕ} {j r : ℕ} → Searching s los his vs → j < (problem s).entries → r ≡ root_at s j → (r < (problem s).nodes) × Aimed (problem s) r 1
unfolding problem
move_from {s} {j = j} W h e =
    let g : Good (problem s) = good_of s W.filled.accepted in
    (rw e (g.root_below j h), rw e (root_aimed (problem s) g W.open_roots j h))

-- the walk that a move makes, from root entry j
module _ {s los his vs : List ℕ} (tape : List ℕ) (k : ℕ) {u made j r : ℕ} (W : Searching s los his vs) (c : Count (Unsatisfied (problem s) vs) (problem s).entries u)
    (m : Nth (Unsatisfied (problem s) vs) (problem s).entries (get_or tape k 0 % u) j) (e : r ≡ root_at s j) (h : k < length tape) where
  pub move_made : {d : End} → Walk (problem s) vs r 1 (drop (k + 1) tape) made d → Move (problem s) vs (drop k tape) made d
  unfolding problem
  move_made w = move_root (problem s) vs tape k made h c m (rw e at w)
