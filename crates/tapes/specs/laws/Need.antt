-- Laws of the steps that moves make: they are links of a chain, so 1 + 2H words serve a move whole, and B x (1 + 2H) a run.
use Rattle.std.specs.Prelude.{◌≡◌, Bool, true, ◌&&◌, List, [], ◌∷◌, T, leb, drop}
use Rattle.std.proofs.Math.Path.{refl, sym, subst}
use Rattle.std.proofs.Common.{ap, ◌∙◌, mod-lt, suc-mul, leb→le}
use Prim.Native.Nat.{ℕ, zero, suc, ◌+◌, ◌*◌, ◌%◌, ◌≤◌, ◌<◌}
use native.Mathlib.Omega.{arith}
use Rattle.std.specs.Float.Ieee.Fits.{and_l, and_r}
use Rattle.std.proofs.Math.ListN.{length, get_or, length-drop}
use Rattle.operators.specs.Table.{kind_count, Kind, variable as no_kind, kinds, shape, shape_of}
use Rattle.fixed.specs.declared.Pair.{Pair}
use Rattle.search.specs.declared.Answer.{Answer}
use Rattle.search.specs.Answers.{said}
use Rattle.nodes.specs.Problem.{Prob, arg, Variable, pair_lo, pair_hi}
use Rattle.moves.specs.Moves.{End, sets, stuck, short, Walk, Walk.arrives, Walk.unserved, Walk.stops, Walk.onward, Unsatisfied, AllOne, Move, Move.no_word, Move.from_root, ClosedRoot}
use Rattle.search.specs.Run.{Run, Run.model, Run.spent, Run.ended, Run.moved, Run.held}
use Rattle.nodes.specs.Values.{Evaluated}
use Rattle.evaluation.specs.Height.{Chain, Chain.ends, Chain.link, Longest}
use Rattle.nodes.specs.inner.Good.{Good, Held}
use Rattle.nodes.specs.laws.Nodes.{which, variable, constant, inner, value_constant}
use Rattle.nodes.specs.laws.Pairs.{pairs_own}
use Rattle.evaluation.specs.laws.Decide.{lists_member}
use Rattle.moves.specs.laws.Moves.{step_next, move_lands, move_spends, some_unsatisfied}
use Rattle.search.specs.laws.Runs.{kept_after, same_text}
use Rattle.tapes.specs.Steps.{steps, steps_of}

-- ---- the steps of a walk are links of a chain

-- the tape served the whole of it
abbrev Finished : End → Type 0
Finished (sets n v s ws) = Unit {0}
Finished (stuck s ws) = Unit {0}
Finished short = ⊥

-- the steps made so far in the run are t
abbrev Counts : ℕ → End → Type 0
Counts t (sets n v s ws) = s ≡ t
Counts t (stuck s ws) = s ≡ t
Counts t short = Unit {0}

-- a kind that is neither a variable nor a constant has an operand
abbrev all_some : List Kind → Bool
all_some [] = true
all_some (o ∷ os) = leb 1 (shape o).operands && all_some os

some_at : (os : List Kind) → T (all_some os) → (n : ℕ) → n < length os → 1 ≤ (shape (get_or os n no_kind)).operands
some_at [] h n l = absurd (omega arith)
some_at (o ∷ os) h zero l = leb→le _ _ (and_l (leb 1 (shape o).operands) (all_some os) h)
some_at (o ∷ os) h (suc n) l = some_at os (and_r (leb 1 (shape o).operands) (all_some os) h) n (omega arith)

inner_some : (k : ℕ) → 2 ≤ k → k < kind_count → 1 ≤ (shape_of k).operands
inner_some zero h l = absurd (omega arith)
inner_some (suc zero) h l = absurd (omega arith)
inner_some (suc (suc k)) h l = some_at (drop 2 kinds) tt k (omega arith)

module _ (P : Prob) (g : Good P) (vs : List ℕ) where
  abbrev Constant : ℕ → Type 0
  Constant n = P.kind n ≡ 1

  one_link : (n : ℕ) → n < P.nodes → (Variable P n → ⊥) → (Constant n → ⊥) → Chain P n 1
  one_link n l x y =
      elim (which (P.kind n)) [
        | variable e ↦ absurd (x e)
        | constant e ↦ absurd (y e)
        | inner k ↦ link (inner_some (P.kind n) k (g.node n l).known) ends
      ]

  -- a constant is fully fixed
  constant_pair : (n : ℕ) → n < P.nodes → Constant n → (pair_lo P n ≡ P.own_lo n) × (pair_hi P n ≡ P.own_lo n)
  constant_pair n l e =
      let p = pairs_own P g n l (omega arith) in
      (ap (λ (q : Pair). q.lo) p, ap (λ (q : Pair). q.hi) p ∙ sym ((g.node n l).same e))

  -- a chain of at least as many links as steps are made, for which the tape would have to have two words each
  record Linked (n : ℕ) (ws : List ℕ) (r : End) (made : ℕ) : Type 0 where
    links : ℕ
    chain : Chain P n links
    enough : made ≤ links
    served : 2 * links ≤ length ws → Finished r

  linked :
      {n t s : ℕ} {ws : List ℕ} {r : End} (w : Walk P vs n t ws s r)
      → n < P.nodes
      → (Constant n → ⊥)
      → Linked n ws r (steps w)
  unfolding steps
  linked (arrives v) l y = record { links = 0; chain = ends; enough = omega arith; served = λ _. tt }
  linked {n} (unserved x h) l y = record { links = 1; chain = one_link n l x y; enough = omega arith; served = λ q. omega arith }
  linked {n} (stops x h k) l y = record { links = 1; chain = one_link n l x y; enough = omega arith; served = λ _. tt }
  linked {n} {ws = ws} (onward {i = i} x h k w) l y =
      let b = step_next P g vs l k in
      let under : arg P n i < P.nodes = omega (arith, b.below) in
      let r = linked w under (λ e. let p = constant_pair (arg P n i) under e in b.unfixed (p.0 ∙ sym p.1)) in
      record {
        links = suc r.links;
        chain = link b.place_lt r.chain;
        enough = omega (arith, r.enough);
        served = λ q. r.served (omega (arith, length-drop 2 ws));
      }

  walk_counts : {n t s : ℕ} {ws : List ℕ} {r : End} (w : Walk P vs n t ws s r) → Counts (s + steps w) r
  unfolding steps
  walk_counts (arrives v) = omega arith
  walk_counts (unserved x h) = tt
  walk_counts (stops x h k) = refl
  walk_counts {s = s} {r = r} (onward x h k w) =
      let e : s + 1 + steps w ≡ s + suc (steps w) = omega arith in
      subst (λ (t : ℕ). Counts t r) e (walk_counts w)

  -- ---- and those of a move, from a root that is neither 1 nor fixed at 0

  module _ (ev : Evaluated P vs) (open_roots : ClosedRoot P → ⊥) where
    root_varies : (j : ℕ) → j < P.entries → Unsatisfied P vs j → Constant (P.root j) → ⊥
    unfolding Evaluated
    root_varies j h u e =
        let l : P.root j < P.nodes = g.root_below j h in
        let here = g.node (P.root j) l in
        let v : get_or vs (P.root j) 0 ≡ P.own_lo (P.root j) = ev (P.root j) l ∙ value_constant P (P.root j) vs e in
        let short : P.own_hi (P.root j) < 2 = rw (g.root_bit j h) at (here.under (omega arith)) in
        let one : (P.own_lo (P.root j) ≡ 1 → ⊥) = λ o. u (v ∙ o) in
        let zero : P.own_lo (P.root j) ≡ 0 = omega (arith, here.same e) in
        open_roots (record { at = j; at_lt = h; is_zero = (constant_pair (P.root j) l e).1 ∙ zero })

    -- at most H steps are made, and 1 + 2H words serve it whole
    pub record Few (H : ℕ) (ws : List ℕ) (s : ℕ) (r : End) (made : ℕ) : Type 0 where
      pub few : made ≤ H
      served : 1 + 2 * H ≤ length ws → Finished r
      counted : Counts (s + made) r

    pub move_few :
        {H : ℕ} {ws : List ℕ} {s : ℕ} {r : End}
        → Longest P H
        → (AllOne P vs → ⊥)
        → (k : Move P vs ws s r)
        → Few H ws s r (steps_of k)
    unfolding steps_of
    move_few top x (no_word h) = record { few = omega arith; served = λ q. omega arith; counted = tt }
    move_few {ws = ws} top x (from_root us h l w) =
        let m = lists_member l (get_or ws 0 0 % length us) (mod-lt (get_or ws 0 0) (some_unsatisfied P vs l x)) in
        let j : ℕ = get_or us (get_or ws 0 0 % length us) 0 in
        let k = linked w (g.root_below j m.below) (root_varies j m.below m.holds) in
        let most = top.none_longer k.links (record { entry = j; entry_lt = m.below; chain = k.chain }) in
        record {
          few = omega (arith, k.enough, most);
          served = λ q. k.served (omega (arith, most, length-drop 1 ws));
          counted = walk_counts w;
        }

-- ---- a run

-- what is left serves the moves that are left
left_enough :
    (d H k s s' left left' : ℕ)
    → suc d * (1 + 2 * H) ≤ left
    → 1 + left' + 2 * s' ≡ left + 2 * s
    → s' ≡ s + k
    → k ≤ H
    → d * (1 + 2 * H) ≤ left'
left_enough d H k s s' left left' h e c f = omega (arith, suc-mul d (1 + 2 * H))

module _ (P : Prob) (g : Good P) (H : ℕ) (top : Longest P H) (open_roots : ClosedRoot P → ⊥) (B : ℕ) where
  pub run_served :
      {vs ws : List ℕ} {m s made : ℕ} {out : List ℕ} {a : Answer}
      → Run P B vs ws m s made out a
      → Held P vs
      → (d : ℕ)
      → B ≤ m + d
      → d * (1 + 2 * H) ≤ length ws
      → said a.outcome ≡ "ended"
      → ⊥
  run_served (model y) hd d b e q = same_text q
  run_served (spent x b') hd d b e q = same_text q
  run_served (ended x b' k) hd zero b e q = omega arith
  run_served {vs} (ended x b' k) hd (suc d) b e q =
      (move_few P g vs hd.evaluated open_roots top x k).served (omega (arith, suc-mul d (1 + 2 * H)))
  run_served (moved x b' k u r) hd zero b e q = omega arith
  run_served {vs} {ws} {m} {s} (moved {ws' = ws'} {s' = s'} {n = n} {v = v} x b' k u r) hd (suc d) b e q =
      let f = move_few P g vs hd.evaluated open_roots top x k in
      run_served r (kept_after P g vs hd n v (move_lands P g vs open_roots x k)).values d (omega arith)
      (left_enough d H (steps_of k) s s' (length ws) (length ws') e (move_spends P vs k) f.counted f.few) q
  run_served (held x b' k r) hd zero b e q = omega arith
  run_served {vs} {ws} {m} {s} (held {ws' = ws'} {s' = s'} x b' k r) hd (suc d) b e q =
      let f = move_few P g vs hd.evaluated open_roots top x k in
      run_served r hd d (omega arith)
      (left_enough d H (steps_of k) s s' (length ws) (length ws') e (move_spends P vs k) f.counted f.few) q
