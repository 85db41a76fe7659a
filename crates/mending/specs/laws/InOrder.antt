-- A file in order: every node keeps its id.
use Rattle.std.specs.Prelude.{◌≡◌, List, ℕ, zero, suc, ◌≤◌, ◌<◌, get_or, set}
use Rattle.std.proofs.Common.{ap, ◌∙◌, not-suc-le-zero, le_refl, arith, get_or-set_same, get_or-set_other}
use Rattle.std.proofs.Math.Nat.{le_antisymm}
use Rattle.std.proofs.Math.Decide.{ℕ_discrete, dec_lt}
use Rattle.std.proofs.lemmas.List.{get_or-replicate}
use Rattle.problem.specs.Layout.{node_count}
use Rattle.mending.specs.Order.{none, numbers, old, new}
use Rattle.mending.specs.inner.Order.{Met, AllPlaced, InOrder}
use Rattle.mending.specs.laws.Order.{new_beyond, get_d_any, ready_facts, facts_ready, is_placed, numbers_none, numbers_next, length_numbers, old_ready, old_lowest}

module _ (s : List ℕ) where
  -- the first k nodes have their own ids, the others none
  record Sofar (k : ℕ) : Type 0 where
    placed : (i : ℕ) → i < k → get_or (numbers s k) i 0 ≡ i
    waiting : (i : ℕ) → k ≤ i → i < node_count s → get_or (numbers s k) i 0 ≡ none

  module _ (few : node_count s ≤ 1024) (ordered : InOrder s) where
    next : (k : ℕ) → k < node_count s → Sofar k → old s k ≡ k
    unfolding InOrder Met
    next k h f = le_antisymm below above
      where
        below : old s k ≤ k
        below =
            old_lowest s k k
            (facts_ready s (numbers s k) k (f.waiting k (le_refl k) h)
            (λ p b. let o = ordered k h p b in is_placed (numbers s k) _ (λ z. absurd (omega (arith, f.placed _ o)))))

        -- what is placed has its own id, so it is not ready
        above : k ≤ old s k
        above =
            elim (dec_lt (old s k) k) [
              | yes l ↦
                  let z = (ready_facts s (numbers s k) (old s k) (old_ready s k (omega arith))).0 in
                  absurd (omega (arith, f.placed (old s k) l))
              | no x ↦ omega arith
            ]

    start : Sofar 0
    start =
        record {
          placed = λ i l. absurd (not-suc-le-zero l);
          waiting = λ i l b. ap (λ (x : List ℕ). get_or x i 0) (numbers_none s) ∙ get_or-replicate (node_count s) i none 0 b;
        }

    more : (k : ℕ) → k < node_count s → Sofar k → Sofar (suc k)
    more k h f =
        record {
          placed =
              λ i l.
              elim (ℕ_discrete i k) [
                | yes e ↦ step i ∙ rw e (get_or-set_same (numbers s k) k k 0 (let m = length_numbers s k in omega arith))
                | no x ↦ step i ∙ get_or-set_other (numbers s k) k i k 0 x ∙ f.placed i (omega arith)
              ];
          waiting = λ i l b. step i ∙ get_or-set_other (numbers s k) k i k 0 (λ e. absurd (omega arith)) ∙ f.waiting i (omega arith) b;
        }
      where
        step : (i : ℕ) → get_or (numbers s (suc k)) i 0 ≡ get_or (set (numbers s k) k k) i 0
        step i = ap (λ (x : List ℕ). get_or x i 0) (numbers_next s k ∙ ap (λ (o : ℕ). set (numbers s k) o k) (next k h f))

    sofar : (k : ℕ) → k ≤ node_count s → Sofar k
    sofar zero h = start
    sofar (suc k) h = more k h (sofar k (omega arith))

    pub in_order_old : (k : ℕ) → k < node_count s → old s k ≡ k
    in_order_old k h = next k h (sofar k (omega arith))

    pub in_order_new : (i : ℕ) → new s i ≡ i
    unfolding new
    in_order_new i =
        let m = length_numbers s (node_count s) in
        elim (dec_lt i (node_count s)) [
          | yes l ↦
              get_d_any (numbers s (node_count s)) i i 0 (omega arith) ∙ (sofar (node_count s) (le_refl (node_count s))).placed i l
          | no x ↦ new_beyond s i (omega arith)
        ]

    pub in_order_all : AllPlaced s
    unfolding AllPlaced
    in_order_all i h =
        is_placed (numbers s (node_count s)) i (λ z. absurd (omega (arith, (sofar (node_count s) (le_refl (node_count s))).placed i h)))
