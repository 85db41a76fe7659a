-- "22 if operands form a circle (lowest id that can never be placed)": a node can be placed exactly if all its operands can, and 22
-- names the lowest that cannot.
use Rattle.std.specs.Prelude.{◌≡◌, refl, Bool, true, false, not, ◌↔◌, List, get_or}
use Rattle.std.proofs.Common.{sym, ◌∙◌, true≢false, le_refl, arith}
use Prim.Native.Nat.{ℕ, zero, suc, ◌≤◌, ◌<◌}
use Rattle.std.proofs.lemmas.Bool.{not-false}
use Rattle.problem.specs.Layout.{node_count, node_at}
use Rattle.mending.specs.Order.{operands_of, field, placed, numbers, never_placed}
use Rattle.mending.specs.Refusals.{fault_before}
use Rattle.mending.specs.inner.Order.{Met, Inside}
use Rattle.mending.specs.laws.Least.{least_is}
use Rattle.mending.specs.laws.Order.{placed_none, ready_facts, facts_ready, old_ready, given, end_unready}
use Rattle.mending.specs.laws.Accepted.{placeable}
use Rattle.problem.specs.Refusals.{Accepted}

-- node i can be placed: all its operands can
pub data Can (s : List ℕ) : ℕ → Type 0 where
  can : (i : ℕ) → i < node_count s → ((p : ℕ) → p < operands_of (node_at s i) → Can s (field (node_at s i) p)) → Can s i

module _ (s : List ℕ) (few : node_count s ≤ 1024) (inside : Inside s) where
  -- what is placed had its operands placed before
  placed_can : (m k : ℕ) → k ≤ m → (i : ℕ) → i < node_count s → placed (numbers s k) i ≡ true → Can s i
  unfolding Met Inside
  placed_can zero k l i h p = absurd (let g = (given s k i h p).0 in omega arith)
  placed_can (suc m) k l i h p =
      let g = given s k i h p in
      let r = old_ready s (get_or (numbers s k) i 0) (rw g.1 h) in
      let f = ready_facts s (numbers s (get_or (numbers s k) i 0)) i (rw g.1 at r) in
      Can.can i h (λ q b. placed_can m (get_or (numbers s k) i 0) (let a = g.0 in omega arith) (field (node_at s i) q) (inside i h q b) (f.1 q b))

  -- a node whose operands are placed in the end is placed, too: else it would be ready
  ready_placed : (j : ℕ) → j < node_count s → Met (numbers s (node_count s)) (node_at s j) → placed (numbers s (node_count s)) j ≡ true
  ready_placed j h m = by (placed (numbers s (node_count s)) j) refl
    where
      by : (t : Bool) → placed (numbers s (node_count s)) j ≡ t → placed (numbers s (node_count s)) j ≡ true
      by true e = e
      by false e =
          absurd (end_unready s few j h (facts_ready s (numbers s (node_count s)) j (placed_none (numbers s (node_count s)) j e) m))

  can_placed : (i : ℕ) → Can s i → placed (numbers s (node_count s)) i ≡ true
  unfolding Met
  can_placed i (Can.can j h c) = ready_placed j h (λ p b. can_placed (field (node_at s j) p) (c p b))

  pub placed_exactly : (i : ℕ) → i < node_count s → (placed (numbers s (node_count s)) i ≡ true) ↔ Can s i
  placed_exactly i h = (placed_can (node_count s) (node_count s) (le_refl (node_count s)) i h, can_placed i)

-- the place of 22: it can never be placed, and every id below it can
pub circle_exactly :
    (s : List ℕ)
    → fault_before s ≡ Accepted
    → never_placed s < node_count s
    → (Can s (never_placed s) → ⊥) × ((j : ℕ) → j < never_placed s → Can s j)
unfolding never_placed
circle_exactly s ok h =
    let P = placeable s ok in
    let few = P.header.nodes in
    let l = least_is (λ i. not (placed (numbers s (node_count s)) i)) (node_count s) in (
      λ c. true≢false (sym (l.passes h) ∙ told (can_placed s few P.inside (never_placed s) c)),
      λ j b. (placed_exactly s few P.inside j (let m = l.most in omega arith)).0 (not-false _ (l.before j b)),
    )
  where
    told : {t : Bool} → t ≡ true → not t ≡ false
    told e = rw e
