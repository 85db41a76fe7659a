-- The order said in words: number k is the lowest id, not yet placed, whose operands are all placed. There is one such order,
-- and it is `old`.
use Rattle.std.specs.Prelude.{◌≡◌, refl, Bool, List, ℕ, zero, suc, ◌≤◌, ◌<◌}
use Rattle.std.proofs.Common.{sym, ap, ◌∙◌, not-suc-le-zero, le_antisymm, arith}
use Rattle.std.proofs.Math.Bool.{true, false}
use Rattle.std.proofs.Math.ListN.{get_or}
use Rattle.problem.specs.Layout.{node_count, node_at}
use Rattle.mending.specs.Order.{operands_of, field, none, placed, ready, numbers, old, new}
use Rattle.mending.specs.inner.Order.{Met, AllPlaced, Inside}
use Rattle.mending.specs.laws.Order.{ready_facts, facts_ready, placed_none, old_ready, old_lowest, old_lt, new_old, old_new, placed_before, before_placed}

module _ (s : List ℕ) where
  -- i is one of f 0, .., f (k - 1)
  pub record Among (f : ℕ → ℕ) (k i : ℕ) : Type 0 where
    pub number : ℕ
    pub before : number < k
    pub is : f number ≡ i

  -- after f 0, .., f (k - 1), node i is ready
  pub record Ready (f : ℕ → ℕ) (k i : ℕ) : Type 0 where
    pub node : i < node_count s
    pub waiting : Among f k i → ⊥
    pub operands : (p : ℕ) → p < operands_of (node_at s i) → Among f k (field (node_at s i) p)

  -- and f k is the lowest that is
  pub record Next (f : ℕ → ℕ) (k : ℕ) : Type 0 where
    pub is_ready : Ready f k (f k)
    pub lowest : (i : ℕ) → Ready f k i → f k ≤ i

  -- ---- two orders that start alike have the same nodes ready

  ready_alike : (f g : ℕ → ℕ) (k i : ℕ) → ((j : ℕ) → j < k → f j ≡ g j) → Ready f k i → Ready g k i
  ready_alike f g k i e r =
      record {
        node = r.node;
        waiting = λ a. r.waiting (record { number = a.number; before = a.before; is = e a.number a.before ∙ a.is });
        operands = λ p b. let a = r.operands p b in record { number = a.number; before = a.before; is = sym (e a.number a.before) ∙ a.is };
      }

  alike : (f g : ℕ → ℕ) (n : ℕ) → ((k : ℕ) → k < n → Next f k) → ((k : ℕ) → k < n → Next g k) → (m : ℕ) → m ≤ n → (k : ℕ) → k < m → f k ≡ g k
  alike f g n h q zero l k b = absurd (not-suc-le-zero b)
  alike f g n h q (suc m) l k b =
      let x : k < n = omega arith in
      let e : ((j : ℕ) → j < k → f j ≡ g j) = λ j c. alike f g n h q m (omega arith) j (omega arith) in
      le_antisymm ((h k x).lowest (g k) (ready_alike g f k (g k) (λ j c. sym (e j c)) (q k x).is_ready))
      ((q k x).lowest (f k) (ready_alike f g k (f k) e (h k x).is_ready))

  -- ---- `old` is such an order
  module _ (few : node_count s ≤ 1024) (inside : Inside s) (all : AllPlaced s) where
    among : (k i : ℕ) → k ≤ node_count s → i < node_count s → new s i < k → Among (old s) k i
    among k i b h l = record { number = new s i; before = l; is = old_new s few all i h }

    not_among : (k i : ℕ) → k ≤ node_count s → Among (old s) k i → new s i < k
    not_among k i b a =
        let e : new s i ≡ a.number = ap (new s) (sym a.is) ∙ new_old s few all a.number (let l = a.before in omega arith) in
        let l = a.before in omega arith

    ready_of : (k i : ℕ) → k ≤ node_count s → Ready (old s) k i → ready s (numbers s k) i ≡ true
    unfolding Met Inside
    ready_of k i b r =
        facts_ready s (numbers s k) i (unplaced (placed (numbers s k) i) refl)
        (λ p c. let a = r.operands p c in before_placed s few all k _ b (inside i r.node p c) (not_among k _ b a))
      where
        unplaced : (t : Bool) → placed (numbers s k) i ≡ t → get_or (numbers s k) i 0 ≡ none
        unplaced true e = absurd (r.waiting (among k i b r.node (placed_before s few all k i b r.node e)))
        unplaced false e = placed_none (numbers s k) i e

    pub old_next : (k : ℕ) → k < node_count s → Next (old s) k
    unfolding Met Inside
    old_next k h =
        let q = ready_facts s (numbers s k) (old s k) (old_ready s k (old_lt s few all k h)) in
        let o = old_lt s few all k h in
        record {
          is_ready = record {
            node = o;
            waiting = λ a. let l = not_among k (old s k) (omega arith) a in absurd (omega (arith, new_old s few all k h));
            operands =
                λ p b.
                let x = inside (old s k) o p b in
                among k _ (omega arith) x (placed_before s few all k _ (omega arith) x (q.1 p b));
          };
          lowest = λ i r. old_lowest s k i (ready_of k i (omega arith) r);
        }

    pub order_only : (f : ℕ → ℕ) → ((k : ℕ) → k < node_count s → Next f k) → (k : ℕ) → k < node_count s → f k ≡ old s k
    order_only f h k l = alike f (old s) (node_count s) h old_next (node_count s) (omega arith) k l
