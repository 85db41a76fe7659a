-- Laws of evaluation: what it keeps, what one node more adds, and that afterwards every place holds its node's value, of
-- its node's width.
use Rattle.std.specs.Prelude.{◌≡◌, List, get_or, set}
use Rattle.std.proofs.Math.Path.{refl, sym}
use Rattle.std.proofs.Common.{ap, ◌∙◌, not-suc-le-zero, le_refl, add-one, get_or-set_same, get_or-set_other, lt-length-set}
use Prim.Native.Nat.{ℕ, zero, suc, ◌+◌, ◌^◌, ◌≤◌, ◌<◌}
use native.Mathlib.Omega.{arith}
use Rattle.std.proofs.Math.Decide.{ℕ_discrete, dec_lt}
use Rattle.std.proofs.Math.ListN.{length, length-set}
use Rattle.words.specs.laws.Agree.{agrees_lt}
use Rattle.nodes.specs.Problem.{Prob, arg, Variable, value_of, eval_up, evaluate}
use Rattle.nodes.specs.Values.{Evaluated, VariablesAgree}
use Rattle.nodes.specs.inner.Good.{Good, Held}
use Rattle.nodes.specs.laws.Nodes.{value_own, value_same, value_lt}
use Rattle.nodes.specs.laws.Upward.{Store, up_above, up_at, up_kept}

pub list_store : Store (List ℕ) ℕ (λ l n. get_or l n 0) set (λ l n. n < length l)
list_store =
    record {
      same = λ l i v h. get_or-set_same l i v 0 h;
      other = λ l i n v x. get_or-set_other l i n v 0 x;
      room = λ l i n v h. lt-length-set l i v h;
    }

module _ (P : Prob) where
  pub length_eval_up : (i : ℕ) (vs : List ℕ) → length (eval_up P i vs) ≡ length vs
  unfolding eval_up
  length_eval_up zero vs = refl
  length_eval_up (suc i) vs = length-set (eval_up P i vs) i _ ∙ length_eval_up i vs

  -- no node is evaluated yet; one more is
  pub eval_up_none : (vs : List ℕ) → eval_up P 0 vs ≡ vs
  unfolding eval_up
  eval_up_none vs = refl

  eval_up_suc : (vs : List ℕ) (i : ℕ) → eval_up P (suc i) vs ≡ set (eval_up P i vs) i (value_of P (eval_up P i vs) i)
  unfolding eval_up
  eval_up_suc vs i = refl

  pub eval_up_more : (i v : ℕ) (vs : List ℕ) → v ≡ value_of P (eval_up P i vs) i → set (eval_up P i vs) i v ≡ eval_up P (i + 1) vs
  eval_up_more i v vs e = rw (add-one, eval_up_suc, e)

  -- the same of the list that a loop holds
  pub eval_up_step : (i v : ℕ) (us vs : List ℕ) → us ≡ eval_up P i vs → v ≡ value_of P us i → set us i v ≡ eval_up P (i + 1) vs
  eval_up_step i v us vs e h = ap (λ (l : List ℕ). set l i v) e ∙ eval_up_more i v vs (h ∙ ap (λ (l : List ℕ). value_of P l i) e)

  module _ (vs : List ℕ) where
    abbrev up_to : ℕ → List ℕ
    up_to i = eval_up P i vs

    abbrev put : ℕ → ℕ
    put i = value_of P (eval_up P i vs) i

    -- places from i on are as they were
    pub eval_up_above : (i n : ℕ) → i ≤ n → get_or (eval_up P i vs) n 0 ≡ get_or vs n 0
    eval_up_above i n h = up_above list_store up_to put (eval_up_suc vs) i n h ∙ ap (λ (l : List ℕ). get_or l n 0) (eval_up_none vs)

    -- a place below i holds the value that its node had when it was evaluated, and keeps it
    pub eval_up_at : (i n : ℕ) → n < length vs → n < i → get_or (eval_up P i vs) n 0 ≡ value_of P (eval_up P n vs) n
    eval_up_at i n l h = up_at list_store up_to put (eval_up_suc vs) i n (rw (eval_up_none vs) l) h

    pub eval_up_kept : (i m n : ℕ) → n < length vs → n < i → i ≤ m → get_or (eval_up P m vs) n 0 ≡ get_or (eval_up P i vs) n 0
    eval_up_kept i m n l h k = up_kept list_store up_to put (eval_up_suc vs) i m n (rw (eval_up_none vs) l) h k

    -- a variable keeps its place
    pub eval_up_variable : (i n : ℕ) → n < length vs → Variable P n → get_or (eval_up P i vs) n 0 ≡ get_or vs n 0
    eval_up_variable i n l v =
        elim (dec_lt n i) [
          | yes h ↦ eval_up_at i n l h ∙ value_own P n (eval_up P n vs) v ∙ eval_up_above n n (le_refl n)
          | no x ↦ eval_up_above i n (omega arith)
        ]

    -- ---- all nodes

    pub length_evaluate : length (evaluate P vs) ≡ length vs
    unfolding evaluate
    length_evaluate = length_eval_up P.nodes vs

    -- "later places are untouched"
    pub evaluate_above : (n : ℕ) → P.nodes ≤ n → get_or (evaluate P vs) n 0 ≡ get_or vs n 0
    unfolding evaluate
    evaluate_above n h = eval_up_above P.nodes n h

    pub evaluate_variable : (n : ℕ) → n < length vs → Variable P n → get_or (evaluate P vs) n 0 ≡ get_or vs n 0
    unfolding evaluate
    evaluate_variable n l v = eval_up_variable P.nodes n l v

-- of an accepted problem, with a place for each node
module _ (P : Prob) (g : Good P) (vs : List ℕ) (room : P.nodes ≤ length vs) where
  -- every place holds its node's value under the operands' values that stand there
  pub evaluate_fixed : Evaluated P (evaluate P vs)
  unfolding Evaluated evaluate
  evaluate_fixed n h =
      let l : n < length vs = omega arith in
      eval_up_at P vs P.nodes n l h
      ∙ (elim (ℕ_discrete (P.kind n) 0) [
        | yes v ↦
            value_own P n (eval_up P n vs) v
            ∙ eval_up_above P vs n n (le_refl n)
            ∙ sym (eval_up_variable P vs P.nodes n l v)
            ∙ sym (value_own P n (eval_up P P.nodes vs) v)
        | no x ↦
            value_same P n (eval_up P n vs) (eval_up P P.nodes vs) x
            (λ i b. let k : arg P n i < n = (g.node n h).below i b in sym (eval_up_kept P vs n P.nodes (arg P n i) (omega arith) k (omega arith)))
      ])

  -- as far as evaluation has come, values are of their nodes' widths
  pub eval_up_lt : VariablesAgree P vs → (i : ℕ) → i ≤ P.nodes → (n : ℕ) → n < i → get_or (eval_up P i vs) n 0 < 2 ^ P.width n
  unfolding VariablesAgree
  eval_up_lt a zero h n k = absurd (not-suc-le-zero k)
  eval_up_lt a (suc i) h n k =
      elim (ℕ_discrete n i) [
        | yes e ↦
            rw (e, eval_up_at P vs (suc i) i (omega arith) (le_refl (suc i)))
            (value_lt P g i h (eval_up P i vs) (λ j b. eval_up_lt a i (omega arith) (arg P i j) ((g.node i h).below j b))
            (λ v. rw (eval_up_variable P vs i i (omega arith) v) (agrees_lt (P.width i) ((g.node i h).under (omega arith)) (a i h v))))
        | no x ↦ rw (eval_up_kept P vs i (suc i) n (omega arith) (omega arith) (omega arith)) (eval_up_lt a i (omega arith) n (omega arith))
      ]

  pub held_evaluate : VariablesAgree P vs → Held P (evaluate P vs)
  unfolding VariablesAgree
  held_evaluate a =
      record {
        places = omega (arith, length_evaluate P vs);
        evaluated = evaluate_fixed;
        agrees = λ n h v. rw (evaluate_variable P vs n (omega arith) v) (a n h v);
      }

-- two evaluated lists that agree on the variables agree on every node
module _ (P : Prob) (g : Good P) (vs us : List ℕ) (ev : Evaluated P vs) (eu : Evaluated P us)
    (same : (n : ℕ) → n < P.nodes → Variable P n → get_or vs n 0 ≡ get_or us n 0) where
  same_below : (k n : ℕ) → n < k → n < P.nodes → get_or vs n 0 ≡ get_or us n 0
  unfolding Evaluated
  same_below zero n h l = absurd (not-suc-le-zero h)
  same_below (suc k) n h l =
      elim (ℕ_discrete (P.kind n) 0) [
        | yes v ↦ same n l v
        | no x ↦
            ev n l
            ∙ value_same P n vs us x
            (λ i b. let q : arg P n i < n = (g.node n l).below i b in same_below k (arg P n i) (omega arith) (omega arith))
            ∙ sym (eu n l)
      ]

  pub evaluated_same : (n : ℕ) → n < P.nodes → get_or vs n 0 ≡ get_or us n 0
  evaluated_same n l = same_below P.nodes n l l
