-- Laws of the fixed bits of all nodes: what filling keeps, what one node more adds, that every pair is one of its node's
-- width, and that every value agrees with its pair.
use Rattle.std.specs.Prelude.{◌≡◌, List, length, get_or, set}
use Rattle.std.proofs.Math.Path.{refl, subst}
use Rattle.std.proofs.Common.{sym, ap, ap₂, ◌∙◌, arith, not-suc-le-zero, le_refl, add-one, get_or-set_same, get_or-set_other, lt-length-set}
use Prim.Native.Nat.{ℕ, zero, suc, ◌+◌, ◌^◌, ◌≤◌, ◌<◌}
use Rattle.std.proofs.Math.Decide.{ℕ_discrete}
use Rattle.std.proofs.Math.ListN.{length-set}
use Rattle.std.proofs.lemmas.List.{length-replicate}
use Rattle.words.specs.laws.Agree.{agrees_lt}
use Rattle.fixed.specs.declared.Pair.{Pair}
use Rattle.fixed.specs.Fixed.{pair}
use Rattle.fixed.specs.inner.Pairs.{Ternary, Agreeing}
use Rattle.nodes.specs.Problem.{Prob, Pairs, zeros, no_pairs, arg, pair_at, fill_up, pairs}
use Rattle.nodes.specs.Values.{Evaluated, VariablesAgree, NodesAgree}
use Rattle.nodes.specs.inner.Good.{Good, Held}
use Rattle.nodes.specs.laws.Nodes.{pair_in, own_pair_at, pair_own, pair_same, pair_ternary, value_agrees, operand_node}
use Rattle.nodes.specs.laws.Upward.{Store, up_at, up_kept}

-- a pair put at place i
abbrev pub store : Pairs → ℕ → Pair → Pairs
store w i p = record { los = set w.los i p.lo; his = set w.his i p.hi }

pub pair_store : Store Pairs Pair pair_in store (λ w n. (n < length w.los) × (n < length w.his))
pair_store =
    record {
      same = λ w i p h. ap₂ pair (get_or-set_same w.los i p.lo 0 h.0) (get_or-set_same w.his i p.hi 0 h.1);
      other = λ w i n p x. ap₂ pair (get_or-set_other w.los i n p.lo 0 x) (get_or-set_other w.his i n p.hi 0 x);
      room = λ w i n p h. (lt-length-set w.los i p.lo h.0, lt-length-set w.his i p.hi h.1);
    }

pub length_zeros : length zeros ≡ 1024
unfolding zeros
length_zeros = length-replicate {A = ℕ} 1024 0

-- there are places for the first k nodes
abbrev pub Room : Pairs → ℕ → Type 0
Room w k = (k ≤ length w.los) × (k ≤ length w.his)

module _ (P : Prob) (w : Pairs) where
  -- both lists keep their lengths
  pub length_fill_up : (i : ℕ) → (length (fill_up P i w).los ≡ length w.los) × (length (fill_up P i w).his ≡ length w.his)
  unfolding fill_up
  length_fill_up zero = (refl, refl)
  length_fill_up (suc i) = simp length-set (length_fill_up i)

  -- no pair is filled in yet; one more is
  pub fill_up_none : fill_up P 0 w ≡ w
  unfolding fill_up
  fill_up_none = refl

  fill_up_suc : (i : ℕ) → fill_up P (suc i) w ≡ store (fill_up P i w) i (pair_at P (fill_up P i w) i)
  unfolding fill_up
  fill_up_suc i = refl

  -- one turn of a loop that holds the two lists
  pub fill_up_step : (i : ℕ) (u : Pairs) (p : Pair) → u ≡ fill_up P i w → p ≡ pair_at P u i → store u i p ≡ fill_up P (i + 1) w
  fill_up_step i u p e h =
      ap₂ (λ (u : Pairs) (p : Pair). store u i p) e (h ∙ ap (λ (u : Pairs). pair_at P u i) e) ∙ rw (add-one, fill_up_suc)

  abbrev up_to : ℕ → Pairs
  up_to i = fill_up P i w

  abbrev put : ℕ → Pair
  put i = pair_at P (fill_up P i w) i

  roomy : (n : ℕ) → Room w (suc n) → (n < length (up_to 0).los) × (n < length (up_to 0).his)
  roomy n l = let h = length_fill_up 0 in (rw h.0 l.0, rw h.1 l.1)

  -- a place below i holds the pair that its node had when it was filled in, and keeps it
  pub fill_up_at : (i n : ℕ) → Room w (suc n) → n < i → pair_in (fill_up P i w) n ≡ pair_at P (fill_up P n w) n
  fill_up_at i n l h = up_at pair_store up_to put fill_up_suc i n (roomy n l) h

  pub fill_up_kept : (i m n : ℕ) → Room w (suc n) → n < i → i ≤ m → pair_in (fill_up P m w) n ≡ pair_in (fill_up P i w) n
  fill_up_kept i m n l h k = up_kept pair_store up_to put fill_up_suc i m n (roomy n l) h k

-- in lists with a place for every node
module _ (P : Prob) (g : Good P) (w : Pairs) (r : Room w P.nodes) where
  for : (n : ℕ) → n < P.nodes → Room w (suc n)
  for n l = (omega (arith, r.0), omega (arith, r.1))

  -- every node's pair is what its operands' pairs make it
  pub filled_fixed : (n : ℕ) → n < P.nodes → pair_in (fill_up P P.nodes w) n ≡ pair_at P (fill_up P P.nodes w) n
  filled_fixed n h =
      fill_up_at P w P.nodes n (for n h) h
      ∙ pair_same P n (fill_up P n w) (fill_up P P.nodes w)
      (λ i b. let k : arg P n i < n = (g.node n h).below i b in sym (fill_up_kept P w n P.nodes (arg P n i) (for (arg P n i) (omega arith)) k (omega arith)))

  -- as far as filling has come, pairs are of their nodes' widths
  pub fill_up_ternary : (i : ℕ) → i ≤ P.nodes → (n : ℕ) → n < i → Ternary (P.width n) (pair_in (fill_up P i w) n)
  fill_up_ternary zero h n k = absurd (not-suc-le-zero k)
  fill_up_ternary (suc i) h n k =
      elim (ℕ_discrete n i) [
        | yes e ↦
            rw (e, fill_up_at P w (suc i) i (for i h) (le_refl (suc i)))
            (pair_ternary P g i h (fill_up P i w) (λ j b. fill_up_ternary i (omega arith) (arg P i j) ((g.node i h).below j b)))
        | no x ↦
            rw (fill_up_kept P w i (suc i) n (for n (omega arith)) (omega arith) (omega arith)) (fill_up_ternary i (omega arith) n (omega arith))
      ]

-- so what the lists held before does not bear
module _ (P : Prob) (g : Good P) (w u : Pairs) (r : Room w P.nodes) (q : Room u P.nodes) where
  pub filled_same : (k n : ℕ) → n < k → n < P.nodes → pair_in (fill_up P P.nodes w) n ≡ pair_in (fill_up P P.nodes u) n
  filled_same zero n h l = absurd (not-suc-le-zero h)
  filled_same (suc k) n h l =
      filled_fixed P g w r n l
      ∙ pair_same P n (fill_up P P.nodes w) (fill_up P P.nodes u)
      (λ i b. let a : arg P n i < n = (g.node n l).below i b in filled_same k (arg P n i) (omega arith) (omega arith))
      ∙ sym (filled_fixed P g u q n l)

module _ (P : Prob) (g : Good P) where
  pub zeros_room : Room no_pairs P.nodes
  zeros_room = (omega (arith, g.few, length_zeros), omega (arith, g.few, length_zeros))

  pub pairs_fixed : (n : ℕ) → n < P.nodes → pair_in (pairs P) n ≡ pair_at P (pairs P) n
  unfolding pairs
  pairs_fixed = filled_fixed P g no_pairs zeros_room

  -- lists with a place for every node hold the same pairs as those of 1,024 places
  pub pairs_filled : (w : Pairs) → Room w P.nodes → (n : ℕ) → n < P.nodes → pair_in (fill_up P P.nodes w) n ≡ pair_in (pairs P) n
  unfolding pairs
  pairs_filled w r n l = filled_same P g w no_pairs r zeros_room P.nodes n l l

  -- "Variables carry their pair in lo and hi; a constant has lo = hi"
  pub pairs_own : (n : ℕ) → n < P.nodes → P.kind n < 2 → pair_in (pairs P) n ≡ own_pair_at P n
  pairs_own n h k = pairs_fixed n h ∙ pair_own P n (pairs P) k

  pub pairs_ternary : (n : ℕ) → n < P.nodes → Ternary (P.width n) (pair_in (pairs P) n)
  unfolding pairs
  pairs_ternary n h = fill_up_ternary P g no_pairs zeros_room P.nodes (le_refl P.nodes) n h

  module _ (vs : List ℕ) (ev : Evaluated P vs) (va : VariablesAgree P vs) where
    agree_below : (k n : ℕ) → n < k → n < P.nodes → Agreeing (pair_in (pairs P) n) (get_or vs n 0)
    unfolding Evaluated VariablesAgree
    agree_below zero n h l = absurd (not-suc-le-zero h)
    agree_below (suc k) n h l =
        subst (λ (p : Pair). Agreeing p (get_or vs n 0)) (sym (pairs_fixed n l))
        (rw (ev n l) (value_agrees P g n l (pairs P) (λ i b. pairs_ternary (arg P n i) (operand_node P g n l i b)) vs
        (λ i b. let q : arg P n i < n = (g.node n l).below i b in agree_below k (arg P n i) (omega arith) (omega arith)) (va n l)))

    -- "For every assignment that agrees with the variables' pairs, every node's value agrees with its own pair."
    pub all_agree : NodesAgree P vs
    unfolding NodesAgree
    all_agree n l = agree_below P.nodes n l l

  pub every_node : (vs : List ℕ) → Held P vs → NodesAgree P vs
  every_node vs hd = all_agree vs hd.evaluated hd.agrees

  -- so every value is of its node's width
  pub agreeing_lt : (vs : List ℕ) → NodesAgree P vs → (n : ℕ) → n < P.nodes → get_or vs n 0 < 2 ^ P.width n
  unfolding NodesAgree
  agreeing_lt vs a n l = agrees_lt (P.width n) (pairs_ternary n l).short (a n l)
