-- What is asked of a node as it is taken out of its problem: by its operator's value and pair, and by picking.
use Rattle.std.specs.Prelude.{List, ℕ, ◌≤◌, ◌<◌}
use Rattle.std.proofs.Math.ListN.{get_or}
use Rattle.operators.specs.declared.meaning.Op.{Op}
use Rattle.fixed.specs.declared.Pair.{Pair}
use Rattle.fixed.specs.Fixed.{pair}
use Rattle.fixed.specs.inner.Pairs.{Ternary, Agreeing, PairsReady}
use Rattle.picking.specs.declared.spot.Spot.{Spot}
use Rattle.picking.specs.Spot.{at, Fair}
use Rattle.nodes.specs.Problem.{Prob, Pairs, count, arg, spot_of, spot, pairs}
use Rattle.nodes.specs.inner.Good.{Good, GoodNode, Held}
use Rattle.nodes.specs.Values.{NodesAgree}
use Rattle.nodes.specs.laws.Nodes.{pair_in, at_column, operand_node, at_width, pairs_ready}
use Rattle.nodes.specs.laws.Pairs.{pairs_ternary, every_node}

-- the operator of a node in its place, and the pairs of its positions
abbrev pub op_of : Spot → Op
op_of S = record { kind = S.kind; width = S.width; wa = S.widths.a; wb = S.widths.b; low = S.low }

abbrev pub pair_on : Spot → ℕ → Pair
pair_on S j = pair (at S.los j) (at S.his j)

module _ (P : Prob) (g : Good P) (n : ℕ) (l : n < P.nodes) (k : 2 ≤ P.kind n) (w : Pairs) (vs : List ℕ) where
  here : GoodNode P n
  here = g.node n l

  -- pairs of the operands' widths: what `fixed::pair_of` asks
  pub spot_pairs_ready :
      ((i : ℕ) → i < count P n → Ternary (P.width (arg P n i)) (pair_in w (arg P n i)))
      → PairsReady (op_of (spot_of P w vs n)) (pair_on (spot_of P w vs n) 0) (pair_on (spot_of P w vs n) 1) (pair_on (spot_of P w vs n) 2)
  unfolding spot_of
  spot_pairs_ready t = pairs_ready P g n l w t k

  -- and values that agree with them: what picking asks
  pub spot_fair_of :
      ((i : ℕ) → i < count P n → Ternary (P.width (arg P n i)) (pair_in w (arg P n i)))
      → ((i : ℕ) → i < count P n → Agreeing (pair_in w (arg P n i)) (get_or vs (arg P n i) 0))
      → Fair (spot_of P w vs n)
  unfolding spot_of
  spot_fair_of t a =
      record {
        kind_from = k;
        kind_below = here.known;
        some = here.some;
        wide = here.wide;
        rule = here.rule;
        slots =
            λ j b.
            let o : GoodNode P (arg P n j) = g.node (arg P n j) (operand_node P g n l j b) in
            rw (
              at_width P g n l j b,
              at_column P (λ m. get_or w.los m 0) n j b,
              at_column P (λ m. get_or w.his m 0) n j b,
              at_column P (λ m. get_or vs m 0) n j b,
            )
            (record { some = o.some; wide = o.wide; ordered = (t j b).ordered; under = (t j b).short; agrees = a j b });
      }

-- while a run goes on
pub spot_fair : (P : Prob) → Good P → (vs : List ℕ) → Held P vs → (n : ℕ) → n < P.nodes → 2 ≤ P.kind n → Fair (spot P vs n)
unfolding NodesAgree
spot_fair P g vs hd n l k =
    spot_fair_of P g n l k (pairs P) vs (λ i b. pairs_ternary P g (arg P n i) (operand_node P g n l i b))
    (λ i b. every_node P g vs hd (arg P n i) (operand_node P g n l i b))
