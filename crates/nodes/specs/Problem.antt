-- A problem as the run sees it, its evaluation, and the fixed bits of all its nodes.
use Rattle.std.specs.Prelude.{◌≡◌, Bool, true, false, List, ℕ, zero, suc, ltb, get_or, set, replicate}
use Rattle.fixed.specs.declared.Pair.{Pair}
use Rattle.operators.specs.Table.{kind_of, shape_of}
use Rattle.fixed.specs.Fixed.{pair, pair_of}
use Rattle.problem.specs.Layout.{node_count, root_count, node_at, root_at}
use Rattle.picking.specs.declared.spot.Three.{Three}
use Rattle.picking.specs.declared.spot.Spot.{Spot}
use Rattle.picking.specs.Spot.{at, value}

-- a problem: how many nodes and root entries there are, and what their records say
pub record Prob : Type 0 where
  pub nodes : ℕ
  pub entries : ℕ
  pub kind : ℕ → ℕ
  pub width : ℕ → ℕ
  pub fields : ℕ → Three
  pub own_lo : ℕ → ℕ
  pub own_hi : ℕ → ℕ
  pub root : ℕ → ℕ

-- the problem that the bytes s hold: nothing else reads them
unfoldable pub problem : List ℕ → Prob
problem s =
    record {
      nodes = node_count s;
      entries = root_count s;
      kind = λ n. (node_at s n).kind;
      width = λ n. (node_at s n).width;
      fields = λ n. record { a = (node_at s n).a; b = (node_at s n).b; c = (node_at s n).c };
      own_lo = λ n. (node_at s n).lo;
      own_hi = λ n. (node_at s n).hi;
      root = λ j. root_at s j;
    }

abbrev pub one_of : Bool → ℕ → ℕ → ℕ
one_of true x y = x
one_of false x y = y

-- f at the positions below count, 0 at the others
unfoldable pub three : ℕ → (ℕ → ℕ) → Three
three count f = record { a = one_of (ltb 0 count) (f 0) 0; b = one_of (ltb 1 count) (f 1) 0; c = one_of (ltb 2 count) (f 2) 0 }

-- the lists of derived lo and hi, a place for each node
pub record Pairs : Type 0 where
  pub los : List ℕ
  pub his : List ℕ

-- "arrays of 1,024 zeros"
unfoldable pub zeros : List ℕ
zeros = replicate 1024 0

abbrev pub no_pairs : Pairs
no_pairs = record { los = zeros; his = zeros }

-- by kind: of a variable, of a constant, of an inner node
abbrev pub by_kind : {A : Type 0} → ℕ → A → A → A → A
by_kind zero x y z = x
by_kind (suc zero) x y z = y
by_kind (suc (suc k)) x y z = z

module _ (P : Prob) where
  -- how many positions node n has, and the operand's id at position i
  abbrev pub count : ℕ → ℕ
  count n = (shape_of (P.kind n)).operands

  abbrev pub arg : ℕ → ℕ → ℕ
  arg n i = at (P.fields n) i

  -- node n as picking sees it, under the pairs w and the values vs
  unfoldable pub spot_of : Pairs → List ℕ → ℕ → Spot
  spot_of w vs n =
      record {
        kind = P.kind n;
        width = P.width n;
        low = (P.fields n).b;
        widths = three (count n) (λ i. P.width (arg n i));
        los = three (count n) (λ i. get_or w.los (arg n i) 0);
        his = three (count n) (λ i. get_or w.his (arg n i) 0);
        current = three (count n) (λ i. get_or vs (arg n i) 0);
      }

  -- what the operator of a node gives where its operands are at their current values
  abbrev pub gives : Spot → ℕ
  gives S = value S S.current

  -- a variable's own place, a constant's lo, else what the operator gives
  unfoldable pub value_of : List ℕ → ℕ → ℕ
  value_of vs n = by_kind (P.kind n) (get_or vs n 0) (P.own_lo n) (gives (spot_of no_pairs vs n))

  -- the first i nodes evaluated, in ascending id
  unfoldable pub eval_up : ℕ → List ℕ → List ℕ
  eval_up zero vs = vs
  eval_up (suc i) vs = set (eval_up i vs) i (value_of (eval_up i vs) i)

  -- "evaluate all nodes"
  unfoldable pub evaluate : List ℕ → List ℕ
  evaluate vs = eval_up P.nodes vs

  -- the pair that the operator of a node has from its operands' pairs
  abbrev pub derived : Spot → Pair
  derived S =
      pair_of (kind_of S.kind) S.width S.widths.a S.widths.b S.low (pair S.los.a S.his.a)
      (pair S.los.b S.his.b) (pair S.los.c S.his.c)

  -- "Variables carry their pair in lo and hi; a constant has lo = hi"; inner nodes are "worked out from operands upward"
  unfoldable pub pair_at : Pairs → ℕ → Pair
  pair_at w n = by_kind (P.kind n) (pair (P.own_lo n) (P.own_hi n)) (pair (P.own_lo n) (P.own_hi n)) (derived (spot_of w zeros n))

  -- the first i nodes' pairs filled in, in ascending id
  unfoldable pub fill_up : ℕ → Pairs → Pairs
  fill_up zero w = w
  fill_up (suc i) w =
      record {
        los = set (fill_up i w).los i (pair_at (fill_up i w) i).lo;
        his = set (fill_up i w).his i (pair_at (fill_up i w) i).hi;
      }

  -- the pairs of all nodes
  unfoldable pub pairs : Pairs
  pairs = fill_up P.nodes no_pairs

  abbrev pub pair_lo : ℕ → ℕ
  pair_lo n = get_or pairs.los n 0

  abbrev pub pair_hi : ℕ → ℕ
  pair_hi n = get_or pairs.his n 0

  -- node n as a step sees it
  abbrev pub spot : List ℕ → ℕ → Spot
  spot vs n = spot_of pairs vs n

  abbrev pub Variable : ℕ → Type 0
  Variable n = P.kind n ≡ 0
