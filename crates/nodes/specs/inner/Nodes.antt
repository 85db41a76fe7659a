-- What the functions of one node ask and answer, in terms of the definitions. (Not needed to read what is promised.)
use Rattle.std.specs.Prelude.{◌≡◌, List, Bool, true, false, ◌⊎◌, ℕ, ◌+◌, ◌*◌, ◌^◌, ◌≤◌, ◌<◌, ltb, length, get_or, Option, Some, None}
use Rattle.operators.specs.declared.meaning.Op.{Op}
use Rattle.operators.specs.Table.{kind_of, shape_of}
use Rattle.fixed.specs.inner.Pairs.{Ternary, PairsReady}
use Rattle.fixed.specs.declared.Pair.{Pair}
use Rattle.fixed.specs.Fixed.{pair, pair_of}
use Rattle.problem.specs.declared.layout.Node.{Node}
use Rattle.problem.specs.Layout.{width_at, node_at}
use Rattle.problem.specs.Refusals.{Accepted, checked}
use Rattle.picking.specs.declared.spot.Three.{Three}
use Rattle.picking.specs.declared.spot.Spot.{Spot}
use Rattle.picking.specs.Spot.{at}
use Rattle.nodes.specs.Problem.{one_of, three, problem, Pairs, fill_up, pair_lo, pair_hi, value_of}
use Rattle.nodes.specs.declared.due.Scope.{Scope}
use Rattle.nodes.specs.declared.due.Scope.TheVariants.{All, Above}

-- ---- operands.rt

abbrev pub ids : Node → Three
ids n = record { a = n.a; b = n.b; c = n.c }

abbrev pub operand_at : Node → ℕ → ℕ
operand_at n j = at (ids n) j

abbrev pub operand_count : Node → ℕ
operand_count n = (shape_of n.kind).operands

-- the ids of a node's operands are below k
abbrev pub OperandsBelow : Node → ℕ → Type 0
OperandsBelow n k = (i : ℕ) → i < operand_count n → at (ids n) i < k

-- what the list l has at the ids of the operands
unfoldable pub held_in : List ℕ → Node → Three
held_in l n = three (operand_count n) (λ i. get_or l (at (ids n) i) 0)

-- the operands' widths in the problem s
unfoldable pub widths_in : List ℕ → Node → Three
widths_in s n =
    record {
      a = one_of (ltb 0 (operand_count n)) (width_at s n.a) 0;
      b = one_of (ltb 1 (operand_count n)) (width_at s n.b) 0;
      c = one_of (ltb 2 (operand_count n)) (width_at s n.c) 0;
    }

unfoldable pub operator_in : List ℕ → Node → Op
operator_in s n = record { kind = n.kind; width = n.width; wa = (widths_in s n).a; wb = (widths_in s n).b; low = n.b }

-- ---- due.rt

-- whether all nodes are to be evaluated
abbrev pub is_all : Scope → Bool
is_all All = true
is_all Above = false

-- a test says whether something holds
pub record Tells (r : Bool) (A : Type 0) : Type 0 where
  pub yes : r ≡ true → A
  pub no : r ≡ false → A → ⊥

abbrev pub Marked : List ℕ → ℕ → Type 0
Marked marks m = 0 < get_or marks m 0

-- a node reads a marked one
pub record ReadsMarked (marks : List ℕ) (n : Node) : Type 0 where
  pub position : ℕ
  pub there : position < operand_count n
  pub is : Marked marks (operand_at n position)

-- it is to be evaluated: all are, or those that do
abbrev pub Wanted : Bool → List ℕ → Node → Type 0
Wanted all marks n = (all ≡ true) ⊎ ReadsMarked marks n

-- a node with so many operands, which have values and marks
pub record Askable (n : Node) (count values marks : ℕ) : Type 0 where
  pub counted : count ≡ operand_count n
  pub valued : OperandsBelow n values
  pub marked : OperandsBelow n marks

-- its operands, if it is to be evaluated
pub data Offered (all : Bool) (marks vs : List ℕ) (n : Node) : Option Three → Type 0 where
  offered : {x : Three} → Wanted all marks n → x ≡ held_in vs n → Offered all marks vs n (Some x)
  withheld : (Wanted all marks n → ⊥) → Offered all marks vs n None

-- ---- values.rt

-- the bytes of node i are there
abbrev pub Readable : List ℕ → ℕ → Type 0
Readable s i = 9 + 24 * i + 24 ≤ length s

-- the operator of node n, with the widths that stand at its fields a and b, whether its kind uses them or not
abbrev pub standing_op : List ℕ → Node → Op
standing_op s n = record { kind = n.kind; width = n.width; wa = width_at s n.a; wb = width_at s n.b; low = n.b }

-- node i of the problem s, where the places vs of the nodes below it hold values of their widths
pub record Evaluable (s vs : List ℕ) (i : ℕ) : Type 0 where
  pub places : (problem s).nodes ≤ length vs
  pub inside : i < (problem s).nodes
  pub narrow : (m : ℕ) → m < i → get_or vs m 0 < 2 ^ (problem s).width m

-- what the place of node i takes
pub data Takes (s : List ℕ) (i : ℕ) (all : Bool) (vs marks : List ℕ) : Option ℕ → Type 0 where
  value : {x : ℕ} → Wanted all marks (node_at s i) → x ≡ value_of (problem s) vs i → Takes s i all vs marks (Some x)
  nothing : (Wanted all marks (node_at s i) → ⊥) → Takes s i all vs marks None

-- ---- pairs.rt

abbrev pub pairs_of : List ℕ → List ℕ → Pairs
pairs_of los his = record { los = los; his = his }

-- the pair that an operator has from its operands' pairs
abbrev pub narrows : Op → Three → Three → Pair
narrows o lo hi =
    pair_of (kind_of o.kind) o.width o.wa o.wb o.low (pair lo.a hi.a) (pair lo.b hi.b) (pair lo.c hi.c)

abbrev pub derives : List ℕ → List ℕ → List ℕ → Node → Pair
derives s los his n = narrows (operator_in s n) (held_in los n) (held_in his n)

-- a node whose operator can be put to work on its operands' pairs
pub record Narrowed (s los his : List ℕ) (n : Node) : Type 0 where
  pub below_lo : OperandsBelow n (length los)
  pub below_hi : OperandsBelow n (length his)
  pub ready :
      PairsReady (operator_in s n) (pair (held_in los n).a (held_in his n).a) (pair (held_in los n).b (held_in his n).b)
      (pair (held_in los n).c (held_in his n).c)

-- node i of the problem s, and a place for each node in two lists, where the nodes below it have pairs of their widths
pub record Fillable (s los his : List ℕ) (i : ℕ) : Type 0 where
  pub room_lo : (problem s).nodes ≤ length los
  pub room_hi : (problem s).nodes ≤ length his
  pub inside : i < (problem s).nodes
  pub ternary : (n : ℕ) → n < i → Ternary ((problem s).width n) (pair (get_or los n 0) (get_or his n 0))

-- a place for each node in two lists
pub record Unfilled (s los his : List ℕ) : Type 0 where
  pub room_lo : (problem s).nodes ≤ length los
  pub room_hi : (problem s).nodes ≤ length his

-- the pairs of all nodes filled in, and every place after them as it was
abbrev pub Fills : List ℕ → List ℕ → List ℕ → List ℕ → List ℕ → Type 0
Fills s los his los' his' = pairs_of los' his' ≡ fill_up (problem s) (problem s).nodes (pairs_of los his)

-- an accepted problem, and all its pairs in the places of its nodes
pub record Filled (s los his : List ℕ) : Type 0 where
  pub accepted : checked s ≡ Accepted
  pub room_lo : (problem s).nodes ≤ length los
  pub room_hi : (problem s).nodes ≤ length his
  pub lo : (n : ℕ) → n < (problem s).nodes → get_or los n 0 ≡ pair_lo (problem s) n
  pub hi : (n : ℕ) → n < (problem s).nodes → get_or his n 0 ≡ pair_hi (problem s) n

-- ---- spot.rt

pub record Spotted (los his vs : List ℕ) (n : Node) : Type 0 where
  pub below_lo : OperandsBelow n (length los)
  pub below_hi : OperandsBelow n (length his)
  pub below : OperandsBelow n (length vs)

unfoldable pub spot_in : List ℕ → List ℕ → List ℕ → List ℕ → Node → Spot
spot_in s los his vs n =
    record {
      kind = n.kind;
      width = n.width;
      low = n.b;
      widths = widths_in s n;
      los = held_in los n;
      his = held_in his n;
      current = held_in vs n;
    }
