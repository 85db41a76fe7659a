-- What an accepted problem has, as facts for the layers above: no line of the table of refusals, 1 to 13, 16 and 20, is given.
use Rattle.std.specs.Prelude.{ℕ, ◌^◌, ◌≤◌, ◌<◌, ◌≡◌, List, length, get_or}
use Rattle.words.specs.Agree.{Within}
use Rattle.operators.specs.Table.{kind_count, shape_of, RuleMet}
use Rattle.problem.specs.declared.layout.Node.{Node}
use Rattle.problem.specs.Layout.{version, node_count, root_count, node_at, width_at, root_at, total_length}

-- 1 to 6
pub record HeaderFacts (s : List ℕ) : Type 0 where
  pub long : 9 ≤ length s
  pub mark_t : get_or s 0 0 ≡ 84
  pub mark_b : get_or s 1 0 ≡ 66
  pub mark_v : get_or s 2 0 ≡ 86
  pub version_one : version s ≡ 1
  pub nodes : node_count s ≤ 1024
  pub roots : root_count s ≤ 256
  pub whole : length s ≡ total_length s

-- 7 to 12, of a node n with id i and the widths of the nodes that its fields a, b, c name; that a division has a width of at most 16 (20) is part of
-- its width rule
pub record NodeFacts (n : Node) (i wa wb wc : ℕ) : Type 0 where
  pub kind_known : n.kind < kind_count
  pub width_some : 0 < n.width
  pub width_most : n.width ≤ 64
  pub a_below : 0 < (shape_of n.kind).operands → n.a < i
  pub b_below : 1 < (shape_of n.kind).operands → n.b < i
  pub c_below : 2 < (shape_of n.kind).operands → n.c < i
  pub a_unused : (shape_of n.kind).fields ≤ 0 → n.a ≡ 0
  pub b_unused : (shape_of n.kind).fields ≤ 1 → n.b ≡ 0
  pub c_unused : (shape_of n.kind).fields ≤ 2 → n.c ≡ 0
  pub lo_unused : 2 ≤ n.kind → n.lo ≡ 0
  pub hi_unused : 2 ≤ n.kind → n.hi ≡ 0
  pub rule : RuleMet (shape_of n.kind).rule n.width wa wb wc n.b
  pub lo_inside : n.kind ≤ 1 → Within n.lo n.hi
  pub hi_fits : n.kind ≤ 1 → n.hi < 2 ^ n.width
  pub constant_fixed : n.kind ≡ 1 → n.lo ≡ n.hi

-- 1 to 13, 16 and 20
pub record Facts (s : List ℕ) : Type 0 where
  pub header : HeaderFacts s
  pub node :
      (i : ℕ)
      → i < node_count s
      → NodeFacts (node_at s i) i (width_at s (node_at s i).a) (width_at s (node_at s i).b) (width_at s (node_at s i).c)
  pub root_below : (j : ℕ) → j < root_count s → root_at s j < node_count s
  pub root_bit : (j : ℕ) → j < root_count s → width_at s (root_at s j) ≡ 1
  pub roots_differ : (i j : ℕ) → i < j → j < root_count s → root_at s i ≡ root_at s j → ⊥
