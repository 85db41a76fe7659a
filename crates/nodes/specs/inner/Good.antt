-- The facts that an accepted problem has, of the problem as the run sees it; and those of the values while it runs.
use Rattle.std.specs.Prelude.{◌≡◌, List, ℕ, ◌^◌, ◌≤◌, ◌<◌, length}
use Rattle.words.specs.Agree.{Within}
use Rattle.operators.specs.Table.{kind_count, shape_of, RuleMet}
use Rattle.picking.specs.declared.spot.Three.{Three}
use Rattle.nodes.specs.Problem.{Prob, three, count, arg}
use Rattle.nodes.specs.Values.{Evaluated, VariablesAgree}

-- the widths of node n's operands
abbrev pub widths_of : Prob → ℕ → Three
widths_of P n = three (count P n) (λ i. P.width (arg P n i))

pub record GoodNode (P : Prob) (n : ℕ) : Type 0 where
  pub known : P.kind n < kind_count
  pub some : 1 ≤ P.width n
  pub wide : P.width n ≤ 64
  pub below : (i : ℕ) → i < count P n → arg P n i < n
  pub rule : RuleMet (shape_of (P.kind n)).rule (P.width n) (widths_of P n).a (widths_of P n).b (widths_of P n).c (P.fields n).b
  pub ordered : P.kind n < 2 → Within (P.own_lo n) (P.own_hi n)
  pub under : P.kind n < 2 → P.own_hi n < 2 ^ P.width n
  pub same : P.kind n ≡ 1 → P.own_lo n ≡ P.own_hi n

pub record Good (P : Prob) : Type 0 where
  pub few : P.nodes ≤ 1024
  pub few_roots : P.entries ≤ 256
  pub node : (n : ℕ) → n < P.nodes → GoodNode P n
  pub root_below : (j : ℕ) → j < P.entries → P.root j < P.nodes
  pub root_bit : (j : ℕ) → j < P.entries → P.width (P.root j) ≡ 1

-- the values of a run: a place for each node, which holds its value, and variables that agree with their pairs
pub record Held (P : Prob) (vs : List ℕ) : Type 0 where
  pub places : P.nodes ≤ length vs
  pub evaluated : Evaluated P vs
  pub agrees : VariablesAgree P vs
