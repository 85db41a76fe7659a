-- What is asked of an operator in its place, and of its operands' values.
use Rattle.std.specs.Prelude.{ℕ, ◌<◌, ◌≤◌}
use Rattle.operators.specs.declared.meaning.Op.{Op}
use Rattle.operators.specs.Table.{kind_count, shape_of}
use Rattle.operators.specs.Meaning.{Fit}

-- of three facts, of the operands a, b and c, those that there are for n operands
pub record Used (n : ℕ) (A B C : Type 0) : Type 0 where
  pub a : 1 ≤ n → A
  pub b : 2 ≤ n → B
  pub c : 3 ≤ n → C

-- an operator of the kinds from 2 on, a width of 1 to 64, and operands' values of the widths that the width rule gives them
pub record Ready (op : Op) (x y z : ℕ) : Type 0 where
  pub operator : 2 ≤ op.kind
  pub known : op.kind < kind_count
  pub some : 1 ≤ op.width
  pub wide : op.width ≤ 64
  pub fit : Fit (shape_of op.kind).rule op.width op.wa op.wb op.low x y z
