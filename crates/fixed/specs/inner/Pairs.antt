-- What is asked of pairs, and of an operator in its place with its operands' pairs.
use Rattle.std.specs.Prelude.{ℕ, ◌^◌, ◌<◌}
use Rattle.words.specs.Agree.{Within, Agrees}
use Rattle.operators.specs.declared.meaning.Op.{Op}
use Rattle.operators.specs.Table.{shape_of}
use Rattle.operators.specs.inner.Ready.{Used, Ready}
use Rattle.fixed.specs.declared.Pair.{Pair}

-- "A ternary word is a pair lo, hi with no bit set in lo and clear in hi."
abbrev pub Ordered : Pair → Type 0
Ordered p = Within p.lo p.hi

-- a ternary word of w bits
pub record Ternary (w : ℕ) (p : Pair) : Type 0 where
  pub ordered : Ordered p
  pub short : p.hi < 2 ^ w

-- the value v agrees with the pair p
abbrev pub Agreeing : Pair → ℕ → Type 0
Agreeing p v = Agrees p.lo p.hi v

-- what is asked of an operator in its place, of its operands' pairs, each of which is a ternary word
pub record PairsReady (op : Op) (p q r : Pair) : Type 0 where
  pub ready : Ready op p.hi q.hi r.hi
  pub ordered : Used (shape_of op.kind).operands (Ordered p) (Ordered q) (Ordered r)
