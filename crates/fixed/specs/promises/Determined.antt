-- The contract of each public function determines its result: any two results that it allows are equal.
use Rattle.std.specs.Prelude.{◌≡◌, ℕ}
use Rattle.std.proofs.Common.{sym, ◌∙◌}
use Rattle.operators.specs.declared.meaning.Op.{Op}
use Rattle.operators.specs.Table.{kind_of}
use Rattle.fixed.specs.declared.Pair.{Pair}
use Rattle.fixed.specs.Fixed.{sign_over, pair_of}

pub sign_over_determined : (a b w r s : ℕ) → r ≡ sign_over w a b → s ≡ sign_over w a b → r ≡ s
sign_over_determined a b w r s p q = p ∙ sym q

pub pair_of_determined : (op : Op) (p q r v u : Pair) → v ≡ pair_of (kind_of op.kind) op.width op.wa op.wb op.low p q r
    → u ≡ pair_of (kind_of op.kind) op.width op.wa op.wb op.low p q r → v ≡ u
pair_of_determined op p q r v u e f = e ∙ sym f
