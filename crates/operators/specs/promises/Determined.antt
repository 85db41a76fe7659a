-- The contract of each public function determines its result: any two results that it allows are equal.
use Rattle.std.specs.Prelude.{◌≡◌, ℕ, ◌+◌, ◌-◌, ◌*◌, ◌/◌, ◌%◌, ◌^◌, Bool}
use Rattle.std.proofs.Common.{sym, ◌∙◌}
use Rattle.operators.specs.declared.table.Rule.{Rule}
use Rattle.operators.specs.declared.table.Shape.{Shape}
use Rattle.operators.specs.Table.{shape_of, rule_holds}
use Rattle.operators.specs.Meaning.{flag, signed_less, signed_shift, extended, quotient}

-- every contract here is an equation
equal : {A : Type 0} {v r s : A} → r ≡ v → s ≡ v → r ≡ s
equal p q = p ∙ sym q

pub shape_of_determined : (kind : ℕ) (r s : Shape) → r ≡ shape_of kind → s ≡ shape_of kind → r ≡ s
shape_of_determined kind r s = equal

pub operand_count_determined : (kind r s : ℕ) → r ≡ (shape_of kind).operands → s ≡ (shape_of kind).operands → r ≡ s
operand_count_determined kind r s = equal

pub rule_holds_determined : (rule : Rule) (w wa wb wc b : ℕ) (r s : Bool) → r ≡ rule_holds rule w wa wb wc b → s ≡ rule_holds rule w wa wb wc b → r ≡ s
rule_holds_determined rule w wa wb wc b r s = equal

pub ones_determined : (w r s : ℕ) → r ≡ 2 ^ w - 1 → s ≡ 2 ^ w - 1 → r ≡ s
ones_determined w r s = equal

pub flip_determined : (a w r s : ℕ) → r ≡ (2 ^ w - 1) - a → s ≡ (2 ^ w - 1) - a → r ≡ s
flip_determined a w r s = equal

pub part_determined : (a k w r s : ℕ) → r ≡ a / 2 ^ k % 2 ^ w → s ≡ a / 2 ^ k % 2 ^ w → r ≡ s
part_determined a k w r s = equal

pub half_determined : (w r s : ℕ) → r ≡ 2 ^ (w - 1) → s ≡ 2 ^ (w - 1) → r ≡ s
half_determined w r s = equal

pub extend_determined : (a k w r s : ℕ) → r ≡ extended k w a → s ≡ extended k w a → r ≡ s
extend_determined a k w r s = equal

pub sum_determined : (a b w r s : ℕ) → r ≡ (a + b) % 2 ^ w → s ≡ (a + b) % 2 ^ w → r ≡ s
sum_determined a b w r s = equal

pub product_determined : (a b w r s : ℕ) → r ≡ (a * b) % 2 ^ w → s ≡ (a * b) % 2 ^ w → r ≡ s
product_determined a b w r s = equal

pub left_determined : (a b w r s : ℕ) → r ≡ (a * 2 ^ b) % 2 ^ w → s ≡ (a * 2 ^ b) % 2 ^ w → r ≡ s
left_determined a b w r s = equal

pub right_determined : (a b r s : ℕ) → r ≡ a / 2 ^ b → s ≡ a / 2 ^ b → r ≡ s
right_determined a b r s = equal

pub join_determined : (a b k r s : ℕ) → r ≡ a * 2 ^ k + b → s ≡ a * 2 ^ k + b → r ≡ s
join_determined a b k r s = equal

pub less_signed_determined : (a b w : ℕ) (r s : Bool) → r ≡ signed_less w a b → s ≡ signed_less w a b → r ≡ s
less_signed_determined a b w r s = equal

pub below_signed_determined : (a b w r s : ℕ) → r ≡ flag (signed_less w a b) → s ≡ flag (signed_less w a b) → r ≡ s
below_signed_determined a b w r s = equal

pub right_signed_determined : (a b w r s : ℕ) → r ≡ signed_shift w a b → s ≡ signed_shift w a b → r ≡ s
right_signed_determined a b w r s = equal

pub quotient_determined : (a b w r s : ℕ) → r ≡ quotient w a b → s ≡ quotient w a b → r ≡ s
quotient_determined a b w r s = equal
