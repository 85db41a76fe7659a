-- Document 02, R-11: "Users write the remainder as a minus b times the quotient, and that identity is shown, zero divisor included."
use Rattle.std.specs.Prelude.{◌≡◌, ℕ, zero, suc, ◌+◌, ◌-◌, ◌*◌, ◌/◌, ◌%◌, ◌^◌, ◌<◌, ◌≤◌}
use Rattle.std.proofs.Common.{sym, ap, ◌∙◌, mod-eq_of_lt, lt_of_le_of_lt, zero-mul, arith}
use Rattle.std.proofs.Math.Nat.{mul-div-le, mod_def, zero-mod}
use Rattle.operators.specs.Table.{inv, add, mul, udiv}
use Rattle.operators.specs.Meaning.{remainder, meaning}

-- x minus y, of w bits, as it is spelled out in nodes: not (not x plus y)
abbrev pub minus : ℕ → ℕ → ℕ → ℕ
minus w x y = meaning inv w w w 0 (meaning add w w w 0 (meaning inv w w w 0 x 0 0) y 0) 0 0

minus_is : (w x y : ℕ) → x < 2 ^ w → y ≤ x → minus w x y ≡ x - y
minus_is w x y h l = ap (λ (n : ℕ). (2 ^ w - 1) - n) (mod-eq_of_lt (below (2 ^ w) h)) ∙ back (2 ^ w) h
  where
    below : (m : ℕ) → x < m → (m - 1) - x + y < m
    below m h = omega arith

    back : (m : ℕ) → x < m → (m - 1) - ((m - 1) - x + y) ≡ x - y
    back m h = omega arith

-- x minus y times the quotient, made of the operators themselves, is SMT-LIB's bvurem
pub remainder_is : (w x y : ℕ) → x < 2 ^ w → minus w x (meaning mul w w w 0 y (meaning udiv w w w 0 x y 0) 0) ≡ remainder x y
remainder_is w x zero h = ap (minus w x) (ap (λ (n : ℕ). n % 2 ^ w) (zero-mul (2 ^ w - 1)) ∙ zero-mod (2 ^ w)) ∙ minus_is w x 0 h (omega arith) ∙ omega arith
remainder_is w x (suc y) h =
    let l = mul-div-le x (suc y) in
    ap (minus w x) (mod-eq_of_lt (lt_of_le_of_lt l h)) ∙ minus_is w x (suc y * (x / suc y)) h l ∙ sym (mod_def x (suc y))
