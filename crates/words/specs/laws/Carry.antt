-- Sums bit by bit: what is carried into a place, and that it grows with the operands' bits. All at any width.
use Rattle.std.specs.Prelude.{◌≡◌, ℕ, ◌+◌, ◌*◌, ◌/◌, ◌%◌, ◌^◌, ◌<◌, ◌≤◌}
use Rattle.std.proofs.Common.{ap, ap₂, ◌∙◌, add-le-add, mod-lt, div-lt_iff_lt-mul, arith, pow_pos}
use Rattle.std.proofs.Math.Nat.{mul-add-div_right}
use Rattle.std.proofs.Math.Pow.{split, shr_mono}
use Rattle.words.specs.Agree.{Within}
use Rattle.words.specs.Bits.{bit}
use Rattle.words.specs.laws.Agree.{within_le, within_mod}

-- what is carried into place i of x + y
unfoldable pub carry : ℕ → ℕ → ℕ → ℕ
carry i x y = (x % 2 ^ i + y % 2 ^ i) / 2 ^ i

pub carry_lt : (i x y : ℕ) → carry i x y < 2
unfolding carry
carry_lt i x y = (div-lt_iff_lt-mul (pow_pos i)).1 (omega (arith, mod-lt x (pow_pos i), mod-lt y (pow_pos i)))

-- it grows with the operands' bits
pub carry_mono : {x y x' y' : ℕ} (i : ℕ) → Within x x' → Within y y' → carry i x y ≤ carry i x' y'
unfolding carry
carry_mono i h k = shr_mono i (add-le-add (within_le (within_mod i h)) (within_le (within_mod i k)))

-- and comes from the bits below i alone
pub carry_low : (i x y x' y' : ℕ) → x % 2 ^ i ≡ x' % 2 ^ i → y % 2 ^ i ≡ y' % 2 ^ i → carry i x y ≡ carry i x' y'
unfolding carry
carry_low i x y x' y' e f = ap₂ (λ (a b : ℕ). (a + b) / 2 ^ i) e f

-- a bit of a sum: the operands' bits, and what is carried
pub bit_sum : (i x y : ℕ) → bit i (x + y) ≡ (bit i x + bit i y + carry i x y) % 2
unfolding bit carry
bit_sum i x y =
    ap (λ (n : ℕ). n / 2 ^ i % 2) parts
    ∙ ap (λ (n : ℕ). n % 2) (mul-add-div_right (pow_pos i) (x / 2 ^ i + y / 2 ^ i) (x % 2 ^ i + y % 2 ^ i))
    ∙ parity (x / 2 ^ i) (y / 2 ^ i) ((x % 2 ^ i + y % 2 ^ i) / 2 ^ i)
  where
    parts : x + y ≡ (x / 2 ^ i + y / 2 ^ i) * 2 ^ i + (x % 2 ^ i + y % 2 ^ i)
    parts = omega (arith, split x i, split y i)

    parity : (a b c : ℕ) → (a + b + c) % 2 ≡ (a % 2 + b % 2 + c) % 2
    parity a b c = omega arith
