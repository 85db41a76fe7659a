-- What each operator means, on numbers: SMT-LIB's theory FixedSizeBitVectors and logic QF_BV, in arithmetic.
-- w is the node's width, wa and wb the widths of operands a and b, low the field b; x, y, z are the operands' values.
use Rattle.std.specs.Prelude.{◌≡◌, ℕ, zero, suc, ◌+◌, ◌-◌, ◌*◌, ◌/◌, ◌%◌, ◌^◌, ◌<◌, ◌≤◌, Bool, true, false, ◌==◌, bit_and, bit_xor, nat_lt}
use Rattle.words.specs.Bits.{bit}
use Rattle.operators.specs.declared.table.Rule.{Rule}
use Rattle.operators.specs.declared.table.Rule.TheVariants.{Free, One, Both, Equal, Choice, Sum, Part, Longer, Narrow}
use Rattle.operators.specs.Table.{Kind, variable, constant, inv, conj, xor, add, mul, shl, lshr, eq, below, ite, concat, extract, slt, ashr, sext, udiv}

-- the one bit that tells a test
abbrev pub flag : Bool → ℕ
flag true = 1
flag false = 0

-- if a then b else c: 0 is false
abbrev pub choose : ℕ → ℕ → ℕ → ℕ
choose zero b c = c
choose (suc a) b c = b

-- ---- signed words (02, R-1)

-- the highest of w bits
abbrev pub sign : ℕ → ℕ → ℕ
sign w x = bit (w - 1) x

-- of two signs and whether x is below y
abbrev pub by_signs : ℕ → ℕ → Bool → Bool
by_signs zero zero t = t
by_signs zero (suc q) t = false
by_signs (suc p) zero t = true
by_signs (suc p) (suc q) t = t

-- bvslt, of words of w bits: x is negative and y is not, or their signs are the same and x is below y
abbrev pub signed_less : ℕ → ℕ → ℕ → Bool
signed_less w x y = by_signs (sign w x) (sign w y) (nat_lt x y)

-- bvashr: x shifted right, or where x is negative the complement of its complement shifted right
abbrev pub signed_shift : ℕ → ℕ → ℕ → ℕ
signed_shift w x y = choose (sign w x) ((2 ^ w - 1) - ((2 ^ w - 1) - x) / 2 ^ y) (x / 2 ^ y)

-- sign_extend: the sign repeated over the wa bits of x
abbrev pub extended : ℕ → ℕ → ℕ → ℕ
extended wa w x = sign wa x * (2 ^ (w - wa) - 1) * 2 ^ wa + x

-- ---- division (02, R-11)

-- bvudiv: all ones for a zero divisor
abbrev pub quotient : ℕ → ℕ → ℕ → ℕ
quotient w x y = choose y (x / y) (2 ^ w - 1)

-- bvurem: the dividend for a zero divisor
abbrev pub remainder : ℕ → ℕ → ℕ
remainder x y = choose y (x % y) x

-- ---- by kind

-- "Sums and products are taken modulo 2^w. A shift by w or more gives 0." (Variables and constants have no operator.)
abbrev pub meaning : Kind → ℕ → ℕ → ℕ → ℕ → ℕ → ℕ → ℕ → ℕ
meaning variable w wa wb low x y z = 0
meaning constant w wa wb low x y z = 0
meaning inv w wa wb low x y z = (2 ^ w - 1) - x
meaning conj w wa wb low x y z = bit_and x y
meaning xor w wa wb low x y z = bit_xor x y
meaning add w wa wb low x y z = (x + y) % 2 ^ w
meaning mul w wa wb low x y z = (x * y) % 2 ^ w
meaning shl w wa wb low x y z = (x * 2 ^ y) % 2 ^ w
meaning lshr w wa wb low x y z = x / 2 ^ y
meaning eq w wa wb low x y z = flag (x == y)
meaning below w wa wb low x y z = flag (nat_lt x y)
meaning ite w wa wb low x y z = choose x y z
meaning concat w wa wb low x y z = x * 2 ^ wb + y
meaning extract w wa wb low x y z = x / 2 ^ low % 2 ^ w
meaning slt w wa wb low x y z = flag (signed_less wa x y)
meaning ashr w wa wb low x y z = signed_shift w x y
meaning sext w wa wb low x y z = extended wa w x
meaning udiv w wa wb low x y z = quotient w x y

-- the operands' values x, y, z are of the widths that the width rule gives them
abbrev pub Fit : Rule → ℕ → ℕ → ℕ → ℕ → ℕ → ℕ → ℕ → Type 0
Fit Free w wa wb low x y z = Unit {0}
Fit One w wa wb low x y z = x < 2 ^ w
Fit Both w wa wb low x y z = (x < 2 ^ w) × (y < 2 ^ w)
Fit Equal w wa wb low x y z = (1 ≤ wa) × (wa ≤ 64) × (x < 2 ^ wa) × (y < 2 ^ wa)
Fit Choice w wa wb low x y z = (x < 2) × (y < 2 ^ w) × (z < 2 ^ w)
Fit Sum w wa wb low x y z = (wa + wb ≡ w) × (1 ≤ wa) × (x < 2 ^ wa) × (y < 2 ^ wb)
Fit Part w wa wb low x y z = (low + w ≤ wa) × (wa ≤ 64) × (x < 2 ^ wa)
Fit Longer w wa wb low x y z = (1 ≤ wa) × (wa < w) × (x < 2 ^ wa)
Fit Narrow w wa wb low x y z = (x < 2 ^ w) × (y < 2 ^ w)
