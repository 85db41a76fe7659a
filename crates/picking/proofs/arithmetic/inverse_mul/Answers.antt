-- By 0 only 0 is had; by 2^k times an odd number the low w - k bits are settled where 2^k divides t.
use Rattle.std.proofs.Common.{refl, arith, rules}
use Rattle.words.specs.laws.Zeros.{tail_lt}
use Rattle.picking.proofs.ArithmeticLaws.{mul_by}
use Rattle.picking.proofs.arithmetic.inverse_mul.Goals as goal

pub overflow_sub-w : goal.overflow_sub-w
overflow_sub-w c =
    omega (arith, tail_lt _ _ _ _ c.requires.1 c.low_bit-k.ensures)

pub overflow_sub-w-2 : goal.overflow_sub-w-2
overflow_sub-w-2 c =
    omega (arith, tail_lt _ _ _ _ c.requires.1 c.low_bit-k.ensures)

pub returns : goal.returns
returns c =
    mul_by c.requires.0 c.requires.1 c.low_bit-k.ensures c.odd_inverse.ensures c.wrapping_mul-x.ensures c.cut.ensures (search rules) c.cut-2.ensures c.ending.ensures
