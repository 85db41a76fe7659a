-- The raised word fits, so neither the shift nor the sums lose anything.
use Rattle.words.specs.inner.Words.{raised}
use Rattle.std.proofs.Common.{◌≡◌, ◌+◌, ◌*◌, ◌/◌, ◌%◌, ◌^◌, mod-eq_of_lt, le-mul_of_pos_right, arith, pow_pos}
use Rattle.words.proofs.ternary.raise.Goals as goal

pub overflow_add-result : goal.overflow_add-result
unfolding raised
overflow_add-result c = record { fits = omega (arith, le-mul_of_pos_right (c.args.p / 2 ^ c.args.i + 1) (pow_pos c.args.i), c.requires.1) }

pub overflow_add-result-2 : goal.overflow_add-result-2
unfolding raised
overflow_add-result-2 c =
    let e : ((c.args.p / 2 ^ c.args.i + 1) * 2 ^ c.args.i) % 2 ^ 64 ≡ (c.args.p / 2 ^ c.args.i + 1) * 2 ^ c.args.i = mod-eq_of_lt (omega (arith, c.requires.1)) in
    rw e record { fits = omega (arith, c.low_bits.ensures, c.requires.1) }

pub returns : goal.returns
unfolding raised
returns c =
    let e : ((c.args.p / 2 ^ c.args.i + 1) * 2 ^ c.args.i) % 2 ^ 64 ≡ (c.args.p / 2 ^ c.args.i + 1) * 2 ^ c.args.i = mod-eq_of_lt (omega (arith, c.requires.1)) in
    omega (arith, e, c.low_bits.ensures)
