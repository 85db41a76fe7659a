-- Nothing, or ones above.
use Rattle.std.proofs.Common.{◌≡◌, ℕ, ◌+◌, ◌-◌, ◌^◌, sym, ap, ◌∙◌, le_trans, le_of_eq, lt_of_lt_of_le, arith, pow_pos, pow_mono}
use Rattle.operators.specs.laws.Signed.{extended_low, extended_high}
use Rattle.operators.proofs.signed.extend.Goals as goal

pub returns-then-a-half : goal.returns-then-a-half
returns-then-a-half c =
    sym (extended_low c.args.k c.args.w (lt_of_lt_of_le c.if-a-half.true (le_of_eq c.half.ensures)))

pub overflow_sub-result : goal.overflow_sub-result
overflow_sub-result c =
    omega (arith, c.ones-2.ensures, c.ones.ensures, pow_mono c.requires.1)

pub returns : goal.returns
returns c =
    let e : c.ones.result - c.ones-2.result ≡ 2 ^ c.args.w - 2 ^ c.args.k = omega (arith, c.ones-2.ensures, c.ones.ensures, pow_pos c.args.k) in
    ap (λ (n : ℕ). c.args.a + n) e ∙ sym (extended_high c.args.k c.args.w c.requires.0 c.requires.1 (le_trans (le_of_eq (sym c.half.ensures)) c.if-a-half.false) c.requires.3)
