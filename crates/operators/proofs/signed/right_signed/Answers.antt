-- Where the sign is set, the complement of what the complement is shifted to.
use Rattle.std.proofs.Common.{ℕ, ◌-◌, ◌/◌, ◌^◌, sym, ap, ◌∙◌, le_trans, le_of_eq, lt_of_lt_of_le}
use Rattle.operators.specs.laws.Signed.{ashr_low, ashr_high}
use Rattle.operators.proofs.signed.right_signed.Goals as goal

pub returns-then-a-half : goal.returns-then-a-half
returns-then-a-half c =
    c.right.ensures ∙ sym (ashr_low c.args.w c.args.b (lt_of_lt_of_le c.if-a-half.true (le_of_eq c.half.ensures)))

pub returns : goal.returns
returns c =
    let m = 2 ^ c.args.w - 1 in
    c.flip-2.ensures ∙ ap (λ (n : ℕ). m - n) (c.right-2.ensures ∙ ap (λ (n : ℕ). n / 2 ^ c.args.b) c.flip.ensures)
    ∙ sym (ashr_high c.args.w c.args.b c.requires.0 (le_trans (le_of_eq (sym c.half.ensures)) c.if-a-half.false) c.requires.2)
