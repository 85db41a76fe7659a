-- A sum modulo 2^64, cut to w bits.
use Rattle.std.proofs.Common.{refl, ℕ, ◌+◌, ◌%◌, ◌^◌, ap, ◌∙◌, arith}
use Rattle.operators.specs.laws.Cuts.{recut}
use Rattle.operators.proofs.signed.turn.Goals as goal

pub returns : goal.returns
returns c =
    c.to_width.ensures ∙ recut _ (c.args.a + c.half.result) 64 _ refl (omega arith)
    ∙ ap (λ (n : ℕ). (c.args.a + n) % 2 ^ c.args.w) c.half.ensures
