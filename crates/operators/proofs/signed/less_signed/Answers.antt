-- The order of the words turned over is the signed one.
use Rattle.std.proofs.Common.{ltb, sym, ◌∙◌, ap₂}
use Rattle.operators.specs.laws.Signed.{signed_order}
use Rattle.operators.proofs.signed.less_signed.Goals as goal

pub returns : goal.returns
returns c =
    ap₂ ltb c.turn.ensures c.turn-2.ensures ∙ sym (signed_order c.args.w c.args.a c.args.b c.requires.0 c.requires.2 c.requires.3)
