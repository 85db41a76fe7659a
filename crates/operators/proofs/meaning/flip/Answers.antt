-- The complement of a 64-bit word, cut to w bits, is the complement of w bits.
use Rattle.std.proofs.Common.{◌∙◌, arith}
use Rattle.operators.specs.laws.Cuts.{flipped}
use Rattle.operators.proofs.meaning.flip.Goals as goal

pub returns : goal.returns
returns c = c.to_width.ensures ∙ flipped c.args.a c.args.w 64 (omega arith) (omega arith)
