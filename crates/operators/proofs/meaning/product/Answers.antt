-- A product modulo 2^64, cut to w bits, is the product modulo 2^w.
use Rattle.std.proofs.Common.{◌*◌, ◌∙◌, arith}
use Rattle.operators.specs.laws.Cuts.{recut}
use Rattle.operators.proofs.meaning.product.Goals as goal

pub returns : goal.returns
returns c = c.to_width.ensures ∙ recut _ (c.args.a * c.args.b) 64 _ c.wrapping_mul.ensures (omega arith)
