-- A sum modulo 2^64, cut to w bits, is the sum modulo 2^w.
use Rattle.std.proofs.Common.{refl, ◌+◌, ◌∙◌, arith}
use Rattle.operators.specs.laws.Cuts.{recut}
use Rattle.operators.proofs.meaning.sum.Goals as goal

pub returns : goal.returns
returns c = c.to_width.ensures ∙ recut _ (c.args.a + c.args.b) 64 _ refl (omega arith)
