-- A full word of 64 bits, cut to w bits.
use Rattle.std.proofs.Common.{◌∙◌, arith}
use Rattle.operators.specs.laws.Cuts.{ones_cut}
use Rattle.operators.proofs.meaning.ones.Goals as goal

pub returns : goal.returns
returns c = c.cut.ensures ∙ ones_cut c.args.w 64 (omega arith)
