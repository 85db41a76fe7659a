-- Below 64 the shift is cut to w bits; an amount of 64 or more shifts everything out.
use Rattle.std.proofs.Common.{◌*◌, ◌^◌, ◌∙◌, arith}
use Rattle.words.specs.laws.Modular.{cut_cut}
use Rattle.words.specs.laws.Shift.{out_left}
use Rattle.operators.proofs.meaning.left.Goals as goal

pub returns-then-b-lt64 : goal.returns-then-b-lt64
returns-then-b-lt64 c = c.to_width.ensures ∙ cut_cut (c.args.a * 2 ^ c.args.b) 64 c.args.w (omega arith)

pub returns-else-b-lt64 : goal.returns-else-b-lt64
returns-else-b-lt64 c = out_left c.args.a c.args.b c.args.w (omega arith)
