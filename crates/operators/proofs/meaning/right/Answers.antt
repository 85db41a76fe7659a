-- An amount of 64 or more shifts everything out.
use Rattle.std.proofs.Common.{arith}
use Rattle.words.specs.laws.Shift.{out_right}
use Rattle.operators.proofs.meaning.right.Goals as goal

pub returns-else-b-lt64 : goal.returns-else-b-lt64
returns-else-b-lt64 c = out_right c.args.a c.args.b 64 (omega arith) (omega arith)
