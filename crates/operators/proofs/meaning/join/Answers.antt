-- The shifted high bits lose nothing, and the low bits stand under them.
use Rattle.std.proofs.Common.{arith}
use Rattle.words.specs.laws.Shift.{join_law}
use Rattle.operators.proofs.meaning.join.Goals as goal

pub returns : goal.returns
returns c = join_law c.args.a c.args.b c.args.k 64 (omega arith) (omega arith) (omega arith)
