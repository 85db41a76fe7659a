-- The fronts are what was read, which is enough, and the whole text has room.
use Rattle.std.proofs.Common.{arith}
use Rattle.files.specs.laws.Whole.{told_prints}
use Rattle.files.proofs.output.Goals as goal

pub returns : goal.returns
returns c =
    let problem = c.front.ensures in
    let start = c.front-2.ensures in
    let tape = c.front-3.ensures in
    told_prints (omega arith) (omega arith) (omega arith) (omega arith) (rw (problem, start, tape) at c.tell_files.ensures)
