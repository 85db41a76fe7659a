-- At first there are no marks.
use Rattle.std.proofs.Common.{refl}
use Rattle.problem.proofs.Passed.{passed_none}
use Rattle.problem.proofs.repeats.repeats_fault.Goals as goal

pub loop-j-init : goal.loop-j-init
loop-j-init c = (passed_none _, refl)
