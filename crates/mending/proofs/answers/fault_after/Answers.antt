-- Once no node is left, all are placed.
use Rattle.std.proofs.Common.{sym, ◌∙◌}
use Rattle.mending.specs.laws.Accepted.{no_circle}
use Rattle.mending.proofs.answers.fault_after.Goals as goal

pub mended_fault-requires : goal.mended_fault-requires
mended_fault-requires c = no_circle _ (sym c.circle_fault.ensures ∙ c.in_ok-circle_fault.was)
