use Rattle.std.proofs.Common.{◌≡◌, ◌-◌, ◌≤◌, ◌<◌, length}
use Rattle.lines.specs.laws.Text.{Begins}
use Rattle.btor2.specs.laws.Fold.{Going}
use Rattle.btor2.proofs.fold.fold_lines.Given as goal

abbrev pub invariant-loop-fault : goal.invariant-loop-fault
invariant-loop-fault l = (l.at ≤ length l.text) × (l.passed ≤ l.at) × Begins l.text l.at l.passed × Going l.room l.text l.passed l.draft.counts l.draft.bytes l.draft.ids l.draft.places l.draft.rooted l.sorts.count l.sorts.ids l.sorts.widths × (length l.text < 18446744073709551616) × (length l.marks ≡ 24)

abbrev pub decreases-loop-fault : goal.decreases-loop-fault
decreases-loop-fault l = length l.text - l.at
