use Rattle.std.proofs.Common.{◌≡◌, ◌≤◌, length, take}
use Rattle.lines.specs.Lines.{lines}
use Rattle.lines.specs.inner.Told.{find_line}
use Rattle.lines.specs.laws.Text.{Begins, find_from}
use Rattle.lines.proofs.told.line_of.Given as goal

abbrev pub invariant-loop-i : goal.invariant-loop-i
invariant-loop-i l = (l.at ≤ length l.text) × (l.i ≤ l.at) × Begins l.text l.at l.i × (find_line l.id (take l.passed (lines l.text)) ≡ find_from l.id l.text l.passed l.i)
