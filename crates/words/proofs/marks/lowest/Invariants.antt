use Rattle.std.proofs.Common.{◌≡◌, ◌/◌, ◌≤◌}
use Rattle.words.specs.inner.Marks.{Clear}
use Rattle.words.proofs.marks.lowest.Given as goal

abbrev pub invariant-loop-w : goal.invariant-loop-w
invariant-loop-w l = (l.from ≤ l.at) × (l.at ≤ 1024) × (l.at / 64 ≡ l.w) × Clear l.marks l.from l.at
