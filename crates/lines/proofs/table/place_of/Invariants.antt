use Rattle.std.proofs.Common.{◌≡◌, ◌+◌, drop}
use Rattle.lines.specs.inner.Keys.{position, keys}
use Rattle.lines.proofs.table.place_of.Given as goal

abbrev pub invariant-loop-i : goal.invariant-loop-i
invariant-loop-i l = position l.key keys ≡ l.i + position l.key (drop l.i keys)
