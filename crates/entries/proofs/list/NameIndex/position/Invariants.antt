use Rattle.std.proofs.Common.{◌≡◌, ◌+◌, drop}
use Rattle.entries.specs.Names.{names, position}
use Rattle.entries.proofs.list.NameIndex.position.Given as goal

abbrev pub invariant-loop-k : goal.invariant-loop-k
invariant-loop-k l = l.k + position l.name (drop l.k (names l.self.names.list.now)) ≡ position l.name (names l.self.names.list.now)
