use Rattle.std.proofs.Common.{◌≡◌, false}
use Rattle.entries.specs.Names.{names, is_again, some}
use Rattle.entries.proofs.list.NameIndex.any_again.Given as goal

abbrev pub invariant-loop-k : goal.invariant-loop-k
invariant-loop-k l = some (is_again (names l.self.names.list.now)) l.k ≡ false
