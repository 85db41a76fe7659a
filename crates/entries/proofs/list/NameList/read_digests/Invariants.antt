use Rattle.std.proofs.Common.{◌≡◌}
use Rattle.entries.specs.inner.Places.{Digested, digests_up}
use Rattle.entries.proofs.list.NameList.read_digests.Given as goal

abbrev pub invariant-loop-k : goal.invariant-loop-k
invariant-loop-k l = Digested l.self.list.now l.digests l.k × (l.digests ≡ digests_up l.self.list.now l.k l.initial.digests)
