use Rattle.std.proofs.Common.{◌≡◌}
use Rattle.mending.specs.Mended.{joined, root_bytes}
use Rattle.mending.specs.inner.Laid.{laid}
use Rattle.mending.proofs.writing.put_roots.Given as goal

abbrev pub invariant-loop-j : goal.invariant-loop-j
invariant-loop-j l = l.out ≡ laid l.initial.out l.start (joined (root_bytes l.problem) l.j)
