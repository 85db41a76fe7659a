use Rattle.std.proofs.Common.{◌≡◌}
use Rattle.mending.specs.Mended.{joined, node_bytes}
use Rattle.mending.specs.inner.Laid.{laid}
use Rattle.mending.proofs.writing.put_nodes.Given as goal

abbrev pub invariant-loop-k : goal.invariant-loop-k
invariant-loop-k l = l.out ≡ laid l.initial.out 9 (joined (node_bytes l.order.problem.now) l.k)
