use Rattle.std.proofs.Common.{◌≤◌, ◌*◌}
use Rattle.problem.specs.Layout.{node_count}
use Rattle.mending.specs.inner.Chains.{Pending, Tried}
use Rattle.mending.proofs.order.wake.Given as goal

abbrev pub invariant-loop-at : goal.invariant-loop-at
invariant-loop-at l = (l.at ≤ 3 * node_count l.readers.problem.now) × Tried l.readers.problem.now l.news (Pending l.readers.chains.now.nexts l.at) l.marks

abbrev pub decreases-loop-at : goal.decreases-loop-at
decreases-loop-at l = l.at
