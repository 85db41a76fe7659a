use Rattle.std.proofs.Common.{◌≡◌}
use Rattle.mending.specs.Order.{numbers}
use Rattle.mending.specs.inner.Chains.{Exact}
use Rattle.mending.specs.inner.Laid.{laid}
use Rattle.mending.proofs.Turns.{ids}
use Rattle.mending.proofs.order.place_all.Given as goal

abbrev pub invariant-loop-k : goal.invariant-loop-k
invariant-loop-k l = (l.news ≡ numbers l.readers.problem.now l.k) × (l.olds ≡ laid l.initial.olds 0 (ids l.readers.problem.now l.k)) × Exact l.readers.problem.now l.news l.marks
