use Rattle.std.proofs.Common.{◌≡◌}
use Rattle.models.specs.inner.Judging.{placed_up}
use Rattle.models.proofs.variables.Variables.assign.Given as goal

abbrev pub invariant-loop-k : goal.invariant-loop-k
invariant-loop-k l = l.values ≡ placed_up l.self.ids.now l.given.words l.k
