-- The loop's invariant: the first k values are in their places.
use Rattle.std.proofs.Common.{arith}
use Rattle.models.specs.laws.Variables.{id_few}
use Rattle.models.specs.laws.Values.{below_length}
use Rattle.models.proofs.variables.Variables.assign.Goals as goal

pub bounds-values-from : goal.bounds-values-from
bounds-values-from c = below_length _ _ _ _ _ c.loop-k.invariant (rw c.from.ensures (id_few _ _ _ _ c.args.self.now.prepared c.loop-k.k (omega arith)))
