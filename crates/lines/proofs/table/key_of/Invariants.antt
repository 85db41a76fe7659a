use mathlib.Core.Path.{◌≡◌}
use Prim.Native.Nat.{◌-◌, ◌<◌}
use lib.ListN.{length, drop}
use Rattle.lines.specs.inner.Keys.{packed}
use Rattle.lines.specs.laws.Keys.{bound}
use Rattle.lines.proofs.table.key_of.Given as goal

abbrev pub invariant-loop-i : goal.invariant-loop-i
invariant-loop-i l = (l.n ≡ packed (drop l.i l.t)) × (l.n < bound (length l.t - l.i))
