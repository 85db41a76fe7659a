use Rattle.std.proofs.Common.{◌*◌}
use Rattle.mending.specs.inner.Chains.{Chained}
use Rattle.mending.proofs.readers.link_all.Given as goal

abbrev pub invariant-loop-i : goal.invariant-loop-i
invariant-loop-i l = Chained l.problem (3 * l.i) l.chains.heads l.chains.nexts
