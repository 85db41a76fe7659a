use Rattle.std.proofs.Common.{◌≡◌}
use Rattle.nodes.specs.Problem.{problem, fill_up}
use Rattle.nodes.specs.inner.Nodes.{pairs_of}
use Rattle.nodes.proofs.pairs.fill.Given as goal

abbrev pub invariant-loop-i : goal.invariant-loop-i
invariant-loop-i l = (l.i-end ≡ (problem l.problem.bytes.now).nodes) × (pairs_of l.los l.his ≡ fill_up (problem l.problem.bytes.now) l.i (pairs_of l.initial.los l.initial.his))
