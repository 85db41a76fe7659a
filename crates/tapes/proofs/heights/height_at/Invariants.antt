use Rattle.std.proofs.Common.{◌≡◌}
use Rattle.tapes.proofs.Links.{above}
use Rattle.tapes.proofs.heights.height_at.Given as goal

abbrev pub invariant-loop-j : goal.invariant-loop-j
invariant-loop-j l = l.most ≡ above l.problem.bytes.now l.heights l.i l.j
