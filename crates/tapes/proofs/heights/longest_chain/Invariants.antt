use Rattle.std.proofs.Common.{◌≡◌}
use Rattle.tapes.proofs.Links.{tallest}
use Rattle.tapes.proofs.heights.longest_chain.Given as goal

abbrev pub invariant-loop-j : goal.invariant-loop-j
invariant-loop-j l = l.most ≡ tallest l.problem.bytes.now l.heights l.j
