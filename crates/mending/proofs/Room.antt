-- What the header's lines leave is long enough for every node.
use Rattle.std.proofs.Common.{◌≡◌, ℕ, ◌+◌, ◌*◌, ◌≤◌, List, length, arith}
use Rattle.problem.specs.Layout.{node_count}
use Rattle.problem.specs.Refusals.{Accepted, header_fault}
use Rattle.problem.specs.laws.Facts.{header_accepted}

pub header_room : (s : List ℕ) → header_fault s ≡ Accepted → 9 + 24 * node_count s ≤ length s
header_room s h = omega (arith, (header_accepted s h).whole)
