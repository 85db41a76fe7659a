use Rattle.std.proofs.Common.{◌≡◌, ◌≤◌, length, drop}
use Rattle.entries.specs.Names.{names}
use Rattle.entries.specs.inner.Places.{line_start, Placed, Written}
use Rattle.entries.proofs.names.read_names.Given as goal

abbrev pub invariant-loop-k : goal.invariant-loop-k
invariant-loop-k l = (l.at ≤ length l.list) × (length l.froms ≡ 1024) × (length l.tos ≡ 1024) × (l.k ≤ length (names l.list)) × (names (drop l.at l.list) ≡ drop l.k (names l.list)) × Placed l.list l.froms l.tos l.k × (l.at ≡ line_start l.list l.k) × Written l.list l.initial.froms l.initial.tos l.froms l.tos l.k
