use Rattle.std.proofs.Common.{◌≡◌, ◌*◌, ◌≤◌, length, take}
use lib.Seq.{sets}
use Rattle.spelling.specs.Bytes.{all_nodes}
use Rattle.spelling.specs.inner.Spelled.{new_read}
use Rattle.btor2.proofs.take.add_nodes.Given as goal

abbrev pub invariant-loop-j : goal.invariant-loop-j
invariant-loop-j l = (length l.bytes ≡ length l.initial.bytes) × (l.x.width ≤ 64 → l.bytes ≡ sets l.initial.bytes (24 * l.n) (all_nodes (take l.j (new_read l.x l.n))))
