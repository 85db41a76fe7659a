use Rattle.std.proofs.Common.{◌≡◌, length, take}
use Rattle.std.proofs.Math.Seq.{sets}
use Rattle.spelling.specs.Bytes.{all_roots}
use Rattle.spelling.proofs.writing.put_roots.Given as goal

abbrev pub invariant-loop-i : goal.invariant-loop-i
invariant-loop-i l = (length l.out ≡ length l.initial.out) × (l.out ≡ sets l.initial.out l.at (all_roots (take l.i l.rooted)))
