-- The bytes passed are put.
use Rattle.std.proofs.Common.{take}
use Rattle.files.specs.inner.Told.{Puts}
use Rattle.files.proofs.text.Text.put.Given as goal

abbrev pub invariant-loop-byte : goal.invariant-loop-byte
invariant-loop-byte l = Puts (take l.byte-index l.text) l.initial.self l.self
