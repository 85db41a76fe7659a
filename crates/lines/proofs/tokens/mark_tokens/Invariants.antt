use Rattle.std.proofs.Common.{◌≡◌, ◌-◌, ◌≤◌, length, drop}
use Rattle.lines.specs.Lines.{tokens}
use Rattle.lines.specs.inner.Places.{stored, Marked}
use Rattle.lines.proofs.tokens.mark_tokens.Given as goal

abbrev pub invariant-loop-k : goal.invariant-loop-k
invariant-loop-k l = (l.at ≤ length l.line) × (tokens (drop l.at l.line) ≡ drop l.k (tokens l.line)) × Marked l.line l.k l.marks × (stored l.line (12 - l.k) l.at l.k l.marks ≡ stored l.line 12 0 0 l.initial.marks)
