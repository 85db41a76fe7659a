use Rattle.std.proofs.Common.{◌≡◌, ◌≤◌, length, drop}
use Rattle.lines.specs.Lines.{tokens}
use Rattle.lines.proofs.tokens.token_walk.Given as goal

abbrev pub invariant-loop-i : goal.invariant-loop-i
invariant-loop-i l = (l.at ≤ length l.line) × (tokens (drop l.at l.line) ≡ drop l.i (tokens l.line))
