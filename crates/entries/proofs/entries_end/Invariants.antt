use Rattle.std.proofs.Common.{◌≡◌, ◌-◌, ◌≤◌, length, drop}
use Rattle.entries.specs.Tokens.{tokens}
use Rattle.entries.specs.Entries.{body, left_in}
use Rattle.entries.proofs.entries_end.Given as goal

abbrev pub invariant-loop-entry : goal.invariant-loop-entry
invariant-loop-entry l = (l.at ≤ length l.text) × (left_in (tokens (drop l.at l.text)) ≡ left_in (body (tokens l.text)))

abbrev pub decreases-loop-entry : goal.decreases-loop-entry
decreases-loop-entry l = length l.text - l.at
