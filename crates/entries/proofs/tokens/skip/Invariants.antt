use Rattle.std.proofs.Common.{◌≡◌, ◌-◌, ◌≤◌, length, drop}
use Rattle.entries.specs.Tokens.{tokens}
use Rattle.entries.specs.inner.Places.{next_place}
use Rattle.entries.proofs.tokens.skip.Given as goal

abbrev pub invariant-loop-place : goal.invariant-loop-place
invariant-loop-place l = (l.at ≤ l.place) × (l.place ≤ length l.text) × (tokens (drop l.place l.text) ≡ tokens (drop l.at l.text)) × (next_place l.text l.place ≡ next_place l.text l.at)

abbrev pub decreases-loop-place : goal.decreases-loop-place
decreases-loop-place l = length l.text - l.place
