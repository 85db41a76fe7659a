use Rattle.std.proofs.Common.{◌≡◌, ◌-◌}
use Rattle.entries.specs.inner.Places.{After, matches_part}
use Rattle.entries.proofs.pass.Given as goal

abbrev pub invariant-loop-i : goal.invariant-loop-i
invariant-loop-i l = (matches_part l.text l.at l.first l.last ≡ matches_part l.text l.place l.i l.last) × After l.text l.at (l.i - l.first) l.place
