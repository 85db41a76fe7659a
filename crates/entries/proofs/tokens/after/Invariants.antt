use Rattle.entries.specs.inner.Places.{After}
use Rattle.entries.proofs.tokens.after.Given as goal

abbrev pub invariant-loop-i : goal.invariant-loop-i
invariant-loop-i l = After l.text l.at l.i l.place
