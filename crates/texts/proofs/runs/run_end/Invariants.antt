use Rattle.std.proofs.Common.{◌≡◌, ◌+◌, drop}
use Rattle.texts.specs.Runs.{length_of_run, is_in}
use Rattle.texts.proofs.runs.run_end.Given as goal

abbrev pub invariant-loop-i : goal.invariant-loop-i
invariant-loop-i l = l.at + length_of_run (is_in l.class) (drop l.at l.s) ≡ l.i + length_of_run (is_in l.class) (drop l.i l.s)
