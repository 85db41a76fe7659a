use Rattle.frames.proofs.Keeping.{NoneYet}
use Rattle.frames.proofs.gathering.repeats.Given as goal

abbrev pub invariant-loop-j : goal.invariant-loop-j
invariant-loop-j l = NoneYet l.names l.kept l.solution l.j
