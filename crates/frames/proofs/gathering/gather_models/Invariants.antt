use Rattle.frames.specs.laws.Gathering.{Going}
use Rattle.frames.proofs.gathering.gather_models.Given as goal

abbrev pub invariant-loop-k : goal.invariant-loop-k
invariant-loop-k l = Going l.made.problem.now l.names l.made.values.now l.made.answers.now l.initial.kept l.k l.kept l.tally
