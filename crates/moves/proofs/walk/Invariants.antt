use Rattle.std.proofs.Common.{◌≡◌}
use Rattle.moves.proofs.Places.{On}
use Rattle.moves.proofs.walk.Given as goal

abbrev pub invariant-loop-node : goal.invariant-loop-node
invariant-loop-node l = (l.rest.words.now ≡ l.tape.words.now) × On l.run.pairs.problem.bytes.now l.values l.tape.words.now l.from l.tape.at l.made l.n l.t l.rest.at l.steps

abbrev pub decreases-loop-node : goal.decreases-loop-node
decreases-loop-node l = l.n
