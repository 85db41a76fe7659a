-- `moves::step::pick_at` meets its contract.
use Rattle.moves.specs.Step.{Follows.inverse}
use Rattle.moves.proofs.step.pick_at.Goals as goal

pub returns-in-Some : goal.returns-in-Some
returns-in-Some c = inverse c.if-draw-eq0.true (rw c.in-Some.is at c.pick_inverse-found.ensures)
