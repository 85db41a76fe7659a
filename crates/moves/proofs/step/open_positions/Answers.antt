-- Three tests.
use Rattle.moves.proofs.Steps.{marks_open}
use Rattle.moves.proofs.step.open_positions.Goals as goal

pub returns : goal.returns
returns c = marks_open c.args.s c.requires c.marks.ensures
