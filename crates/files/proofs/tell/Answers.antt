-- The run's answer, and its text.
use Rattle.files.specs.laws.Whole.{nodes_there}
use Rattle.files.proofs.tell.Goals as goal

pub text_of-requires : goal.text_of-requires
text_of-requires c = nodes_there c.run-answer.ensures
