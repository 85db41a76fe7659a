-- One line.
use Rattle.mending.proofs.Turns.{circle_line}
use Rattle.mending.proofs.answers.circle_fault.Goals as goal

pub returns : goal.returns
returns c = circle_line _ _ _ _ _ c.requires.news_are c.node_count-n.ensures c.lowest_unplaced-id.ensures c.refuse_if.ensures
