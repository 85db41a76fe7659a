-- One line more.
use Rattle.files.specs.Text.{lines_below}
use Rattle.files.proofs.Turns.{puts_none, lines_turn}
use Rattle.files.proofs.lines.put_nodes.Goals as goal

pub loop-i-init : goal.loop-i-init
unfolding lines_below
loop-i-init c = puts_none _

pub loop-i-preserved : goal.loop-i-preserved
loop-i-preserved c = lines_turn _ _ _ c.loop-i.invariant c.put_node.ensures
