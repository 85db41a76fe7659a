-- The line's parts in their order.
use Rattle.files.specs.Text.{ascii, labelled, refused_line}
use Rattle.files.proofs.Turns.{puts_more}
use Rattle.files.proofs.lines.put_refusal.Goals as goal

pub returns : goal.returns
unfolding refused_line labelled ascii
returns c = puts_more (puts_more (rw c.from.ensures at c.put_labelled.ensures) (rw c.from-2.ensures at c.put_labelled-2.ensures)) c.put.ensures
