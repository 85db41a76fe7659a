-- The line's parts in their order.
use Rattle.files.specs.Text.{ascii, labelled, verdict_line}
use Rattle.files.proofs.Turns.{puts_more}
use Rattle.files.proofs.lines.put_verdict.Goals as goal

pub returns : goal.returns
unfolding verdict_line labelled ascii
returns c =
    let named = puts_more c.put.ensures (rw c.name.ensures at c.put-2.ensures) in
    let counts = puts_more (puts_more (puts_more named c.put_labelled.ensures) c.put_labelled-2.ensures) c.put_labelled-3.ensures in
    puts_more counts c.put-3.ensures
