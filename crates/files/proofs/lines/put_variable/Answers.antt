-- The line's parts in their order.
use Rattle.files.specs.Text.{ascii, labelled, variable_line}
use Rattle.files.proofs.Turns.{puts_more}
use Rattle.files.proofs.lines.put_variable.Goals as goal

pub returns : goal.returns
unfolding variable_line labelled ascii
returns c = puts_more (puts_more (rw c.from.ensures at c.put_decimal.ensures) c.put_labelled.ensures) c.put.ensures
