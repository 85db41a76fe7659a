-- The text, and then the digits.
use Rattle.files.proofs.Turns.{puts_more}
use Rattle.files.proofs.text.Text.put_labelled.Goals as goal

pub returns : goal.returns
returns c = puts_more c.put.ensures c.put_decimal.ensures
