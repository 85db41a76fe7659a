-- A short word by its key, and the one long word.
use mathlib.Core.Path.{◌∙◌}
use Rattle.texts.specs.Runs.{ascii}
use Rattle.lines.specs.laws.Keys.{bytes_of, short_number, long_number, word_number}
use Rattle.lines.proofs.table.number_of.Goals as goal

pub returns-then-t-le7 : goal.returns-then-t-le7
returns-then-t-le7 c = c.place_of.ensures ∙ rw c.key_of.ensures (short_number _ (bytes_of _ (λ i. (c.type_inv.t i).fits)) c.if-t-le7.true)

pub returns-then-same : goal.returns-then-same
unfolding ascii
returns-then-same c = word_number _ _ c.same.ensures c.if-same.true

pub returns : goal.returns
unfolding ascii
returns c = long_number _ _ c.if-t-le7.false c.same.ensures c.if-same.false
