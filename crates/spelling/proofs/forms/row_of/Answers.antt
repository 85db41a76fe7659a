-- The words outside the list.
use Rattle.std.proofs.Common.{arith}
use Rattle.lines.specs.laws.Word.{past_words}
use Rattle.spelling.specs.inner.Spelled.{rule_of, form_of}
use Rattle.spelling.proofs.forms.row_of.Goals as goal

pub returns-in-28-to-255-clause-rule : goal.returns-in-28-to-255-clause-rule
unfolding rule_of
returns-in-28-to-255-clause-rule c = rw (past_words c.args.word (omega arith), c.new_row-in-28-to-255.ensures)

pub returns-in-28-to-255-clause-form : goal.returns-in-28-to-255-clause-form
unfolding form_of
returns-in-28-to-255-clause-form c = rw (past_words c.args.word (omega arith), c.new_row-in-28-to-255.ensures)
