-- The two keywords that extend, and the words outside the list.
use Rattle.std.proofs.Common.{◌≡◌, ◌<◌, arith, ⊎_elim, eq-or-lt_of_le}
use Rattle.lines.specs.Words.{shape}
use Rattle.lines.specs.laws.Word.{past_words}
use Rattle.lines.proofs.table.row_of.Goals as goal

pub returns-in-25-clause-row : goal.returns-in-25-clause-row
unfolding shape
returns-in-25-clause-row c =
    ⊎_elim
    (λ (e : 25 ≡ c.args.word). rw (← e) c.new_row-in-25.ensures)
    (λ (l : 25 < c.args.word). let z : c.args.word ≡ 26 = omega arith in rw z c.new_row-in-25.ensures)
    (eq-or-lt_of_le (omega arith))

pub returns-in-28-to-255-clause-row : goal.returns-in-28-to-255-clause-row
unfolding shape
returns-in-28-to-255-clause-row c = rw (past_words c.args.word (omega arith)) c.new_row-in-28-to-255.ensures
