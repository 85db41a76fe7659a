-- Nothing is above the greatest word.
use Rattle.std.proofs.Common.{rules, lt_of_le_of_lt}
use Rattle.words.specs.laws.Agree.{agrees_lt}
use Rattle.boxes.proofs.unions.first_after.Goals as goal

pub returns-in_err-next : goal.returns-in_err-next
returns-in_err-next c =
    rw c.from_residual.ensures (λ u g h. c.in_err-next.ensures (lt_of_le_of_lt h (agrees_lt 64 (search rules) g)))
