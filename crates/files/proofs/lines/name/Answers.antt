-- The bytes of each name are those of its definition.
use Rattle.std.proofs.Common.{refl}
use Rattle.files.specs.Text.{ascii, name_of}
use Rattle.files.proofs.lines.name.Goals as goal

pub returns-in-Model : goal.returns-in-Model
unfolding name_of ascii
returns-in-Model c = rw c.in-Model.is refl

pub returns-in-Spent : goal.returns-in-Spent
unfolding name_of ascii
returns-in-Spent c = rw c.in-Spent.is refl

pub returns-in-Ended : goal.returns-in-Ended
unfolding name_of ascii
returns-in-Ended c = rw c.in-Ended.is refl

pub returns-in-Closed : goal.returns-in-Closed
unfolding name_of ascii
returns-in-Closed c = rw c.in-Closed.is refl
