-- Where nothing agrees from p on, lo is the least of all that agree.
use Rattle.words.specs.laws.Pick.{pick_or}
use Rattle.words.proofs.First.{lo_least}
use Rattle.words.proofs.ternary.pick_agreeing.Goals as goal

pub returns : goal.returns
returns c = rw c.unwrap_or.ensures (pick_or _ _ c.first_agreeing.ensures (lo_least _ _ c.args.word.within))
