-- What is shifted out at the top does not come back.
use Rattle.words.specs.laws.Shift.{there_and_back}
use Rattle.words.proofs.bits.to_width.Goals as goal

pub returns : goal.returns
returns c = there_and_back c.args.x 64 c.args.w c.requires.1
