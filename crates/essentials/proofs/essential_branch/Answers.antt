-- The law of a kept branch.
use Rattle.essentials.proofs.EssentialLaws.{branch}
use Rattle.essentials.proofs.essential_branch.Goals as goal

pub returns : goal.returns
returns c = branch c.args.s c.args.t c.requires.0 c.requires.1 c.args.i c.requires.2 c.requires.3 c.had.result c.had.ensures
