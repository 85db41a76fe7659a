-- The value on the current operand, compared with t.
use Rattle.essentials.proofs.EssentialLaws.{alone, alone_one}
use Rattle.essentials.proofs.essential_alone.Goals as goal

pub returns : goal.returns
returns c =
    alone c.args.s c.args.t c.value_now.result (alone_one c.args.s c.requires.0 c.requires.1) c.value_now.ensures
