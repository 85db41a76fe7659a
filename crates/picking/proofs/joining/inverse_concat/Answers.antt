-- The part of t at the position, where the other operand is the rest of t.
use Rattle.picking.proofs.JoiningLaws.{concat_by}
use Rattle.picking.proofs.joining.inverse_concat.Goals as goal

pub returns : goal.returns
returns c =
    concat_by c.args.s _ _ c.requires.0 c.requires.1 c.part.ensures c.part-2.ensures c.only_if.ensures
