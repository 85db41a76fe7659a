-- The ternary word that has t from bit k on.
use Rattle.picking.proofs.JoiningLaws.{extract_by}
use Rattle.picking.proofs.joining.inverse_extract.Goals as goal

pub returns : goal.returns
returns c =
    extract_by c.args.w c.args.k c.args.t c.requires.1 c.requires.2 _ c.cut.ensures c.agreeing.ensures
