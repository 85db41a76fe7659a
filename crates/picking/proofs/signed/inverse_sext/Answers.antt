-- The low bits, where their extension is the target.
use Rattle.std.proofs.Common.{le_trans}
use Rattle.picking.proofs.SignedLaws.{extended_by}
use Rattle.picking.proofs.signed.inverse_sext.Goals as goal

pub returns : goal.returns
returns c = extended_by c.args.w (le_trans c.requires.1 c.requires.2) c.to_width-c.ensures c.extend.ensures c.only_if.ensures
