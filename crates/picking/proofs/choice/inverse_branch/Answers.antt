-- The branch that is taken gives v itself, the other one what stands there.
use Rattle.std.proofs.Common.{◌∙◌}
use Rattle.picking.proofs.ChoiceLaws.{left_by}
use Rattle.picking.proofs.choice.inverse_branch.Goals as goal

pub returns : goal.returns
returns c =
    left_by c.args.now c.requires.0 c.requires.1 (λ e. c.if-branch-i.false (c.branch-now.ensures ∙ e)) c.at.ensures c.all_if.ensures
