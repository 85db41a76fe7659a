-- The proposal, cut to what stands for the operand's width.
use Rattle.std.proofs.Common.{ap, ◌∙◌, ℕ, ◌%◌, ◌^◌}
use Rattle.picking.proofs.picks.proposed.Goals as goal

pub returns : goal.returns
returns c = c.cut.ensures ∙ ap (λ (w : ℕ). c.args.p % 2 ^ w) c.at.ensures
