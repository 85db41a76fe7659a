-- `evaluation::readers::links` meets its contract.
use Rattle.std.proofs.Common.{arith, ◌∙◌}
use Rattle.evaluation.specs.laws.Linking.{link_first, link_second, link_third}
use Rattle.evaluation.proofs.readers.links.Goals as goal

pub returns-in-0 : goal.returns-in-0
returns-in-0 c = link_first c.args.n _ (c.from.ensures ∙ c.operand_count.ensures) _ (omega arith)

pub returns-in-1 : goal.returns-in-1
returns-in-1 c = link_second c.args.n _ (c.from.ensures ∙ c.operand_count.ensures) _ (omega arith)

pub returns-in_default : goal.returns-in_default
returns-in_default c = link_third c.args.n _ (c.from.ensures ∙ c.operand_count.ensures) _ (omega arith) (omega arith)
