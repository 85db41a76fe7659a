-- The node that the number names, and its width.
use Rattle.btor2.specs.laws.Name.{looked_none, looked_some}
use Rattle.btor2.proofs.names.operand_of.Goals as goal

pub returns-in-Some : goal.returns-in-Some
returns-in-Some c = λ σ S R. looked_some S _ _ _ _ _ c.is_signed-negative.ensures c.unsigned_of.ensures c.small_of.ensures (c.node_of.ensures σ S.named R) _ c.in-Some.is _ (rw c.from.ensures at c.byte_at.ensures)

pub returns-in-None : goal.returns-in-None
returns-in-None c = λ σ S R. looked_none S _ _ _ _ _ c.is_signed-negative.ensures c.unsigned_of.ensures c.small_of.ensures (c.node_of.ensures σ S.named R) c.in-None.is
