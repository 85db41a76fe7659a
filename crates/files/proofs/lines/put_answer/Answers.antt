-- The lines by what the answer holds: a refusal, or a verdict and then the variables.
use Rattle.std.proofs.Common.{arith}
use Rattle.files.proofs.Turns.{puts_more}
use Rattle.files.specs.laws.Text.{printed_refused, printed_settled}
use Rattle.files.proofs.lines.put_answer.Goals as goal

pub put_nodes-requires : goal.put_nodes-requires
put_nodes-requires c = omega (arith, c.requires.there _ c.in-Settled.is)

pub returns-in-Refused : goal.returns-in-Refused
returns-in-Refused c = rw (printed_refused _ _ c.args.answer _ c.in-Refused.is) c.put_refusal.ensures

pub returns-in-Settled : goal.returns-in-Settled
returns-in-Settled c =
    rw (printed_settled _ _ c.args.answer _ _ c.in-Settled.is c.node_count.ensures) (puts_more c.put_verdict.ensures c.put_nodes.ensures)
