-- A variable's line, and nothing for another node.
use Rattle.std.proofs.Common.{◌≡◌, get_or, rules, ap}
use Rattle.problem.specs.declared.layout.Node.{Node}
use Rattle.files.proofs.Reading.{line_of, no_line}
use Rattle.files.proofs.Turns.{puts_none}
use Rattle.files.proofs.lines.put_node.Goals as goal

pub returns-then-node_at-eq-VARIABLE : goal.returns-then-node_at-eq-VARIABLE
returns-then-node_at-eq-VARIABLE c =
    let kind = ap (λ (n : Node). n.kind) c.node_at.ensures in
    let value : c.unwrap_or-value.result ≡ get_or c.args.values.now c.args.i 0 = search rules in
    rw (line_of _ _ _ _ _ kind c.if-node_at-eq-VARIABLE.true value) c.put_variable.ensures

pub returns-else-node_at-eq-VARIABLE : goal.returns-else-node_at-eq-VARIABLE
returns-else-node_at-eq-VARIABLE c =
    let kind = ap (λ (n : Node). n.kind) c.node_at.ensures in
    rw (no_line _ _ _ _ kind c.if-node_at-eq-VARIABLE.false) (puts_none _)
