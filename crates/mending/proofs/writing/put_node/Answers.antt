-- The fields renumbered, and the node's bytes with them.
use Rattle.std.proofs.Common.{refl}
use Rattle.mending.proofs.Turns.{node_part, node_laid}
use Rattle.mending.proofs.writing.put_node.Goals as goal

pub returns : goal.returns
returns c =
    let a = c.args in
    let q = c.renumbered-n.ensures in
    node_laid _ _ _ _ _ _ _ _ _ _ _ _ c.requires.news_are c.node_at.ensures refl q.a q.b q.c (node_part a.problem.now a.i) (rw c.from.ensures at c.put_fields.ensures)
