-- The nodes from i on are left.
use Rattle.std.proofs.Common.{arith}
use Rattle.mending.specs.laws.Tried.{tried_more, next_left}
use Rattle.mending.proofs.order.try_all.Goals as goal

pub loop-i-preserved : goal.loop-i-preserved
loop-i-preserved c =
    let l = c.loop-i in
    tried_more _ _ _ _ _ l.i l.invariant (omega arith) c.requires.header.nodes (next_left l.i) _ c.try_node.ensures
