-- The nodes of the slots further down the chain are left.
use Rattle.std.proofs.Common.{◌-◌, arith}
use Rattle.mending.specs.laws.Tried.{wake_more}
use Rattle.mending.proofs.order.wake.Goals as goal

pub loop-at-preserved : goal.loop-at-preserved
loop-at-preserved c =
    let l = c.loop-at in (
      omega (arith, c.requires.chained.falls (l.at - 1), c.loop-at-test.true, l.invariant.0),
      rw c.from-in-loop-at.ensures (wake_more _ _ _ _ l.at c.args.readers.now.header c.loop-at-test.true l.invariant.0 l.invariant.1 _ c.try_node.ensures),
    )
