-- A node placed, or none.
use Rattle.std.proofs.Common.{arith}
use Rattle.mending.specs.laws.Tried.{settle_waking}
use Rattle.mending.proofs.order.settle.Goals as goal

pub wake-requires : goal.wake-requires
wake-requires c =
    rw c.from-at.ensures
    (settle_waking c.args.readers.now.header c.before.requires _ (omega (arith, c.from-at.ensures, c.if-at-news.true)) c.unmark.ensures)
