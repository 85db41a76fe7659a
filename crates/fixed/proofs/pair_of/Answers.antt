-- Each arm of the match is the pair of its kind; what the parts ask comes from the width rule at hi, and lo is no greater.
use Rattle.std.proofs.Common.{◌*◌}
use Rattle.operators.specs.laws.Arms.{join_asks}
use Rattle.fixed.proofs.Pairs.{low_fits, low_is}
use Rattle.fixed.proofs.pair_of.Goals as goal

pub join-requires : goal.join-requires
join-requires c =
    let e = c.in-12.is in
    join_asks _ _ _ _ _ c.requires.ready.wide (low_fits _ _ _ (rw e at c.requires.ordered) (rw e at c.requires.ready.fit))

pub join-requires-in-12 : goal.join-requires-in-12
join-requires-in-12 c = join_asks _ _ _ _ _ c.requires.ready.wide (rw c.in-12.is at c.requires.ready.fit)

pub returns-in-6 : goal.returns-in-6
returns-in-6 c =
    rw c.in-6.is
    (low_is c.args.op.width c.args.p c.args.q _ _ (c.args.p.lo * c.args.q.lo) c.low_pair.ensures c.wrapping_mul.ensures c.requires.ready.wide)
