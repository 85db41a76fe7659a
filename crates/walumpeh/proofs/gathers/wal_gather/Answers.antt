-- `walumpeh::gathers::wal_gather` meets its contract.
use Rattle.std.proofs.Common.{inl, inr, arith}
use Rattle.walumpeh.specs.Gathers.{GatherCode.no_room, GatherCode.told}
use Rattle.walumpeh.proofs.gathers.wal_gather.Goals as goal

pub returns-then-out-lt3 : goal.returns-then-out-lt3
returns-then-out-lt3 c = no_room (inl c.if-out-lt3.true)

pub returns-then-answers-starts : goal.returns-then-answers-starts
returns-then-answers-starts c = no_room (inr (omega (arith, c.if-answers-starts.true)))

pub returns : goal.returns
returns c = rw c.checked_code.ensures (told c.if-out-lt3.false (omega (arith, c.if-answers-starts.false)) c.gather-gathered.ensures)
