-- `walumpeh::needs::wal_need` meets its contract.
use Rattle.walumpeh.specs.Needs.{NeedCode.no_room, NeedCode.told}
use Rattle.walumpeh.proofs.needs.wal_need.Goals as goal

pub returns-then-out-lt2 : goal.returns-then-out-lt2
returns-then-out-lt2 c = no_room c.if-out-lt2.true

pub returns : goal.returns
returns c = rw c.checked_code.ensures (told c.if-out-lt2.false c.need-need.ensures)
