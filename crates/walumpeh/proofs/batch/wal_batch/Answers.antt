-- `walumpeh::batch::wal_batch` meets its contract.
use Rattle.walumpeh.specs.Batches.{BatchCode.told}
use Rattle.walumpeh.proofs.batch.wal_batch.Goals as goal

pub returns : goal.returns
returns c = rw c.checked_code.ensures (told c.batch.ensures)
