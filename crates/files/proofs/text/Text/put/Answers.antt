-- One byte more.
use Rattle.files.proofs.Turns.{puts_none, bytes_turn}
use Rattle.files.proofs.text.Text.put.Goals as goal

pub loop-byte-init : goal.loop-byte-init
loop-byte-init c = puts_none _

pub loop-byte-preserved : goal.loop-byte-preserved
loop-byte-preserved c = bytes_turn _ _ c.loop-byte.invariant c.put_byte.ensures c.loop-byte-test.true
