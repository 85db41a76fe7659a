-- The numbers, one after the other.
use Rattle.std.proofs.Common.{arith}
use Rattle.spelling.specs.laws.Byte.{node_put}
use Rattle.spelling.proofs.bytes.put_node.Goals as goal

pub returns : goal.returns
returns c = node_put c.args.node _ _ _ _ _ _ _ _ (omega arith) (omega arith) c.put.ensures (rw c.to_le_bytes.ensures at c.put-2.ensures) (rw c.to_le_bytes-2.ensures at c.put-3.ensures) (rw c.to_le_bytes-3.ensures at c.put-4.ensures) (rw c.to_le_bytes-4.ensures at c.put-5.ensures) (rw c.to_le_bytes-5.ensures at c.put-6.ensures)
