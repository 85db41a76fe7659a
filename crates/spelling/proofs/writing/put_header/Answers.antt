-- The mark and three numbers.
use Rattle.spelling.specs.laws.Written.{header_put}
use Rattle.spelling.proofs.writing.put_header.Goals as goal

pub returns : goal.returns
returns c = header_put _ _ _ _ _ _ _ c.put.ensures (rw c.to_le_bytes.ensures at c.put-2.ensures) (rw c.to_le_bytes-2.ensures at c.put-3.ensures) (rw c.to_le_bytes-3.ensures at c.put-4.ensures)
