-- Header, nodes, roots.
use native.Mathlib.Omega.{arith}
use Rattle.spelling.specs.laws.Written.{write_run}
use Rattle.spelling.proofs.writing.write_all.Goals as goal

pub returns : goal.returns
returns c = record { written = write_run _ _ _ _ _ _ _ _ c.requires.1 c.put_header.ensures (rw c.from-size.ensures at c.put.ensures) (rw c.from-size.ensures at c.put_roots.ensures); count = omega arith }
