-- The lines of the nodes below i are put.
use Rattle.files.specs.Text.{lines_below}
use Rattle.files.specs.inner.Told.{Puts}
use Rattle.files.proofs.lines.put_nodes.Given as goal

abbrev pub invariant-loop-i : goal.invariant-loop-i
invariant-loop-i l = Puts (lines_below l.problem l.values l.i) l.initial.text l.text
