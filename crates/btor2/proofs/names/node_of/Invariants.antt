use Rattle.std.proofs.Common.{◌≡◌, take}
use Rattle.lines.specs.Lines.{lines}
use Rattle.btor2.specs.Conversion.{State}
use Rattle.btor2.specs.inner.Kept.{Rising, Named, node_named}
use Rattle.btor2.proofs.names.node_of.Given as goal

abbrev pub invariant-loop-next : goal.invariant-loop-next
invariant-loop-next l = (σ : State) → Named σ (take l.earlier.passed (lines l.earlier.text.now)) l.names.count l.names.ids.now l.names.places.now → Rising l.names.ids.now l.names.count → node_named σ l.id ≡ node_named σ l.next

abbrev pub decreases-loop-next : goal.decreases-loop-next
decreases-loop-next l = l.next
