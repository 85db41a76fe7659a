use Rattle.words.specs.Pick.{FirstFrom}
use Rattle.boxes.specs.inner.Boxes.{ChosenOf}
use Rattle.boxes.specs.declared.unions.Union.TheVariants.{Several}
use Rattle.boxes.proofs.unions.first_several.Given as goal

abbrev pub invariant-loop-j : goal.invariant-loop-j
invariant-loop-j l = FirstFrom (ChosenOf (Several l.by l.j) l.pair.lo l.pair.hi) l.p l.best
