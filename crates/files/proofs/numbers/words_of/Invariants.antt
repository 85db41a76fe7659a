-- The first i words are laid.
use Rattle.files.specs.Laid.{Laid}
use Rattle.files.specs.Words.{words_below}
use Rattle.files.proofs.numbers.words_of.Given as goal

abbrev pub invariant-loop-i : goal.invariant-loop-i
invariant-loop-i l = Laid (words_below l.bytes l.i) 0 l.initial.into l.into l.i
