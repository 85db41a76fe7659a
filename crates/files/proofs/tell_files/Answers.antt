-- The words of the two files, and what is told of them.
use Rattle.std.proofs.Common.{refl}
use Rattle.files.specs.laws.Laid.{laid_counts}
use Rattle.files.proofs.Turns.{file_words_lem}
use Rattle.files.proofs.tell_files.Goals as goal

pub slice_bounds-tell-end : goal.slice_bounds-tell-end
slice_bounds-tell-end c = laid_counts c.words_of-lent.ensures

pub slice_bounds-tell-end-2 : goal.slice_bounds-tell-end-2
slice_bounds-tell-end-2 c = laid_counts c.words_of-got.ensures

pub returns : goal.returns
returns c =
    let start = file_words_lem _ refl c.words_of-lent.ensures in
    let tape = file_words_lem _ refl c.words_of-got.ensures in
    rw (start, tape) c.tell.ensures
