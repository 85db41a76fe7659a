-- What each of the three calls leaves. (Written out, so that a wrong answer is refused by its fact and not by a search that gives up.)
use Rattle.search.proofs.prepare.Goals as goal

pub returns-clause-prepared : goal.returns-clause-prepared
returns-clause-prepared c =
    record { filled = c.fill.ensures.filled; indexed = c.index_readers.ensures; decided = c.closed_root.ensures }
