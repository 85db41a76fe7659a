-- The word as code finds it: it fits, it does not, and 64 bits do not hold it.
use Rattle.entries.specs.laws.Numbers.{word_fits, word_unfit, word_huge, width_most}
use Rattle.entries.proofs.item_at.Goals as goal

pub returns-in_default : goal.returns-in_default
returns-in_default c = word_huge _ _ _ _ _ c.value_at.ensures c.in_default.is (width_most _)

pub returns-then-fits : goal.returns-then-fits
returns-then-fits c = word_fits _ _ _ _ _ c.value_at.ensures _ _ _ _ c.in-Some.is c.sort_at.ensures c.value_width.ensures c.over_width.ensures (rw c.from-wide.ensures at c.if-fits.true)

pub returns-else-fits : goal.returns-else-fits
returns-else-fits c = word_unfit _ _ _ _ _ c.value_at.ensures _ _ _ _ c.in-Some.is c.sort_at.ensures c.value_width.ensures c.over_width.ensures (rw c.from-wide.ensures at c.if-fits.false)
