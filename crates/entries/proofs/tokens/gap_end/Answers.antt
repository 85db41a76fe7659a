-- A comment, or one byte.
use Rattle.entries.specs.laws.Tokens.{gap_comment, gap_white}
use Rattle.entries.proofs.tokens.gap_end.Goals as goal

pub returns-then-text-at-eq59 : goal.returns-then-text-at-eq59
returns-then-text-at-eq59 c = gap_comment _ _ c.requires.0 _ c.if-text-at-eq59.true c.run_end.ensures

pub returns : goal.returns
returns c = gap_white _ _ c.requires.0 c.requires.1 c.if-text-at-eq59.false
