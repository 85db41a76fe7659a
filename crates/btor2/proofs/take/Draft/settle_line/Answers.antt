-- Refusal 3, refusal 4, or what the line adds.
use Rattle.std.proofs.Common.{sym, ◌∙◌, rules}
use Rattle.btor2.specs.inner.Taking.{unknown, misfits, placed}
use Rattle.btor2.proofs.take.Draft.settle_line.Goals as goal

pub returns-then-is_unknown : goal.returns-then-is_unknown
returns-then-is_unknown c = unknown (sym c.is_unknown.ensures ∙ c.if-is_unknown.true)

pub returns-then-not-line_fits : goal.returns-then-not-line_fits
returns-then-not-line_fits c = search (rules, misfits)

pub returns : goal.returns
returns c = search (rules, placed)
