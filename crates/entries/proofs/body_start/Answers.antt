-- By the second token.
use Rattle.texts.specs.Runs.{ascii}
use Rattle.entries.specs.laws.Tokens.{after_more, token_at_lem}
use Rattle.entries.specs.laws.Entries.{begins_model, begins_bare}
use Rattle.entries.proofs.body_start.Goals as goal

pub returns-then-same : goal.returns-then-same
unfolding ascii
returns-then-same c =
    begins_model _ _ _ _ (token_at_lem _ 0 1 _ _ c.after-first.ensures c.token.ensures) c.same.ensures c.if-same.true (after_more _ 0 _ _ 1 1 c.after-first.ensures c.after.ensures)

pub returns : goal.returns
unfolding ascii
returns c = begins_bare _ _ _ _ (token_at_lem _ 0 1 _ _ c.after-first.ensures c.token.ensures) c.same.ensures c.if-same.false c.after-first.ensures
