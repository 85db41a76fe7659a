-- It opens, and after the entries it closes and ends.
use Rattle.texts.specs.Runs.{ascii}
use Rattle.entries.specs.laws.Entries.{model_is}
use Rattle.entries.proofs.is_model.Goals as goal

pub returns : goal.returns
unfolding ascii
returns c = model_is _ _ _ _ _ _ _ _ c.entries_end-end.ensures c.after-last.ensures c.token.ensures c.same-opened.ensures c.token-2.ensures c.same-closed.ensures c.ended.ensures
