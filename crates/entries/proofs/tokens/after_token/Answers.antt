use Rattle.entries.specs.laws.Tokens.{next_after}
use Rattle.entries.proofs.tokens.after_token.Goals as goal

pub returns : goal.returns
returns c = next_after _ _ _ _ c.skip.ensures c.piece_end.ensures
