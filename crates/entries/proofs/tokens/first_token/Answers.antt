-- What stands between the gaps' end and the piece's.
use Rattle.entries.specs.laws.Tokens.{next_found}
use Rattle.entries.proofs.tokens.first_token.Goals as goal

pub returns : goal.returns
returns c = next_found _ _ _ _ c.skip-from.ensures c.piece_end-end.ensures
