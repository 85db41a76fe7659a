-- Nothing but gaps up to the end.
use Rattle.entries.specs.laws.Tokens.{ended_is}
use Rattle.entries.proofs.ended.Goals as goal

pub returns : goal.returns
returns c = ended_is _ _ _ c.skip.ensures
