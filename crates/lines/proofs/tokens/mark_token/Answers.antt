-- What stands between the blanks' end and the token's, stored, and one token fewer left after it.
use Rattle.texts.specs.laws.Runs.{run_inside}
use Rattle.lines.specs.laws.Mark.{marked_there}
use Rattle.lines.proofs.tokens.mark_token.Goals as goal

pub token_end-end-requires : goal.token_end-end-requires
token_end-end-requires c = (run_inside _ _ _ _ c.requires.0 c.run_end-from.ensures).1

pub returns : goal.returns
returns c = rw c.past_token.ensures (marked_there _ _ _ _ c.run_end-from.ensures c.token_end-end.ensures c.requires.0 _ _)
