-- After the token, one token fewer is left.
use Rattle.texts.specs.laws.Runs.{run_inside}
use Rattle.lines.specs.laws.Line.{token_after}
use Rattle.lines.proofs.tokens.after_token.Goals as goal

pub token_end-end-requires : goal.token_end-end-requires
token_end-end-requires c = (run_inside _ _ _ _ c.requires c.run_end-from.ensures).1

pub returns : goal.returns
returns c = rw c.past_token.ensures (token_after _ _ _ _ c.run_end-from.ensures c.token_end-end.ensures c.requires)
