-- What stands between the blanks' end and the token's.
use Rattle.texts.specs.laws.Runs.{run_inside}
use Rattle.lines.specs.laws.Line.{token_head, token_places}
use Rattle.lines.proofs.tokens.first_token.Goals as goal

pub token_end-end-requires : goal.token_end-end-requires
token_end-end-requires c = (run_inside _ _ _ _ c.requires c.run_end-from.ensures).1

pub slice_bounds-result-end : goal.slice_bounds-result-end
slice_bounds-result-end c = (token_places _ _ _ _ c.run_end-from.ensures c.token_end-end.ensures c.requires).1

pub returns : goal.returns
returns c = token_head _ _ _ _ c.run_end-from.ensures c.token_end-end.ensures
