use Rattle.entries.specs.laws.Tokens.{after_none, after_more}
use Rattle.entries.proofs.tokens.after.Goals as goal

pub loop-i-init : goal.loop-i-init
loop-i-init c = after_none _ _ c.requires

pub loop-i-preserved : goal.loop-i-preserved
loop-i-preserved c = after_more _ _ _ _ c.loop-i.i 1 c.loop-i.invariant c.after_token-place.ensures
