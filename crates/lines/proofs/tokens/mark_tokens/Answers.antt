-- The loop's invariant: the first k tokens are marked, and what is left at the place is the line's tokens without them.
use Rattle.std.proofs.Common.{◌≡◌, arith}
use Rattle.lines.specs.laws.Line.{token_turn}
use Rattle.lines.specs.laws.Mark.{stored_turn, stored_all, marked_more}
use Rattle.lines.proofs.tokens.mark_tokens.Goals as goal

pub loop-k-preserved : goal.loop-k-preserved
loop-k-preserved c = (
  c.mark_token-at.ensures.after.inside,
  token_turn _ _ _ c.loop-k.k c.loop-k.invariant.1 c.mark_token-at.ensures.after,
  marked_more _ c.loop-k.at c.loop-k.k _ _ _ c.loop-k.invariant.2 (omega arith) c.loop-k.invariant.1 c.mark_token-at.ensures,
  stored_turn _ _ c.loop-k.k _ _ _ _ c.loop-k.invariant.3 (omega arith) c.mark_token-at.ensures,
)

pub returns : goal.returns
returns c =
    let z : c.loop-k.k ≡ 12 = omega arith in
    record { exactly = stored_all _ _ c.loop-k.k _ _ c.loop-k.invariant.3 z; marked = rw z at c.loop-k.invariant.2 }
