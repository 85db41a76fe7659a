-- The loop's invariant: the tokens from `place` on are those from `at` on, and so is the place of the next.
use Rattle.std.proofs.Common.{◌∙◌, arith, rules}
use Rattle.entries.specs.laws.Tokens.{tokens_gap, piece_inside, piece_onward, next_gap, next_here}
use Rattle.entries.proofs.tokens.skip.Goals as goal

pub loop-place-smaller : goal.loop-place-smaller
loop-place-smaller c = omega (arith, piece_onward _ c.loop-place.place _ (omega arith) c.gap_end-place.ensures)

pub loop-place-preserved : goal.loop-place-preserved
loop-place-preserved c = search (rules, piece_onward, piece_inside, tokens_gap, next_gap)

pub returns-else-is_gap : goal.returns-else-is_gap
returns-else-is_gap c = search (rules, next_here)

pub returns-after-loop-place : goal.returns-after-loop-place
returns-after-loop-place c = record { onward = omega arith; inside = omega arith; same = c.loop-place.invariant.2; stops = λ h. absurd (omega arith); exactly = next_here _ c.loop-place.place (λ h. absurd (omega arith)) ∙ c.loop-place.invariant.3 }
