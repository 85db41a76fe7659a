-- At most one is open; none is essential; those that are both.
use Rattle.std.proofs.Common.{arith}
use Rattle.moves.proofs.Steps.{fair_open, sole_open, none_essential, some_essential}
use Rattle.moves.proofs.step.candidates.Goals as goal

pub returns-then-count-le1 : goal.returns-then-count-le1
returns-then-count-le1 c =
    sole_open _ _ c.open_positions-opens.ensures c.requires.fair (rw (← c.count.ensures) c.if-count-le1.true)

pub essential_positions-essentials-requires : goal.essential_positions-essentials-requires
essential_positions-essentials-requires c =
    (fair_open _ 0 c.open_positions-opens.ensures c.requires.fair (rw (← c.count.ensures) (omega (arith, c.if-count-le1.false))), c.requires.target)

pub returns-then-essentials-eq0 : goal.returns-then-essentials-eq0
returns-then-essentials-eq0 c = none_essential _ _ c.open_positions-opens.ensures c.essential_positions-essentials.ensures c.if-essentials-eq0.true

pub returns : goal.returns
returns c = some_essential _ _ c.open_positions-opens.ensures c.essential_positions-essentials.ensures (omega (arith, c.if-essentials-eq0.false))
