-- `moves::step::step` meets its contract.
use Rattle.std.proofs.Common.{arith}
use Rattle.moves.proofs.Steps.{few, few_listed, step_none, chosen_in, step_below, step_followed}
use Rattle.moves.proofs.step.step.Goals as goal

pub returns-then-n-eq0 : goal.returns-then-n-eq0
returns-then-n-eq0 c = step_none _ _ c.candidates-m.ensures _ _ (omega (arith, c.count-n.ensures))

pub chosen-k-requires : goal.chosen-k-requires
chosen-k-requires c =
    let n = c.count-n.ensures in
    (omega (arith, c.if-n-eq0.false), omega (arith, n, few_listed _ (few _ _ c.candidates-m.ensures)))

pub pick_at-found-requires : goal.pick_at-found-requires
pick_at-found-requires c =
    let g = c.candidates-m.ensures in
    let below = step_below _ _ g _ (chosen_in _ _ g _ c.chosen-k.ensures c.count-n.ensures (omega (arith, c.if-n-eq0.false))) c.numbered-position.ensures in
    record { fair = c.requires.fair (omega (arith, below)); position = below; target = c.requires.target }

pub returns-in_default : goal.returns-in_default
returns-in_default c =
    step_followed _ _ c.candidates-m.ensures _ _ _ (omega (arith, c.count-n.ensures, c.if-n-eq0.false))
    (rw (c.chosen-k.ensures, c.count-n.ensures) at c.numbered-position.ensures) (rw c.in_default.is at c.pick_at-found.ensures)

pub returns : goal.returns
returns c =
    step_followed _ _ c.candidates-m.ensures _ _ _ (omega (arith, c.count-n.ensures, c.if-n-eq0.false))
    (rw (c.chosen-k.ensures, c.count-n.ensures) at c.numbered-position.ensures) (rw c.in-Some.is at c.pick_at-found.ensures)
