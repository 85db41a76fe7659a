-- The loop's invariant: the first j roots are laid.
use Rattle.mending.specs.laws.Laid.{laid_no_piece}
use Rattle.mending.proofs.Turns.{root_turn}
use Rattle.mending.proofs.writing.put_roots.Goals as goal

pub loop-j-init : goal.loop-j-init
loop-j-init c = laid_no_piece _ _ _

pub loop-j-preserved : goal.loop-j-preserved
loop-j-preserved c =
    root_turn _ _ _ _ _ _ _ _ _ c.requires.news_are c.root_at.ensures c.new_of-id.ensures c.loop-j.invariant
    (rw c.from-in-loop-j.ensures at c.put_u16.ensures)
