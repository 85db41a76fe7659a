-- The law of a kept condition, with the branch that it takes now.
use mathlib.Core.Path.{sym}
use Rattle.words.specs.Agree.{Agrees}
use Rattle.words.specs.inner.Decides.{Decides}
use Rattle.picking.specs.laws.If.{branch_low, branch_few}
use Rattle.essentials.proofs.EssentialLaws.{condition}
use Rattle.essentials.proofs.essential_condition.Goals as goal

pub returns : goal.returns
returns c =
    let x = c.args.s.current.a in
    let d : Decides (Agrees _ _ c.args.t) c.agrees.result = rw (c.at-2.ensures, c.at.ensures) at c.agrees.ensures in
    condition c.args.s c.args.t c.requires.0 c.requires.1 c.branch-j.result (sym c.branch-j.ensures) (rw c.branch-j.ensures (branch_low x)) (rw c.branch-j.ensures (branch_few x)) c.agrees.result d
