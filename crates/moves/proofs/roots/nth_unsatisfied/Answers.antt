-- `moves::roots::nth_unsatisfied` meets its contract.
use Rattle.std.proofs.Common.{◌∙◌, arith, rules}
use Rattle.nodes.specs.Problem.{problem}
use Rattle.moves.proofs.RootPlaces.{value_of_root}
use Rattle.evaluation.specs.laws.Lists.{count_none, count_keep, count_skip, count_unique}
use Rattle.moves.proofs.roots.nth_unsatisfied.Goals as goal

pub loop-j-init : goal.loop-j-init
unfolding problem
loop-j-init c = (c.root_count-j-end.ensures, omega arith, count_none _)

pub bounds-values-from : goal.bounds-values-from
unfolding problem
bounds-values-from c = omega (arith, c.from.ensures, c.root.ensures.inside, c.requires.held.places)

pub returns-then-before-k : goal.returns-then-before-k
returns-then-before-k c = let v = value_of_root _ c.args.values.now _ _ (c.from.ensures ∙ c.root.ensures.root) in
    record { inside = omega (arith, c.loop-j.invariant.0); member = λ q. c.if-values-from-ne1.true (v ∙ q); before = rw c.if-before-k.true at c.loop-j.invariant.2 }

pub loop-j-preserved : goal.loop-j-preserved
loop-j-preserved c = search (rules, value_of_root, count_keep, count_skip)

pub returns : goal.returns
returns c = absurd (omega (arith, count_unique _ (omega (arith, c.loop-j.invariant.0)) c.loop-j.invariant.2 c.requires.counted))
