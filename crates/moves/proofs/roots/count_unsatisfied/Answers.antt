-- `moves::roots::count_unsatisfied` meets its contract.
use Rattle.std.proofs.Common.{arith, rules}
use Rattle.nodes.specs.Problem.{problem}
use Rattle.moves.proofs.RootPlaces.{value_of_root}
use Rattle.evaluation.specs.laws.Lists.{count_none, count_keep, count_skip}
use Rattle.moves.proofs.roots.count_unsatisfied.Goals as goal

pub loop-j-init : goal.loop-j-init
unfolding problem
loop-j-init c = (c.root_count-j-end.ensures, omega arith, count_none _)

pub bounds-values-from : goal.bounds-values-from
unfolding problem
bounds-values-from c = omega (arith, c.from.ensures, c.root.ensures.inside, c.requires.places)

pub loop-j-preserved : goal.loop-j-preserved
loop-j-preserved c = search (rules, value_of_root, count_keep, count_skip)
