-- `search::search` meets its contract.
use Rattle.std.proofs.Common.{arith}
use Rattle.nodes.specs.Problem.{problem}
use Rattle.search.proofs.Runs.{going_start, going_model, going_spent, going_ended, going_fits, going_on}
use Rattle.search.proofs.search.Goals as goal

pub loop-problem-init : goal.loop-problem-init
unfolding problem
loop-problem-init c = rw c.begin-so_far.ensures (going_start _ c.requires.held c.node_count.ensures)

pub returns-then-left-eq0 : goal.returns-then-left-eq0
returns-then-left-eq0 c = rw c.settled.ensures (going_model c.loop-problem.invariant c.count_unsatisfied-left.ensures c.if-left-eq0.true)

pub returns-then-most-so_far : goal.returns-then-most-so_far
returns-then-most-so_far c =
    rw c.settled-then-most-so_far.ensures
    (going_spent c.loop-problem.invariant c.count_unsatisfied-left.ensures (omega (arith, c.if-left-eq0.false)) (omega (arith, c.if-most-so_far.true, c.from-most.ensures)))

pub returns-in_default : goal.returns-in_default
returns-in_default c =
    let f = rw c.in_default.is at c.finish_move.ensures in
    rw c.settled-in_default.ensures
    (going_ended c.loop-problem.invariant c.count_unsatisfied-left.ensures (omega (arith, c.if-left-eq0.false)) (omega (arith, c.if-most-so_far.false, c.from-most.ensures)) f)

pub overflow_add-so_far : goal.overflow_add-so_far
overflow_add-so_far c =
    let f = rw c.in-Some.is at c.finish_move.ensures in
    omega (arith, going_fits c.loop-problem.invariant c.count_unsatisfied-left.ensures (omega (arith, c.if-left-eq0.false)) (omega (arith, c.if-most-so_far.false, c.from-most.ensures)) f c.ranges.budget.fits)

pub loop-problem-preserved : goal.loop-problem-preserved
loop-problem-preserved c =
    let f = rw c.in-Some.is at c.finish_move.ensures in
    going_on c.loop-problem.invariant c.count_unsatisfied-left.ensures (omega (arith, c.if-left-eq0.false)) (omega (arith, c.if-most-so_far.false, c.from-most.ensures)) f
