-- 35, then 36, then the roots.
use Rattle.std.proofs.Common.{refl, rules, ◌≡◌, Err}
use Rattle.nodes.specs.Problem.{zeros}
use Rattle.models.specs.laws.First.{failed, nothing}
use Rattle.models.specs.laws.Values.{places_of, assigned_of, values_fault, values_passed}
use Rattle.models.proofs.judging.judge_values.Goals as goal

pub returns-in_err-absent : goal.returns-in_err-absent
returns-in_err-absent c =
    let z : c.from_residual.result ≡ Err c.in_err-absent.field-0.0 = search rules in
    failed _ _ _ c.absent.ensures _ c.in_err-absent.was _ z

pub assign-requires : goal.assign-requires
unfolding zeros
assign-requires c = refl

pub any_contradicted-requires : goal.any_contradicted-requires
any_contradicted-requires c = places_of _ _ _ _ _ c.args.variables.now.problem.accepted c.assign.ensures

pub returns-in_err-any_contradicted : goal.returns-in_err-any_contradicted
returns-in_err-any_contradicted c =
    let z : c.from_residual-in_err-any_contradicted.result ≡ Err c.in_err-any_contradicted.field-0.0 = search rules in
    values_fault _ _ _ _ _ _ _ c.absent.ensures _ c.in_ok-absent.was c.assign.ensures _ c.any_contradicted.ensures _ c.in_err-any_contradicted.was _ z

pub evaluate-requires-clause-places : goal.evaluate-requires-clause-places
evaluate-requires-clause-places c =
    (assigned_of _ _ c.args.variables.now.problem.accepted (places_of _ _ _ _ _ c.args.variables.now.problem.accepted c.assign.ensures) (nothing _ _ c.any_contradicted.ensures _ c.in_ok-any_contradicted.was)).places

pub evaluate-requires-clause-agrees : goal.evaluate-requires-clause-agrees
evaluate-requires-clause-agrees c =
    (assigned_of _ _ c.args.variables.now.problem.accepted (places_of _ _ _ _ _ c.args.variables.now.problem.accepted c.assign.ensures) (nothing _ _ c.any_contradicted.ensures _ c.in_ok-any_contradicted.was)).agrees

pub returns : goal.returns
returns c =
    values_passed _ _ _ _ _ _ _ c.absent.ensures _ c.in_ok-absent.was c.assign.ensures _ c.any_contradicted.ensures _ _ _ c.in_ok-any_contradicted.was c.evaluate.ensures c.first_zero.ensures
