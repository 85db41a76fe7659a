-- The problem's refusal, 30, then what is left.
use Rattle.std.proofs.Common.{rules, ◌≡◌, ◌∙◌, Err}
use Rattle.models.specs.laws.First.{not_given}
use Rattle.models.specs.laws.Values.{problem_wrong, problem_right, count_given, right_count, named_of, twice, prepared, list_fault, list_right}
use Rattle.models.proofs.judging.judge_bytes.Goals as goal

pub returns-in_err-problem : goal.returns-in_err-problem
returns-in_err-problem c =
    let r = c.in_err-problem.field-0.0 in
    let z : c.from_residual.result ≡ Err (record { number = r.number; place = r.place }) = search rules in
    problem_wrong _ _ _ r c.in_err-problem.ensures.refused _ z

pub returns-in_err-refuse_if : goal.returns-in_err-refuse_if
returns-in_err-refuse_if c =
    let e = c.in_ok-problem.ensures.accepted in
    let a = c.in_ok-problem.problem.accepted in
    let z : c.from_residual-in_err-refuse_if.result ≡ Err c.in_err-refuse_if.field-0.0 = search rules in
    rw (← e)
    (problem_right _ _ _ _ a
    (list_fault _ _ _ _ _ c.refuse_if.ensures (count_given _ _ _ _ _ _ _ a c.read_variables-count.ensures c.read_names-named.ensures.0 _ c.ne.ensures) _ c.in_err-refuse_if.was _ z))

pub invariant_of-names : goal.invariant_of-names
invariant_of-names c =
    let a = c.in_ok-problem.problem.accepted in
    let n = right_count _ _ _ _ _ _ _ a c.read_variables-count.ensures c.read_names-named.ensures.0 _ c.ne.ensures _ c.refuse_if.ensures _ c.in_ok-refuse_if.was in
    record { named = named_of _ _ _ _ _ _ _ a c.read_variables-count.ensures c.read_names-named.ensures.0 n }

pub returns-in_err-refuse_if-2 : goal.returns-in_err-refuse_if-2
returns-in_err-refuse_if-2 c =
    let e = c.in_ok-problem.ensures.accepted in
    let a = c.in_ok-problem.problem.accepted in
    let n = right_count _ _ _ _ _ _ _ a c.read_variables-count.ensures c.read_names-named.ensures.0 _ c.ne.ensures _ c.refuse_if.ensures _ c.in_ok-refuse_if.was in
    let w = twice _ _ _ _ _ _ _ a c.read_variables-count.ensures c.read_names-named.ensures.0 n _ c.any_again.ensures in
    let z : c.from_residual-in_err-refuse_if-2.result ≡ Err c.in_err-refuse_if-2.field-0.0 = search rules in
    rw (← e) (problem_right _ _ _ _ a (list_fault _ _ _ _ _ c.refuse_if-2.ensures (λ y. w ∙ y) _ c.in_err-refuse_if-2.was _ z))

pub invariant_of-variables : goal.invariant_of-variables
invariant_of-variables c =
    let a = c.in_ok-problem.problem.accepted in
    let n = right_count _ _ _ _ _ _ _ a c.read_variables-count.ensures c.read_names-named.ensures.0 _ c.ne.ensures _ c.refuse_if.ensures _ c.in_ok-refuse_if.was in
    let u = not_given _ _ _ _ c.refuse_if-2.ensures _ c.in_ok-refuse_if-2.was in
    record { prepared = prepared _ _ _ _ _ _ _ a c.read_variables-count.ensures c.read_names-named.ensures.0 n _ c.any_again.ensures u }

pub returns : goal.returns
returns c =
    let e = c.in_ok-problem.ensures.accepted in
    let a = c.in_ok-problem.problem.accepted in
    let n = right_count _ _ _ _ _ _ _ a c.read_variables-count.ensures c.read_names-named.ensures.0 _ c.ne.ensures _ c.refuse_if.ensures _ c.in_ok-refuse_if.was in
    let w = twice _ _ _ _ _ _ _ a c.read_variables-count.ensures c.read_names-named.ensures.0 n _ c.any_again.ensures in
    let u = not_given _ _ _ _ c.refuse_if-2.ensures _ c.in_ok-refuse_if-2.was in
    rw (← e) (problem_right _ _ _ _ a (list_right _ _ _ (w ∙ u) _ c.judge_text.ensures))
