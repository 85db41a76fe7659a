-- 31, then 32 to 34, then what is left.
use Rattle.std.proofs.Common.{refl, rules, ◌≡◌, ◌∙◌, sym, Err}
use Rattle.nodes.specs.Problem.{zeros}
use Rattle.models.specs.inner.Judging.{unmarked}
use Rattle.models.specs.laws.Values.{text_fault, found_nothing, text_passed, text_judged}
use Rattle.models.proofs.judging.judge_text.Goals as goal

pub read_entries-found-requires : goal.read_entries-found-requires
unfolding zeros unmarked
read_entries-found-requires c = (refl, refl)

pub returns-in_err-and : goal.returns-in_err-and
returns-in_err-and c =
    let z : c.from_residual.result ≡ Err c.in_err-and.field-0.0 = search rules in
    text_fault _ _ _ _ _ _ c.is_model.ensures c.refuse_if-syntax.ensures c.read_entries-found.ensures.said _ (sym c.and.ensures ∙ c.in_err-and.was) _ z

pub returns : goal.returns
returns c =
    let h = sym c.and.ensures ∙ c.in_ok-and.was in
    text_passed _ _ _ _ _ _ c.is_model.ensures c.refuse_if-syntax.ensures c.read_entries-found.ensures.said _ h _
    (text_judged _ _ _ _ _ _ _ c.args.variables.now.prepared _ c.read_entries-found.ensures (found_nothing _ _ _ _ _ _ c.is_model.ensures c.refuse_if-syntax.ensures c.read_entries-found.ensures.said _ h) _ c.judge_values.ensures)
