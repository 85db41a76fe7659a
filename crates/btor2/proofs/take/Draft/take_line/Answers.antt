-- A line without tokens, refusals 1 and 2, then the line as it is read.
use Rattle.std.proofs.Common.{◌≡◌, sym, ap, ◌∙◌, eqb-true, rules}
use Rattle.std.specs.Prelude.{Err}
use Rattle.std.proofs.lemmas.Bool.{eqb-false}
use Rattle.lines.specs.Faults.{told}
use Rattle.btor2.specs.laws.Step.{step_blank}
use Rattle.btor2.specs.laws.LineStep.{step_format, step_settled, seen}
use Rattle.btor2.proofs.take.Draft.take_line.Goals as goal

pub returns-then-is_empty : goal.returns-then-is_empty
returns-then-is_empty c = λ σ K Q. step_blank K _ _ c.token_at.ensures (eqb-true _ _ (sym c.is_empty.ensures ∙ c.if-is_empty.true))

pub returns-in_err-format_fault : goal.returns-in_err-format_fault
returns-in_err-format_fault c =
    let e : c.from_residual.result ≡ Err c.in_err-format_fault.field-0.0 = search rules in
    λ σ K Q. rw e (step_format K _ _ c.token_at.ensures (eqb-false _ _ (sym c.is_empty.ensures ∙ c.if-is_empty.false)) _ c.format_fault.ensures c.in_err-format_fault.field-0.0 (sym (ap told c.in_err-format_fault.was)))

pub returns : goal.returns
returns c = λ σ K Q. step_settled K _ _ c.token_at.ensures (eqb-false _ _ (sym c.is_empty.ensures ∙ c.if-is_empty.false)) _ c.format_fault.ensures (ap told c.in_ok-format_fault.was) _ (c.read_line-x.ensures σ (seen K) K.fits.rising Q) c.settle_line.ensures
