-- Room for a header, and what came of the lines.
use Rattle.std.proofs.Common.{◌≡◌, ap, refl, arith, rules}
use Rattle.std.specs.Prelude.{Err}
use Rattle.btor2.specs.inner.Taking.{counted}
use Rattle.btor2.specs.laws.Fold.{answer_done, answer_stopped, answer_short}
use Rattle.btor2.proofs.convert.Goals as goal

pub returns-then-out-lt9 : goal.returns-then-out-lt9
returns-then-out-lt9 c = answer_short _ _ c.if-out-lt9.true

pub returns-in_err-fold_lines : goal.returns-in_err-fold_lines
returns-in_err-fold_lines c =
    let e : c.from_residual.result ≡ Err c.in_err-fold_lines.field-0.0 = search rules in
    rw e (answer_stopped _ _ _ _ _ _ _ (omega arith) c.fold_lines.ensures (ap (λ r. counted r c.fold_lines.new.draft.counts) c.in_err-fold_lines.was) refl)

pub returns : goal.returns
returns c = answer_done _ _ _ _ _ _ _ _ (omega arith) c.fold_lines.ensures (ap (λ r. counted r c.fold_lines.new.draft.counts) c.in_ok-fold_lines.was) c.write_all.ensures
