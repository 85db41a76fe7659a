-- Part by part, and then one of two values.
use Rattle.entries.specs.laws.Entries.{passed_all, passed_not, not_first, not_second, not_third, with_literal, with_decimal, with_neither}
use Rattle.entries.proofs.entry_at.Goals as goal

pub returns-in_err-name : goal.returns-in_err-name
returns-in_err-name c = rw c.from_residual.ensures (not_first _ _ (passed_not c.args.text.now c.args.at 0 2 _ c.pass.ensures c.in_err-name.was))

pub returns-in_err-sort : goal.returns-in_err-sort
returns-in_err-sort c = rw c.from_residual-in_err-sort.ensures (not_second _ _ _ (passed_all _ _ 0 2 _ _ c.pass.ensures c.in_ok-name.was) (passed_not c.args.text.now c.in_ok-name.name 2 8 _ c.pass-2.ensures c.in_err-sort.was))

pub returns-in_err-value : goal.returns-in_err-value
returns-in_err-value c = rw c.from_residual-in_err-value.ensures (not_third _ _ _ (passed_all _ _ 0 2 _ _ c.pass.ensures c.in_ok-name.was) _ (passed_all _ _ 2 8 _ _ c.pass-2.ensures c.in_ok-sort.was) (passed_not c.args.text.now c.in_ok-sort.sort 8 10 _ c.pass-3.ensures c.in_err-value.was))

pub returns-in-Some : goal.returns-in-Some
returns-in-Some c = with_literal _ _ _ (passed_all _ _ 0 2 _ _ c.pass.ensures c.in_ok-name.was) _ (passed_all _ _ 2 8 _ _ c.pass-2.ensures c.in_ok-sort.was) _ (passed_all _ _ 8 10 _ _ c.pass-3.ensures c.in_ok-value.was) _ (passed_all _ _ 10 12 _ _ c.pass-4.ensures c.in-Some.is)

pub returns-in_err-end : goal.returns-in_err-end
returns-in_err-end c = rw c.from_residual-in_err-end.ensures (with_neither _ _ _ (passed_all _ _ 0 2 _ _ c.pass.ensures c.in_ok-name.was) _ (passed_all _ _ 2 8 _ _ c.pass-2.ensures c.in_ok-sort.was) _ (passed_all _ _ 8 10 _ _ c.pass-3.ensures c.in_ok-value.was) (passed_not c.args.text.now c.in_ok-value.value 10 12 _ c.pass-4.ensures c.in_default.is) (passed_not c.args.text.now c.in_ok-value.value 12 18 _ c.pass-5.ensures c.in_err-end.was))

pub returns : goal.returns
returns c = with_decimal _ _ _ (passed_all _ _ 0 2 _ _ c.pass.ensures c.in_ok-name.was) _ (passed_all _ _ 2 8 _ _ c.pass-2.ensures c.in_ok-sort.was) _ (passed_all _ _ 8 10 _ _ c.pass-3.ensures c.in_ok-value.was) _ (passed_not c.args.text.now c.in_ok-value.value 10 12 _ c.pass-4.ensures c.in_default.is) (passed_all _ _ 12 18 _ _ c.pass-5.ensures c.in_ok-end.was)
