-- The loop's invariant: line `passed` begins at the place, and what is kept is what the lines before it lead to.
use Rattle.std.proofs.Common.{ap, arith, rules}
use Rattle.texts.specs.laws.Runs.{run_inside}
use Rattle.lines.specs.laws.Text.{begins_first, begins_next}
use Rattle.btor2.specs.inner.Taking.{counted}
use Rattle.btor2.specs.laws.Fold.{going_none, fold_fault, fold_next, fold_done}
use Rattle.btor2.proofs.fold.fold_lines.Goals as goal

pub loop-fault-init : goal.loop-fault-init
loop-fault-init c =
    (omega arith, omega arith, begins_first c.args.text.now, rw (c.requires, c.new-sorts.ensures) (going_none _ c.args.text.now _ _ _ _ _ _ (record { bytes_long = search rules; ids_long = search rules; places_long = search rules; rooted_long = search rules })), omega arith, search rules)

pub slice_bounds-line-end : goal.slice_bounds-line-end
slice_bounds-line-end c = (run_inside _ _ _ _ c.loop-fault.invariant.0 c.run_end-end.ensures).1

pub returns-in-Err : goal.returns-in-Err
returns-in-Err c = fold_fault c.loop-fault.invariant.3.folded c.loop-fault.at _ c.loop-fault.invariant.2 c.run_end-end.ensures (c.take_line-taken.ensures c.loop-fault.invariant.3.folded.state c.loop-fault.invariant.3.folded.kept c.loop-fault.invariant.3.sorts_kept) (ap (λ r. counted r c.take_line-taken.new.self.counts) c.in-Err.is)

pub returns-then-end-text : goal.returns-then-end-text
returns-then-end-text c = fold_done c.loop-fault.invariant.3.folded c.loop-fault.at _ c.loop-fault.invariant.2 c.run_end-end.ensures (c.take_line-taken.ensures c.loop-fault.invariant.3.folded.state c.loop-fault.invariant.3.folded.kept c.loop-fault.invariant.3.sorts_kept) (ap (λ r. counted r c.take_line-taken.new.self.counts) c.in_default.is) (omega arith)

pub loop-fault-preserved : goal.loop-fault-preserved
loop-fault-preserved c = (omega (arith, c.if-end-text.false, run_inside _ _ _ _ c.loop-fault.invariant.0 c.run_end-end.ensures), omega (arith, c.loop-fault.invariant.1, run_inside _ _ _ _ c.loop-fault.invariant.0 c.run_end-end.ensures), begins_next c.args.text.now c.loop-fault.at c.run_end-end.result c.loop-fault.passed c.loop-fault.invariant.2 c.run_end-end.ensures (omega (arith, c.if-end-text.false, run_inside _ _ _ _ c.loop-fault.invariant.0 c.run_end-end.ensures)), fold_next c.loop-fault.invariant.3.folded c.loop-fault.at _ c.loop-fault.invariant.2 c.run_end-end.ensures (c.take_line-taken.ensures c.loop-fault.invariant.3.folded.state c.loop-fault.invariant.3.folded.kept c.loop-fault.invariant.3.sorts_kept) (ap (λ r. counted r c.take_line-taken.new.self.counts) c.in_default.is) (omega (arith, c.if-end-text.false, run_inside _ _ _ _ c.loop-fault.invariant.0 c.run_end-end.ensures)) c.loop-fault.invariant.3.sorts_kept c.note.ensures, c.loop-fault.invariant.4, c.mark_tokens.ensures.marked.long)
