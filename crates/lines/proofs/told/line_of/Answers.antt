-- The loop's invariant: the line is none of those before line i, which begins at the place.
use native.Mathlib.Omega.{arith}
use Rattle.texts.specs.laws.Runs.{run_inside}
use Rattle.lines.specs.laws.Text.{begins_next, find_found, find_turn, find_last, find_over, empty_part}
use Rattle.lines.proofs.told.line_of.Goals as goal

pub slice_bounds-line-end : goal.slice_bounds-line-end
slice_bounds-line-end c = (run_inside _ _ _ _ c.loop-i.invariant.0 c.run_end-end.ensures).1

pub returns-then-has_id : goal.returns-then-has_id
returns-then-has_id c = find_found _ c.args.text.now _ _ c.loop-i.i _ c.loop-i.invariant.2 c.run_end-end.ensures c.loop-i-test.true _ c.has_id.ensures _ c.loop-i.invariant.3 c.if-has_id.true

pub returns-then-end-text : goal.returns-then-end-text
returns-then-end-text c = empty_part c.args.text.now _ c.run_end-end.result (find_last _ c.args.text.now _ _ c.loop-i.i _ c.loop-i.invariant.2 c.run_end-end.ensures c.loop-i-test.true _ c.has_id.ensures _ c.loop-i.invariant.3 c.if-has_id.false (omega arith))

pub loop-i-preserved : goal.loop-i-preserved
loop-i-preserved c = (omega (arith, run_inside _ _ _ _ c.loop-i.invariant.0 c.run_end-end.ensures), omega (arith, run_inside _ _ _ _ c.loop-i.invariant.0 c.run_end-end.ensures), begins_next c.args.text.now _ _ c.loop-i.i c.loop-i.invariant.2 c.run_end-end.ensures (omega (arith, run_inside _ _ _ _ c.loop-i.invariant.0 c.run_end-end.ensures)), find_turn _ c.args.text.now _ _ c.loop-i.i c.args.passed c.loop-i.invariant.2 c.run_end-end.ensures c.loop-i-test.true _ c.has_id.ensures _ c.loop-i.invariant.3 c.if-has_id.false (omega (arith, run_inside _ _ _ _ c.loop-i.invariant.0 c.run_end-end.ensures)))

pub returns : goal.returns
returns c = empty_part c.args.text.now _ c.loop-i.at (find_over _ c.args.text.now c.args.passed c.loop-i.i _ c.loop-i.invariant.3 c.loop-i-test.false)
