-- After k starts, their answers and values are those of single runs, and the rest is as it was.
use Rattle.std.proofs.Common.{◌∙◌, arith}
use Rattle.nodes.specs.laws.Good.{good_of}
use Rattle.search.specs.laws.Room.{unprepared}
use Rattle.batches.specs.laws.Batch.{made_none, stretch_there}
use Rattle.batches.proofs.Many.{one_more, made_next}
use Rattle.batches.proofs.run_starts.Goals as goal

pub prepare-closed-requires : goal.prepare-closed-requires
prepare-closed-requires c = unprepared 1024 (good_of _ c.requires.problem_good).few

pub loop-k-init : goal.loop-k-init
loop-k-init c = made_none c.requires

pub overflow_add-to : goal.overflow_add-to
overflow_add-to c = omega (arith, stretch_there c.requires c.loop-k.invariant c.loop-k-test.true)

pub offset_bounds-tape-from : goal.offset_bounds-tape-from
offset_bounds-tape-from c = omega (arith, stretch_there c.requires c.loop-k.invariant c.loop-k-test.true)

pub slice_bounds-run_one-end : goal.slice_bounds-run_one-end
slice_bounds-run_one-end c = stretch_there c.requires c.loop-k.invariant c.loop-k-test.true

pub loop-k-preserved : goal.loop-k-preserved
loop-k-preserved c =
    made_next c.requires c.loop-k.invariant c.loop-k-test.true
    (one_more _ _ _ _ _ _ (c.from-n.ensures ∙ c.node_count.ensures) (rw c.of-ready.ensures.problem at c.run_one-answer.ensures) c.tell.ensures)
