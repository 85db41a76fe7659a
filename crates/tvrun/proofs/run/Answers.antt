-- The text lies in the buffer.
use Rattle.files.specs.laws.Whole.{prints_inside, prints_counts}
use Rattle.tvrun.proofs.run.Goals as goal

pub slice_bounds-out-end : goal.slice_bounds-out-end
slice_bounds-out-end c = prints_inside c.output-n.ensures

pub slice_bounds-write_all-end : goal.slice_bounds-write_all-end
slice_bounds-write_all-end c = prints_counts c.output-n.ensures
