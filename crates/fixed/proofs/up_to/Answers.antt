-- The k low bits under the ones from k to w: the parts fit, and make the pair of the definition.
use Rattle.fixed.proofs.Pairs.{above_fits}
use Rattle.fixed.proofs.up_to.Goals as goal

pub overflow_sub-above : goal.overflow_sub-above
overflow_sub-above c = above_fits c.args.w c.args.k c.args.v c.cut-low.result c.ones.result c.ones-2.result c.requires.0 c.cut-low.ensures c.ones.ensures c.ones-2.ensures
