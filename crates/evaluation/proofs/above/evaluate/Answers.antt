-- `evaluation::above::evaluate` meets its contract.
use Rattle.std.proofs.Common.{refl}
use Rattle.nodes.specs.Problem.{problem}
use Rattle.evaluation.specs.inner.Evaluation.{Asked.whole}
use Rattle.evaluation.proofs.above.evaluate.Goals as goal

pub pass_over-requires : goal.pass_over-requires
unfolding problem
pass_over-requires c =
    whole (record { accepted = c.args.problem.accepted; places = c.requires.places; agrees = c.requires.agrees }) refl refl c.node_count.ensures
