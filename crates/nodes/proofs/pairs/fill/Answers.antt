use Rattle.std.proofs.Common.{sym, arith}
use Rattle.nodes.specs.Problem.{problem}
use Rattle.nodes.specs.laws.Pairs.{fill_up_none, fill_up_step}
use Rattle.nodes.specs.laws.Readings.{fillable, filled, filled_all}
use Rattle.nodes.proofs.pairs.fill.Goals as goal

pub loop-i-init : goal.loop-i-init
unfolding problem
loop-i-init c = (c.node_count-i-end.ensures, sym (fill_up_none _ _))

pub pair_at-pair-requires : goal.pair_at-pair-requires
pair_at-pair-requires c = fillable _ _ _ c.args.problem.accepted c.requires _ _ _ c.loop-i.invariant.1 (omega (arith, c.loop-i.invariant.0))

pub loop-i-preserved : goal.loop-i-preserved
loop-i-preserved c = (
  c.loop-i.invariant.0,
  rw (c.from.ensures, c.from-in-loop-i.ensures) (fill_up_step _ _ _ _ _ c.loop-i.invariant.1 c.pair_at-pair.ensures),
)

pub returns-clause-filled : goal.returns-clause-filled
returns-clause-filled c =
    filled _ _ _ c.args.problem.accepted c.requires (filled_all _ _ _ _ _ _ (omega (arith, c.loop-i.invariant.0)) c.loop-i.invariant.1)
