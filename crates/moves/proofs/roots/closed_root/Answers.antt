-- `moves::roots::closed_root` meets its contract.
use Rattle.std.proofs.Common.{sym, ◌∙◌, arith, below_more}
use Rattle.nodes.specs.Problem.{problem}
use Rattle.nodes.specs.laws.Readings.{root_hi}
use Rattle.moves.proofs.roots.closed_root.Goals as goal

pub loop-j-init : goal.loop-j-init
unfolding problem
loop-j-init c = (c.root_count-j-end.ensures, λ m h. absurd (omega arith))

pub bounds-pairs-from : goal.bounds-pairs-from
unfolding problem
bounds-pairs-from c = omega (arith, c.from.ensures, c.root.ensures.inside, c.args.pairs.filled.room_hi)

pub returns-then-pairs-from-eq0 : goal.returns-then-pairs-from-eq0
returns-then-pairs-from-eq0 c = record {
  at = c.loop-j.j;
  at_lt = omega (arith, c.loop-j.invariant.0);
  is_zero = sym (root_hi _ _ _ _ _ c.args.pairs.filled (omega (arith, c.loop-j.invariant.0)) (c.from.ensures ∙ c.root.ensures.root)) ∙ c.if-pairs-from-eq0.true;
}

pub loop-j-preserved : goal.loop-j-preserved
loop-j-preserved c = (
  c.loop-j.invariant.0,
  below_more _ _ c.loop-j.invariant.1
      (λ q. c.if-pairs-from-eq0.false (root_hi _ _ _ _ _ c.args.pairs.filled (omega (arith, c.loop-j.invariant.0)) (c.from.ensures ∙ c.root.ensures.root) ∙ q)),
)
