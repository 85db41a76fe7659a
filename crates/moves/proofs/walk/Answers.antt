-- `moves::walk` meets its contract.
use Rattle.std.specs.Prelude.{None, Some}
use Rattle.std.proofs.Common.{◌∙◌, arith, refl}
use Rattle.nodes.specs.Problem.{problem}
use Rattle.moves.proofs.Places.{searching, spotted, stepping_in, walk_arrives, walk_short, walk_stuck, walk_below, walk_on}
use Rattle.moves.proofs.walk.Goals as goal

pub node-node-requires : goal.node-node-requires
unfolding problem
node-node-requires c = c.loop-node.invariant.1.node

pub returns-then-node-eq-VARIABLE : goal.returns-then-node-eq-VARIABLE
returns-then-node-eq-VARIABLE c = let o = c.loop-node.invariant.1 in
    record { walk = walk_arrives o c.node-node.ensures.node c.if-node-eq-VARIABLE.true; placed = (o.on_tape, o.words) }

pub returns-in_err-draw : goal.returns-in_err-draw
returns-in_err-draw c = let o = c.loop-node.invariant.1 in
    let short = rw (c.in_err-draw.was, c.loop-node.invariant.0) at c.draw_two.ensures.short in
    rw c.from_residual.ensures (record { walk = walk_short o c.node-node.ensures.node c.if-node-eq-VARIABLE.false (omega (arith, short, o.on_tape)); placed = tt })

pub spot-spot-requires : goal.spot-spot-requires
spot-spot-requires c = rw c.node-node.ensures.node (spotted _ _ _ _ _ (searching c.args.run.now c.requires.held) c.loop-node.invariant.1.node)

pub step-followed-requires : goal.step-followed-requires
step-followed-requires c = stepping_in c.loop-node.invariant.1 c.node-node.ensures.node (searching c.args.run.now c.requires.held) c.spot-spot.ensures

pub returns-in_default : goal.returns-in_default
returns-in_default c =
    let o = c.loop-node.invariant.1 in
    let e = rw (c.in_ok-draw.was, c.loop-node.invariant.0) at c.draw_two.ensures.first in
    let p = rw (c.in_ok-draw.was, c.loop-node.invariant.0) at c.draw_two.ensures.second in
    let h = rw (c.in_ok-draw.was, c.loop-node.invariant.0) at c.draw_two.ensures.there in
    let n = rw c.in_ok-draw.was at c.draw_two.ensures.next in
    record {
      walk = rw n (walk_stuck o c.node-node.ensures.node c.if-node-eq-VARIABLE.false (searching c.args.run.now c.requires.held) c.spot-spot.ensures 0 None (rw (e, p, c.in_default.is) at c.step-followed.ensures) h refl);
      placed = (omega (arith, n, h), omega (arith, n, o.words));
    }

pub loop-node-smaller : goal.loop-node-smaller
loop-node-smaller c =
    let o = c.loop-node.invariant.1 in
    let e = rw (c.in_ok-draw.was, c.loop-node.invariant.0) at c.draw_two.ensures.first in
    let p = rw (c.in_ok-draw.was, c.loop-node.invariant.0) at c.draw_two.ensures.second in
    let h = rw (c.in_ok-draw.was, c.loop-node.invariant.0) at c.draw_two.ensures.there in
    walk_below o c.node-node.ensures.node c.if-node-eq-VARIABLE.false (searching c.args.run.now c.requires.held) c.spot-spot.ensures c.in-Some.way.position (Some c.in-Some.way.value) (rw (e, p, c.in-Some.is) at c.step-followed.ensures) h refl c.operand-n.ensures

pub loop-node-preserved : goal.loop-node-preserved
loop-node-preserved c =
    let o = c.loop-node.invariant.1 in
    let e = rw (c.in_ok-draw.was, c.loop-node.invariant.0) at c.draw_two.ensures.first in
    let p = rw (c.in_ok-draw.was, c.loop-node.invariant.0) at c.draw_two.ensures.second in
    let h = rw (c.in_ok-draw.was, c.loop-node.invariant.0) at c.draw_two.ensures.there in
    let n = rw c.in_ok-draw.was at c.draw_two.ensures.next in (
      c.draw_two.ensures.words ∙ c.loop-node.invariant.0,
      rw n (walk_on o c.node-node.ensures.node c.if-node-eq-VARIABLE.false (searching c.args.run.now c.requires.held) c.spot-spot.ensures c.in-Some.way.position (Some c.in-Some.way.value) (rw (e, p, c.in-Some.is) at c.step-followed.ensures) h refl c.operand-n.ensures),
    )
