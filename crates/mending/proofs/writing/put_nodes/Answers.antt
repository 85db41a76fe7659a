-- The loop's invariant: the first k nodes are laid.
use Rattle.std.proofs.Common.{refl, arith}
use Rattle.mending.specs.laws.Laid.{laid_no_piece}
use Rattle.mending.proofs.Turns.{kept, all_laid, ids_length, id_below, node_turn}
use Rattle.mending.proofs.writing.put_nodes.Goals as goal

pub loop-k-init : goal.loop-k-init
loop-k-init c = laid_no_piece _ _ _

pub overflow_mul-k : goal.overflow_mul-k
overflow_mul-k c = omega (arith, ids_length _ _ c.args.order.now.placed.olds_are, c.args.order.now.header.nodes)

pub overflow_add-k : goal.overflow_add-k
overflow_add-k c = omega (arith, ids_length _ _ c.args.order.now.placed.olds_are, c.args.order.now.header.nodes)

pub put_node-requires : goal.put_node-requires
put_node-requires c =
    let o = c.args.order.now in
    let n = ids_length _ _ o.placed.olds_are in
    record {
      stands = omega (arith, id_below _ _ c.loop-k.k o.header c.requires.all o.placed.olds_are (omega (arith, n)), o.header.whole);
      news_are = o.placed.news_are;
      fits = omega (arith, n, kept _ _ _ _ c.loop-k.invariant, o.header.whole, c.requires.enough);
    }

pub loop-k-preserved : goal.loop-k-preserved
loop-k-preserved c =
    let o = c.args.order.now in
    let n = ids_length _ _ o.placed.olds_are in
    node_turn _ _ _ _ _ c.loop-k.k _ o.header c.requires.all o.placed.olds_are (omega (arith, n)) refl c.loop-k.invariant c.put_node.ensures

pub returns : goal.returns
returns c = all_laid _ _ _ _ _ _ _ c.loop-k.invariant refl (omega (arith, ids_length _ _ c.args.order.now.placed.olds_are))
