-- The loop's invariant: the new ids after k placings, the first k old ones, and the marks of what is ready.
use Rattle.std.proofs.Common.{refl, sym, ap, ◌∙◌, length, arith}
use Rattle.words.specs.laws.Marks.{unmarked}
use Rattle.mending.specs.laws.Order.{numbers_none, length_numbers}
use Rattle.mending.specs.laws.Tried.{id_lowest}
use Rattle.mending.specs.laws.Laid.{laid_no_piece}
use Rattle.mending.proofs.Turns.{numbers_turn, olds_turn, placed_end}
use Rattle.mending.proofs.order.place_all.Goals as goal

pub try_all-requires : goal.try_all-requires
try_all-requires c = record { header = c.args.readers.now.header; words = refl; none = unmarked 16 }

pub loop-k-init : goal.loop-k-init
loop-k-init c = (c.before.requires.fresh.unplaced ∙ sym (numbers_none _), laid_no_piece _ _ 0, c.try_all.ensures)

pub settle-requires : goal.settle-requires
settle-requires c =
    let l = c.loop-k in
    record {
      chained = c.before.requires.chained;
      places = ap length l.invariant.0 ∙ length_numbers _ _;
      exact = l.invariant.2;
      lowest = id_lowest _ _ _ _ _ _ c.args.readers.now.header.nodes l.invariant.2 c.lowest.ensures c.node_count-n.ensures c.min-id.ensures;
      number = omega arith;
    }

pub loop-k-preserved : goal.loop-k-preserved
loop-k-preserved c =
    let l = c.loop-k in
    let id = id_lowest _ _ _ _ _ _ c.args.readers.now.header.nodes l.invariant.2 c.lowest.ensures c.node_count-n.ensures c.min-id.ensures in
    let q = c.settle.ensures in
    (numbers_turn _ _ _ _ _ l.invariant.0 id q.news_are, rw c.from.ensures (olds_turn _ _ _ _ _ _ l.invariant.0 id l.invariant.1), q.exact)

pub returns : goal.returns
returns c = placed_end _ _ _ _ _ (omega arith) c.before.requires.fresh.places c.loop-k.invariant.0 c.loop-k.invariant.1
