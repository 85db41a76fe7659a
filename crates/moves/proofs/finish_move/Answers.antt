-- `moves::finish_move` meets its contract.
use Rattle.std.proofs.Common.{refl}
use Rattle.moves.specs.inner.Moves.{Finishes.sets_one, Finishes.sets_none}
use Rattle.moves.proofs.Turns.{place_lt, changed}
use Rattle.moves.proofs.finish_move.Goals as goal

pub bounds-values-from : goal.bounds-values-from
bounds-values-from c = let f = rw (c.in_ok-stop.was, c.in-Some.is) at c.make_move.ensures.moved in rw c.from.ensures (place_lt c.requires.drawing f)

pub evaluate_above-above-requires : goal.evaluate_above-above-requires
evaluate_above-above-requires c = let f = rw (c.in_ok-stop.was, c.in-Some.is) at c.make_move.ensures.moved in
    rw c.from.ensures (changed c.requires.drawing f c.requires.indexed)

pub returns-in-Some : goal.returns-in-Some
returns-in-Some c =
    let f = rw (c.in_ok-stop.was, c.in-Some.is) at c.make_move.ensures.moved in
    let b = rw c.in_ok-stop.was at c.make_move.ensures.placed in
    let e = c.evaluate_above-above.ensures in (sets_one f (rw c.from.ensures at e.values) e.count, b.0, b.1)

pub returns-in-None : goal.returns-in-None
returns-in-None c =
    let f = rw (c.in_ok-stop.was, c.in-None.is) at c.make_move.ensures.moved in
    let b = rw c.in_ok-stop.was at c.make_move.ensures.placed in (sets_none f refl refl, b.0, b.1)
