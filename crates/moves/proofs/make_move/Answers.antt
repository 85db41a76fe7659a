-- `moves::make_move` meets its contract.
use Rattle.std.proofs.Common.{arith}
use Rattle.nodes.specs.Problem.{problem}
use Rattle.moves.proofs.Places.{searching, move_short, move_from, move_made}
use Rattle.moves.proofs.make_move.Goals as goal

pub returns-in_err-word : goal.returns-in_err-word
returns-in_err-word c =
    rw c.from_residual.ensures (record { moved = move_short _ _ _ _ _ (rw c.in_err-word.was at c.draw.ensures.ended); placed = tt })

pub root-requires : goal.root-requires
unfolding problem
root-requires c = c.nth_unsatisfied-j.ensures.inside

pub walk-requires : goal.walk-requires
walk-requires c =
    let n = rw c.in_ok-word.was at c.draw.ensures.next in
    let f = move_from (searching c.args.run.now c.requires.held) c.nth_unsatisfied-j.ensures.inside c.root.ensures.root in
    record { held = c.requires.held; node = f.0; aimed = f.1; made_le = omega (arith, n, c.requires.made_le) }

pub returns : goal.returns
returns c =
    let n = rw c.in_ok-word.was at c.draw.ensures.next in
    let h = rw c.in_ok-word.was at c.draw.ensures.there in
    let v = rw c.in_ok-word.was at c.draw.ensures.word in
    let m = rw v at c.nth_unsatisfied-j.ensures in
    let a = rw (n, c.draw.ensures.words) at c.walk.ensures.walk in
    let b = rw (n, c.draw.ensures.words) at c.walk.ensures.placed in
    record { moved = move_made _ _ (searching c.args.run.now c.requires.held) c.requires.counted m c.root.ensures.root h a; placed = b }
