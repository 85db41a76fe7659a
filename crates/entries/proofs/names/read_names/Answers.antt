-- The loop's invariant: the names from `at` on are those after the first k, whose places stand in the two lists, and nothing else is
-- written there.
use Rattle.std.proofs.Common.{refl, arith, rules}
use Rattle.entries.specs.laws.Names.{line_counted, line_next, line_placed, line_first_at, line_starts, written_none, written_more, placed_none, listed_more, listed_all}
use Rattle.entries.proofs.names.read_names.Goals as goal

pub loop-k-init : goal.loop-k-init
loop-k-init c = (omega arith, c.requires.0, c.requires.1, omega arith, refl, placed_none _ _ _, line_first_at _, written_none _ _ _)

pub returns-then-at-list : goal.returns-then-at-list
returns-then-at-list c = listed_all c.args.list.now _ _ _ _ c.loop-k.at c.loop-k.k c.loop-k.invariant.7 c.loop-k.invariant.1 c.loop-k.invariant.2 c.loop-k.invariant.4 c.loop-k.invariant.5 c.loop-k.invariant.3 (omega arith) (omega arith) c.loop-k.k refl

pub loop-k-preserved : goal.loop-k-preserved
loop-k-preserved c = search (rules, line_counted, line_next, line_placed, line_starts, written_more)

pub returns-then-at-list-2 : goal.returns-then-at-list-2
returns-then-at-list-2 c = listed_all c.args.list.now _ _ _ _ c.loop-k.at c.loop-k.k c.loop-k.invariant.7 c.loop-k.invariant.1 c.loop-k.invariant.2 c.loop-k.invariant.4 c.loop-k.invariant.5 c.loop-k.invariant.3 (omega arith) (omega arith) 1024 (omega arith)

pub returns-else-at-list-2 : goal.returns-else-at-list-2
returns-else-at-list-2 c = listed_more c.args.list.now _ _ _ _ c.loop-k.at c.loop-k.k c.loop-k.invariant.7 c.loop-k.invariant.1 c.loop-k.invariant.2 c.loop-k.invariant.4 (omega arith) (omega arith) (omega arith)
