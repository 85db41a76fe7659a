-- The loop's invariant: what is left after the entries from `at` on is what is left after all.
use Rattle.std.proofs.Common.{refl, arith}
use Rattle.entries.specs.laws.Entries.{ends_here, ends_later, entry_moves}
use Rattle.entries.proofs.entries_end.Goals as goal

pub loop-entry-smaller : goal.loop-entry-smaller
loop-entry-smaller c =
    let f = c.entry_at.ensures.found _ c.in-Some.is in
    omega (arith, entry_moves c.args.text.now c.loop-entry.at _ _ f.size f.some f.parts.end, f.parts.end.inside)

pub loop-entry-preserved : goal.loop-entry-preserved
loop-entry-preserved c =
    let f = c.entry_at.ensures.found _ c.in-Some.is in
    (f.parts.end.inside, ends_later c.args.text.now c.loop-entry.at _ _ c.loop-entry.invariant.1 f.size f.some f.parts.end)

pub returns : goal.returns
returns c = ends_here _ _ _ c.loop-entry.invariant.0 c.loop-entry.invariant.1 (c.entry_at.ensures.none (c.in_default.is)) refl
