-- The loop's invariant: all slots fit exactly if those from i on do, and those before have been passed.
use Rattle.std.proofs.Common.{refl, arith, rules}
use Rattle.entries.specs.laws.Tokens.{next_found, next_after}
use Rattle.entries.specs.laws.Entries.{slot_fits, slot_wrong, slots_end, passed_none, passed_more, passed_end}
use Rattle.entries.proofs.pass.Goals as goal

pub loop-i-init : goal.loop-i-init
loop-i-init c = (refl, passed_none _ _ _ c.requires.0)

pub returns-then-not-fits : goal.returns-then-not-fits
returns-then-not-fits c = search (rules, slot_wrong, next_found)

pub loop-i-preserved : goal.loop-i-preserved
loop-i-preserved c = search (rules, slot_fits, next_found, next_after, passed_more)

pub returns : goal.returns
returns c = (slots_end c.args.text.now c.loop-i.place c.loop-i.i c.args.last _ c.loop-i.invariant.0 (omega arith), passed_end _ _ _ c.loop-i.i _ _ c.loop-i.invariant.1 (omega arith) (omega arith))
