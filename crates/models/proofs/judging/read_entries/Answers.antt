-- The loop's invariant: k entries are read, up to the place `at`.
use Rattle.std.proofs.Common.{refl, arith, ◌∙◌}
use Rattle.entries.specs.laws.Entries.{entry_moves, entry_name, entry_unfit, entry_word}
use Rattle.models.specs.laws.First.{and_said}
use Rattle.models.specs.laws.Variables.{few_names, owner_id}
use Rattle.models.specs.laws.Reading.{reading_start, reading_end, reading_unknown, reading_more}
use Rattle.models.proofs.judging.read_entries.Goals as goal

pub loop-entry-init : goal.loop-entry-init
loop-entry-init c = reading_start _ _ _ _ _ _ c.body_start-at.ensures c.requires.0 c.requires.1

pub name_at-requires : goal.name_at-requires
name_at-requires c = (c.entry_at.ensures.found _ c.in-Some.is).parts.name.inside

pub returns-in_default-position : goal.returns-in_default-position
returns-in_default-position c =
    let f = c.entry_at.ensures.found _ c.in-Some.is in
    rw c.at.ensures
    (reading_unknown _ _ _ _ _ c.loop-entry.at c.loop-entry.k _ _ _ c.loop-entry.invariant f.size f.some _ _ (entry_name _ _ _ f.parts _ c.name_at.ensures) c.position.ensures _ _ c.in_default-position.is)

pub loop-entry-smaller : goal.loop-entry-smaller
loop-entry-smaller c =
    let f = c.entry_at.ensures.found _ c.in-Some.is in
    omega (arith, entry_moves c.args.text.now c.loop-entry.at _ _ f.size f.some f.parts.end, f.parts.end.inside)

pub loop-entry-preserved : goal.loop-entry-preserved
loop-entry-preserved c =
    let f = c.entry_at.ensures.found _ c.in-Some.is in
    let p = c.args.variables.now.prepared in
    reading_more _ _ _ _ _ c.loop-entry.at c.loop-entry.k _ _ _ c.loop-entry.invariant f.size f.some _ _ (entry_name _ _ _ f.parts _ c.name_at.ensures) c.position.ensures _ c.in-Some-position.is
    (omega (arith, p.all, (few_names _ _ _ _ p).1)) _ f.parts.end _ _ _ _ _ _
    (and_said _ _ _ _ c.and-again.ensures c.refuse_if.ensures)
    c.width-width.ensures.width
    (owner_id _ _ _ _ p _ _ _ c.position.ensures c.in-Some-position.is)
    (c.is_err.ensures.value ∙ entry_unfit _ _ _ f.parts _ _ c.item_at-item.ensures)
    (and_said _ _ _ _ c.and-unfit.ensures c.refuse_if-in-Some.ensures)
    (c.word_in.ensures ∙ entry_word _ _ _ f.parts _ _ c.item_at-item.ensures)

pub returns : goal.returns
returns c =
    reading_end _ _ _ _ _ c.loop-entry.at c.loop-entry.k _ _ _ c.loop-entry.invariant (c.entry_at.ensures.none c.in_default.is) _ refl
    (and_said _ _ _ _ c.and.ensures refl)
