-- The first, the second or the third, by how many stand before.
use mathlib.Core.Path.{◌∙◌}
use native.Mathlib.Omega.{arith}
use Rattle.spelling.specs.laws.Spell.{one_few, nots_first, nots_second, nots_third}
use Rattle.spelling.proofs.spell.not_node.Goals as goal

pub overflow_add-second : goal.overflow_add-second
overflow_add-second c = omega (arith, one_few _ _ c.one_if-first.ensures, one_few _ _ c.one_if.ensures)

pub returns-then-j-first : goal.returns-then-j-first
returns-then-j-first c = λ h. c.not_of.ensures ∙ nots_first c.args.ops _ (rw c.one_if-first.ensures at c.if-j-first.true)

pub returns-then-j-second : goal.returns-then-j-second
returns-then-j-second c = λ h. c.not_of-then-j-second.ensures ∙ nots_second c.args.ops _ (rw c.one_if-first.ensures at c.if-j-first.false) (rw (c.one_if-first.ensures, c.one_if.ensures) at c.if-j-second.true)

pub returns : goal.returns
returns c = λ h. c.not_of-2.ensures ∙ nots_third c.args.ops _ (rw (c.one_if-first.ensures, c.one_if.ensures) at c.if-j-second.false) h
