-- By how many positions the kind has, the answers for each.
use borrow.Author.Rules.{rules}
use Rattle.essentials.specs.laws.Marks.{marks_one, marks_two, marks_three}
use Rattle.essentials.proofs.EssentialLaws.{alone_one}
use Rattle.essentials.proofs.KindLaws.{two_told, two_left}
use Rattle.picking.specs.laws.Fair.{count_at}
use Rattle.essentials.proofs.essential_positions.Goals as goal

pub returns-in-2 : goal.returns-in-2
returns-in-2 c =
    rw (c.marks.ensures, alone_one c.args.s c.requires.0 c.in-2.is) (marks_one c.essential_alone.result c.essential_alone.ensures)

pub returns-in-11 : goal.returns-in-11
returns-in-11 c =
    rw (c.marks-in-11.ensures, count_at c.requires.0 c.in-11.is)
    (marks_three c.essential_condition.result c.essential_branch.result c.essential_branch-in-11.result c.essential_condition.ensures c.essential_branch.ensures
    c.essential_branch-in-11.ensures)

pub returns-in-3-to-10 : goal.returns-in-3-to-10
returns-in-3-to-10 c = search (rules, two_told, two_left, marks_two)
