-- The number, or what is left of 2^w without it.
use borrow.Author.Rules.{rules}
use Rattle.spelling.specs.laws.Constant.{value_huge, value_plain, value_none, value_minus}
use Rattle.spelling.proofs.constants.constant_value.Goals as goal

pub returns-in_default : goal.returns-in_default
returns-in_default c = λ p l h f g. value_huge _ _ _ _ _ c.unsigned_of.ensures c.value_in.ensures l h f g c.in_default.is

pub returns-then-not-is_signed : goal.returns-then-not-is_signed
returns-then-not-is_signed c = search (rules, value_plain)

pub returns-then-n-most : goal.returns-then-n-most
returns-then-n-most c = search (rules, value_none)

pub returns : goal.returns
returns c = search (rules, value_minus)
