-- By the count of digits in base 2, else by the number.
use Rattle.spelling.specs.laws.Constant.{fits_digits, fits_huge, fits_small}
use Rattle.spelling.proofs.constants.constant_fits.Goals as goal

pub returns-then-base-eq2 : goal.returns-then-base-eq2
returns-then-base-eq2 c = λ p l h. rw c.from.ensures (fits_digits _ _ _ c.if-base-eq2.true)

pub returns-in_default : goal.returns-in_default
returns-in_default c = λ p l h. fits_huge _ _ _ _ _ c.if-base-eq2.false c.unsigned_of.ensures c.value_in.ensures c.in_default.is l h

pub returns : goal.returns
returns c = λ p l h. fits_small _ _ _ _ _ c.if-base-eq2.false c.unsigned_of.ensures c.value_in.ensures _ _ c.in-Some.is (c.most_of.ensures l h)
