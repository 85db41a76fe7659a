-- Half as many after a minus sign.
use Rattle.spelling.specs.laws.Constant.{most_signed, most_plain}
use Rattle.spelling.proofs.constants.most_of.Goals as goal

pub returns-then-base-is_signed : goal.returns-then-base-is_signed
returns-then-base-is_signed c = λ l h. most_signed _ _ _ _ _ c.is_signed.ensures c.if-base-is_signed.true l (c.ones-most.ensures h)

pub returns : goal.returns
returns c = λ l h. most_plain _ _ _ _ _ c.is_signed.ensures c.if-base-is_signed.false (c.ones-most.ensures h)
