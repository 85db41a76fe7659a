-- Everything divides 0; a factor of another t has a set bit no higher than t's lowest.
use Rattle.picking.proofs.ArithmeticLaws.{some_mul}
use Rattle.picking.proofs.arithmetic.consistent_mul.Goals as goal

pub returns : goal.returns
returns c = some_mul c.requires c.low_bit.ensures
