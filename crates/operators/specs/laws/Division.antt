-- Laws of division (02, R-11).
use Rattle.std.specs.Prelude.{ℕ, zero, suc, ◌^◌, ◌<◌}
use Rattle.std.proofs.Common.{lt_of_le_of_lt, div-le_self}
use Rattle.std.proofs.Math.Pow.{ones_lt}
use Rattle.operators.specs.Meaning.{quotient}

-- the quotient is of the node's width
pub quotient_lt : (w x y : ℕ) → x < 2 ^ w → quotient w x y < 2 ^ w
quotient_lt w x zero h = ones_lt w
quotient_lt w x (suc y) h = lt_of_le_of_lt (div-le_self x (suc y)) h
