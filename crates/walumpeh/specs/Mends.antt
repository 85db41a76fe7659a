-- What `mend` answers through the C interface, as a number.
use Rattle.std.specs.Prelude.{◌≡◌, List, ℕ}
use Rattle.mending.specs.Refusals.{Mends}
use Rattle.walumpeh.specs.Codes.{checked_code}
use Rattle.problem.specs.Refusals.{Checked}

-- a call with the bytes s and the lent places mended and map: what they hold afterwards, and the number
pub record MendCode (s mended map mended' map' : List ℕ) (r : ℕ) : Type 0 where
  pub answer : Checked
  pub mends : Mends s mended map mended' map' answer
  pub code : r ≡ checked_code answer
