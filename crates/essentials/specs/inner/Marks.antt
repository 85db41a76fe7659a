-- Some of a node's positions as the bits of a number.
use Rattle.std.specs.Prelude.{Bool, ℕ, ◌+◌, ◌*◌, ◌^◌, ◌<◌, eqb}
use mir.Val.{bool_byte}
use Rattle.words.specs.Bits.{bit}
use Rattle.words.specs.inner.Decides.{Decides}

-- whether m has bit i
abbrev pub marked : ℕ → ℕ → Bool
marked m i = eqb (bit i m) 1

-- m has bit i for each member i of a set below n, and no other bit
pub record Marks (A : ℕ → Type 0) (n m : ℕ) : Type 0 where
  pub short : m < 2 ^ n
  pub each : (i : ℕ) → i < n → Decides (A i) (marked m i)

-- three answers as bits
abbrev pub mark : Bool → Bool → Bool → ℕ
mark a b c = bool_byte a + 2 * bool_byte b + 4 * bool_byte c
