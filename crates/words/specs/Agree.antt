-- Ternary words: the values that agree with one, bit by bit, and Within, the same by bit_and, as code tests it. All at any width.
use Rattle.std.specs.Prelude.{◌≡◌, ℕ, ◌≤◌, bit_and}
use Rattle.words.specs.Bits.{bit}

-- v agrees with the ternary word lo, hi (document 01): "no bit is in lo and not in v, or in v and not in hi"
pub record Agrees (lo hi v : ℕ) : Type 0 where
  pub over : (i : ℕ) → bit i lo ≤ bit i v
  pub under : (i : ℕ) → bit i v ≤ bit i hi

-- every bit of a is one of b: what code tests as a & b == a. `Within lo hi` says that lo, hi is a ternary word (document 01):
-- "a pair lo, hi with no bit set in lo and clear in hi"
pub record Within (a b : ℕ) : Type 0 where
  pub is : bit_and a b ≡ a
