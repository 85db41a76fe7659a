-- What code has read of a line's constant.
use Rattle.std.specs.Prelude.{◌≡◌, true, ℕ, ◌-◌, ◌^◌, ◌≤◌, ◌<◌}
use Rattle.spelling.specs.declared.constants.Literal.{Literal}
use Rattle.lines.specs.Lines.{Token}
use Rattle.lines.specs.Words.{word_of, shape}
use Rattle.lines.specs.Format.{is_constant, constant_of}
use Rattle.spelling.specs.Nodes.{constant_value}
use Rattle.spelling.specs.inner.Spelled.{constant_fits}

-- the value that a keyword of number k tells, with a constant t of w bits
pub record Told (k w : ℕ) (t : Token) (v : ℕ) : Type 0 where
  pub zero_is : k ≡ 2 → v ≡ 0
  pub one_is : k ≡ 3 → v ≡ 1
  pub ones_are : k ≡ 4 → 1 ≤ w → w ≤ 64 → v ≡ 2 ^ w - 1
  pub constant_is :
      4 < k
      → 0 < (shape (word_of k)).base
      → 1 ≤ w
      → w ≤ 64
      → constant_fits (shape (word_of k)).base w t ≡ true
      → is_constant (shape (word_of k)).base t ≡ true
      → v ≡ constant_value w (constant_of (shape (word_of k)).base t)

pub record Literally (k w : ℕ) (t : Token) (l : Literal) : Type 0 where
  pub fits_is : 0 < (shape (word_of k)).base → 1 ≤ w → w ≤ 64 → l.fits ≡ constant_fits (shape (word_of k)).base w t
  pub value_is : Told k w t l.value
