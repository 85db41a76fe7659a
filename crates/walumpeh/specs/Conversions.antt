-- What `convert` answers through the C interface, as numbers.
use Rattle.std.specs.Prelude.{List, ℕ, ◌≤◌, ◌<◌, length, set}
use Rattle.btor2.specs.Answer.{Converted, Converts, length_of}
use Rattle.walumpeh.specs.Codes.{converted_code, too_short}

-- a call with the text, the bytes lent for the problem and the places out: both afterwards, and the number. The bytes are those of the
-- conversion, and out has in its first place how many were written
pub data ConversionCode (text bytes out : List ℕ) : List ℕ → List ℕ → ℕ → Type 0 where
  no_room : length out < 1 → ConversionCode text bytes out bytes out too_short
  told :
      {after : List ℕ} {answer : Converted}
      → 1 ≤ length out
      → Converts text bytes after answer
      → ConversionCode text bytes out after (set out 0 (length_of answer)) (converted_code answer)
