-- What code has read of a line, tied to what the line says.
use Rattle.std.specs.Prelude.{◌≡◌, Bool, false, cond, List, ℕ, ◌+◌, ltb}
use Rattle.texts.specs.Numbers.{value_in}
use Rattle.spelling.specs.declared.line.Operand.{Operand}
use Rattle.spelling.specs.declared.line.Operands.{Operands}
use Rattle.spelling.specs.declared.line.Line.{Line}
use Rattle.lines.specs.Lines.{Token, token}
use Rattle.lines.specs.Words.{number_of, word_of, shape}
use Rattle.lines.specs.Format.{Ref, ref_of, ref_place, constant_place, item}
use Rattle.btor2.specs.Conversion.{State, at}
use Rattle.lines.specs.inner.Told.{id_of, small}
use Rattle.btor2.specs.inner.Kept.{looked_up}
use Rattle.spelling.specs.inner.Spelled.{short}
use Rattle.spelling.specs.inner.Constants.{Literally}

abbrev pub blank : Operand
blank = record { negative = false; node = 0; width = 0 }

unfoldable pub operand_if : Bool → State → Ref → Operand
operand_if wanted σ r = cond wanted (looked_up σ r) blank

-- so many operands, from a place on
pub record Operated (σ : State) (ts : List Token) (place refs : ℕ) (o : Operands) : Type 0 where
  pub a_is : o.a ≡ operand_if (ltb 0 refs) σ (ref_of (token ts place))
  pub b_is : o.b ≡ operand_if (ltb 1 refs) σ (ref_of (token ts (place + 1)))
  pub c_is : o.c ≡ operand_if (ltb 2 refs) σ (ref_of (token ts (place + 2)))

-- a line of a given keyword, width and operands, of which the rest is read: its id, its numbers from place `middle` on, and its constant after them
pub record Filled (ts : List Token) (k middle w : ℕ) (o : Operands) (x : Line) : Type 0 where
  pub word_is : x.word ≡ k
  pub id_is : x.id ≡ small (id_of ts)
  pub width_is : x.width ≡ w
  pub ops_are : x.ops ≡ o
  pub first_is : x.first ≡ short (value_in 10 (token ts middle))
  pub second_is : x.second ≡ short (value_in 10 (token ts (middle + 1)))
  pub literal_is : Literally k w (token ts (middle + (shape (word_of k)).numbers)) x.literal

pub record Read (σ : State) (ts : List Token) (x : Line) : Type 0 where
  pub word_is : x.word ≡ number_of (token ts 1)
  pub id_is : x.id ≡ small (id_of ts)
  pub width_is : x.width ≡ at (item ts).sort σ.sorts
  pub ops_are : Operated σ ts (ref_place (shape (word_of x.word))) (shape (word_of x.word)).refs x.ops
  pub first_is : x.first ≡ short (item ts).first
  pub second_is : x.second ≡ short (item ts).second
  pub literal_is : Literally x.word x.width (token ts (constant_place (shape (word_of x.word)))) x.literal
