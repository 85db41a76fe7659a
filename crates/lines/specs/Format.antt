-- Refusals 1 and 2: which lines are of the format, and what a line of the format says.
use Rattle.std.specs.Prelude.{Bool, cond, not, ◌&&◌, ◌||◌, List, [], ◌∷◌, ℕ, zero, suc, ◌+◌, ◌^◌, ltb, leb, eqb, length, get_or, drop}
use Rattle.texts.specs.Runs.{ascii, equal, is_lower, length_of_run}
use Rattle.texts.specs.Numbers.{digits_in, value_in}
use Rattle.lines.specs.declared.table.Row.{Row}
use Rattle.lines.specs.declared.table.Makes.{Makes}
use Rattle.lines.specs.declared.table.Makes.TheVariants.{Sort, Input, Value, Root}
use Rattle.lines.specs.Lines.{Token, token}
use Rattle.lines.specs.Words.{Word, number_of, word_of, shape}

-- ---- tokens

-- "[a-z]+"
unfoldable pub is_word : Token → Bool
is_word t = eqb (length_of_run is_lower t) (length t) && not (eqb (length t) 0)

-- "0|[1-9][0-9]*" and "[1-9][0-9]*"
unfoldable pub is_number : Token → Bool
is_number t = digits_in 10 t && (eqb (length t) 1 || not (eqb (get_or t 0 0) 48))

unfoldable pub is_id : Token → Bool
is_id t = digits_in 10 t && not (eqb (get_or t 0 0) 48)

-- a minus sign in front, and what is left without it
unfoldable pub signed : Token → Bool
signed t = eqb (get_or t 0 0) 45

unfoldable pub unsigned : Token → Token
unsigned t = cond (signed t) (drop 1 t) t

unfoldable pub is_reference : Token → Bool
is_reference t = is_id (unsigned t)

-- a constant by its base: a decimal may have a sign, and no zeros in front
unfoldable pub is_constant : ℕ → Token → Bool
is_constant base t = cond (eqb base 10) (is_number (unsigned t)) (digits_in base t)

-- ---- places of a line's arguments: the id is token 0 and the keyword token 1

abbrev pub ref_start : Makes → ℕ
ref_start Sort = 3
ref_start Input = 3
ref_start Value = 3
ref_start Root = 2

abbrev pub ref_place : Row → ℕ
ref_place r = ref_start r.makes

abbrev pub number_place : Row → ℕ
number_place r = ref_place r + r.refs

abbrev pub constant_place : Row → ℕ
constant_place r = number_place r + r.numbers

-- ---- refusals

-- the first of two numbers that is not 0
infixr 20 ◌or_else◌
unfoldable pub ◌or_else◌ : ℕ → ℕ → ℕ
◌or_else◌ m n = cond (eqb m 0) n m

-- a number where a test is given, and 0 where it is not
abbrev pub given : ℕ → Bool → ℕ
given n t = cond t n 0

-- the id is no number of the format, or not below 2^64
unfoldable pub id_wrong : Token → Bool
id_wrong t = not (is_id t) || leb (2 ^ 64) (value_in 10 t)

-- the word `bitvec`
unfoldable pub bitvec_fault : Token → ℕ
bitvec_fault t = given 1 (not (is_word t)) or_else given 2 (not (equal t (ascii "bitvec")))

-- token 2: on a sort's line the word `bitvec`, on an input's and a value's a sort's id
unfoldable pub sort_fault : Makes → Token → ℕ
sort_fault Sort t = bitvec_fault t
sort_fault Input t = given 1 (not (is_id t))
sort_fault Value t = given 1 (not (is_id t))
sort_fault Root t = 0

-- so many references, or numbers, from a place on, of which one is none
unfoldable pub refs_bad : ℕ → ℕ → List Token → Bool
refs_bad count place ts =
    ltb 0 count && not (is_reference (token ts place))
    || ltb 1 count && not (is_reference (token ts (place + 1)))
    || ltb 2 count && not (is_reference (token ts (place + 2)))

unfoldable pub numbers_bad : ℕ → ℕ → List Token → Bool
numbers_bad count place ts = ltb 0 count && not (is_number (token ts place)) || ltb 1 count && not (is_number (token ts (place + 1)))

-- a constant at a place, where the base is not 0, that is none
unfoldable pub constant_bad : ℕ → ℕ → List Token → Bool
constant_bad base place ts = not (eqb base 0) && not (is_constant base (token ts place))

-- a second token after the arguments, which end at a place, or after the constant there
unfoldable pub symbol_bad : ℕ → ℕ → List Token → Bool
symbol_bad base place ts = cond (eqb base 0) (not (eqb (length (token ts (place + 1))) 0)) (not (eqb (length (token ts (place + 2))) 0))

unfoldable pub arguments_wrong : Row → List Token → Bool
arguments_wrong r ts =
    refs_bad r.refs (ref_place r) ts
    || numbers_bad r.numbers (number_place r) ts
    || constant_bad r.base (constant_place r) ts
    || symbol_bad r.base (constant_place r) ts

-- 1 "not a line of the format" and 2 "a keyword outside the list", of a line's tokens; 0 for neither
unfoldable pub format_fault : List Token → ℕ
format_fault ts =
    given 1 (id_wrong (token ts 0) || not (is_word (token ts 1)))
    or_else given 2 (leb 28 (number_of (token ts 1)))
    or_else sort_fault (shape (word_of (number_of (token ts 1)))).makes (token ts 2)
    or_else given 1 (arguments_wrong (shape (word_of (number_of (token ts 1)))) ts)

-- ---- what a line says

-- a reference: perhaps negative, to a line
pub record Ref : Type 0 where
  pub negative : Bool
  pub line : ℕ

-- a constant: its sign, its number, and how many digits say it
pub record Constant : Type 0 where
  pub minus : Bool
  pub number : ℕ
  pub digits : ℕ

pub record Item : Type 0 where
  pub id : ℕ
  pub word : Word
  pub makes : Makes
  pub sort : ℕ
  pub refs : List Ref
  pub first : ℕ
  pub second : ℕ
  pub constant : Constant

unfoldable pub ref_of : Token → Ref
ref_of t = record { negative = signed t; line = value_in 10 (unsigned t) }

-- so many references from a place on
unfoldable pub refs_from : List Token → ℕ → ℕ → List Ref
refs_from ts place zero = []
refs_from ts place (suc n) = ref_of (token ts place) ∷ refs_from ts (place + 1) n

unfoldable pub constant_of : ℕ → Token → Constant
constant_of base t = record { minus = signed t; number = value_in base (unsigned t); digits = length t }

-- the id of the sort that an input's and a value's line names; 0 on other lines
abbrev pub sort_named : Makes → Token → ℕ
sort_named Sort t = 0
sort_named Input t = value_in 10 t
sort_named Value t = value_in 10 t
sort_named Root t = 0

unfoldable pub item_of : ℕ → List Token → Item
item_of k ts =
    let r = shape (word_of k) in
    record {
      id = value_in 10 (token ts 0);
      word = word_of k;
      makes = r.makes;
      sort = sort_named r.makes (token ts 2);
      refs = refs_from ts (ref_place r) r.refs;
      first = value_in 10 (token ts (number_place r));
      second = value_in 10 (token ts (number_place r + 1));
      constant = constant_of r.base (token ts (constant_place r));
    }

unfoldable pub item : List Token → Item
item ts = item_of (number_of (token ts 1)) ts
