-- The entries of a get-model answer: "`(`, perhaps `model`, entries `(define-fun NAME () (_ BitVec W) VALUE)`, `)`."
use Rattle.std.specs.Prelude.{ℕ, ◌*◌, ◌^◌, Bool, true, cond, not, ◌&&◌, ◌||◌, List, [], ◌∷◌, length, take, drop, ◌==◌, nat_le, nat_lt, slice_index, slice_index_or}
use Rattle.texts.specs.Runs.{ascii, equal}
use Rattle.texts.specs.Numbers.{digits_in, value_in}
use Rattle.entries.specs.declared.Slot.{Slot}
use Rattle.entries.specs.declared.Slot.TheVariants.{Opens, Closes, Define, Index, Sort, Name, Width, Literal, Decimal}
use Rattle.entries.specs.Pieces.{chop}
use Rattle.entries.specs.Tokens.{Token, tokens}
use Rattle.entries.specs.Names.{inside, is_name}

-- "Numerals have no leading zero and any length."
unfoldable pub is_numeral : Token → Bool
is_numeral t = digits_in 10 t && (length t == 1 || not (slice_index t 0 == 48))

-- "a width outside 1 to 64" is syntax: 0 stands for what is no width
unfoldable pub up_to64 : ℕ → ℕ
up_to64 w = cond (nat_le w 64) w 0

unfoldable pub width_said : Token → ℕ
width_said t = cond (is_numeral t) (up_to64 (value_in 10 t)) 0

-- the two bytes that a token begins with, and the base of a literal: "#b", "#x"; 0 where it is none
abbrev pub begins : List ℕ → Token → Bool
begins p t = equal (take 2 t) p

unfoldable pub base_of : Token → ℕ
base_of t = cond (begins (ascii "#b") t) 2 (cond (begins (ascii "#x") t) 16 0)

-- "the count of `#b` digits, four times the count of `#x` digits; hexadecimal in both cases"
unfoldable pub literal_width : Token → ℕ
literal_width t =
    cond (digits_in (base_of t) (drop 2 t)) (up_to64 (cond (base_of t == 2) (length (drop 2 t)) (4 * length (drop 2 t)))) 0

-- "bvN", N a numeral
unfoldable pub is_decimal : Token → Bool
is_decimal t = begins (ascii "bv") t && is_numeral (drop 2 t)

-- whether a token fits where it stands in an entry
unfoldable pub fits : Slot → Token → Bool
fits Opens t = equal t (ascii "(")
fits Closes t = equal t (ascii ")")
fits Define t = equal t (ascii "define-fun")
fits Index t = equal t (ascii "_")
fits Sort t = equal t (ascii "BitVec")
fits Name t = is_name t
fits Width t = nat_lt 0 (width_said t)
fits Literal t = nat_lt 0 (literal_width t)
fits Decimal t = is_decimal t

-- a missing token reads as empty, which fits nowhere
unfoldable pub matches : List Slot → List Token → Bool
matches [] ts = true
matches (p ∷ ps) ts = fits p (slice_index_or ts 0 []) && matches ps (drop 1 ts)

-- "(define-fun NAME () (_ BitVec W)", and then "VALUE)": "#b..", "#x.." or "(_ bvN w)"
unfoldable pub heading : List Slot
heading = Opens ∷ Define ∷ Name ∷ Opens ∷ Closes ∷ Opens ∷ Index ∷ Sort ∷ Width ∷ Closes ∷ []

unfoldable pub literal : List Slot
literal = Literal ∷ Closes ∷ []

unfoldable pub decimal : List Slot
decimal = Opens ∷ Index ∷ Decimal ∷ Width ∷ Closes ∷ Closes ∷ []

-- how many tokens the entry has that stands first; 0 where none does
unfoldable pub entry_size : List Token → ℕ
entry_size ts = cond (matches heading ts) (cond (matches literal (drop 10 ts)) 12 (cond (matches decimal (drop 10 ts)) 16 0)) 0

-- what an entry says: a name, the width of its sort, and a value with its own width
pub record Entry : Type 0 where
  pub name : List ℕ
  pub sort : ℕ
  pub width : ℕ
  pub value : ℕ

unfoldable pub no_entry : Entry
no_entry = record { name = []; sort = 0; width = 0; value = 0 }

-- 34 "the sort or the value's width differs from the variable's, or a decimal is too large for its width"
unfoldable pub misfits : ℕ → Entry → Bool
misfits w e = not (e.sort == w) || not (e.width == w) || nat_le (2 ^ e.width) e.value

-- of the tokens from a value on: "#b..", "#x.." or "(_ bvN w)", its width and itself
abbrev pub is_literal : List Token → Bool
is_literal us = fits Literal (slice_index_or us 0 [])

unfoldable pub value_width : List Token → ℕ
value_width us = cond (is_literal us) (literal_width (slice_index_or us 0 [])) (width_said (slice_index_or us 3 []))

unfoldable pub value_said : List Token → ℕ
value_said us =
    cond (is_literal us) (value_in (base_of (slice_index_or us 0 [])) (drop 2 (slice_index_or us 0 []))) (value_in 10 (drop 2 (slice_index_or us 2 [])))

unfoldable pub entry_of : List Token → Entry
entry_of ts =
    record {
      name = inside (slice_index_or ts 2 []);
      sort = width_said (slice_index_or ts 8 []);
      width = value_width (drop 10 ts);
      value = value_said (drop 10 ts);
    }

-- the tokens after `(` and perhaps `model`
unfoldable pub body : List Token → List Token
body ts = cond (equal (slice_index_or ts 1 []) (ascii "model")) (drop 2 ts) (drop 1 ts)

-- entry by entry, as long as there is one: the entries, and the tokens that are left
unfoldable pub step_over : List Token → ℕ
step_over ts = cond (entry_size ts == 0) (length ts) (entry_size ts)

unfoldable pub entries_in : List Token → List Entry
entries_in ts = chop step_over (λ us. cond (entry_size us == 0) [] (entry_of us ∷ [])) 0 ts

unfoldable pub left_in : List Token → List Token
left_in ts = chop step_over (λ us. cond (entry_size us == 0) us []) 0 ts

-- 31: "Anything else, text before or after included, is 31."
unfoldable pub is_model : List ℕ → Bool
is_model text =
    equal (slice_index_or (tokens text) 0 []) (ascii "(")
    && equal (slice_index_or (left_in (body (tokens text))) 0 []) (ascii ")")
    && length (left_in (body (tokens text))) == 1

unfoldable pub entries : List ℕ → List Entry
entries text = entries_in (body (tokens text))
