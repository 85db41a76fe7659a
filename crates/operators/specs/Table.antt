-- Document 01's table of kinds, with those of 02's R-1 and R-11: the number of each, its operands, the fields that it uses, and its width rule.
use Rattle.std.specs.Prelude.{◌≡◌, ℕ, ◌+◌, ◌<◌, ◌≤◌, Bool, true, ◌&&◌, List, [], ◌∷◌, length, ◌==◌, nat_le, nat_lt, slice_index_or}
use Rattle.operators.specs.declared.table.Rule.{Rule}
use Rattle.operators.specs.declared.table.Rule.TheVariants.{Free, One, Both, Equal, Choice, Sum, Part, Longer, Narrow}
use Rattle.operators.specs.declared.table.Shape.{Shape}

-- the kinds, in the order of their numbers: inv, conj and ite are the table's not, and, if; slt, ashr and sext are R-1's signed below, arithmetic
-- shift and sign extension, udiv is R-11's unsigned division
pub data Kind : Type 0 where
  variable : Kind
  constant : Kind
  inv : Kind
  conj : Kind
  xor : Kind
  add : Kind
  mul : Kind
  shl : Kind
  lshr : Kind
  eq : Kind
  below : Kind
  ite : Kind
  concat : Kind
  extract : Kind
  slt : Kind
  ashr : Kind
  sext : Kind
  udiv : Kind

abbrev pub kinds : List Kind
kinds = variable ∷ constant ∷ inv ∷ conj ∷ xor ∷ add ∷ mul ∷ shl ∷ lshr ∷ eq ∷ below ∷ ite ∷ concat ∷ extract ∷ slt ∷ ashr ∷ sext ∷ udiv ∷ []

-- how many kinds there are
abbrev pub kind_count : ℕ
kind_count = length kinds

-- the kind with a number; one that no kind has is refused by the problem check (7), and reads as a variable here
abbrev pub kind_of : ℕ → Kind
kind_of n = slice_index_or kinds n variable

abbrev pub row : ℕ → ℕ → Rule → Shape
row n f r = record { operands = n; fields = f; rule = r }

-- "operands" and "width rule" of the table, and how many of the fields a, b, c are used: extract's b is its lowest bit
abbrev pub shape : Kind → Shape
shape variable = row 0 0 Free
shape constant = row 0 0 Free
shape inv = row 1 1 One
shape conj = row 2 2 Both
shape xor = row 2 2 Both
shape add = row 2 2 Both
shape mul = row 2 2 Both
shape shl = row 2 2 Both
shape lshr = row 2 2 Both
shape eq = row 2 2 Equal
shape below = row 2 2 Equal
shape ite = row 3 3 Choice
shape concat = row 2 2 Sum
shape extract = row 1 2 Part
shape slt = row 2 2 Equal
shape ashr = row 2 2 Both
shape sext = row 1 1 Longer
shape udiv = row 2 2 Narrow

abbrev pub shape_of : ℕ → Shape
shape_of n = shape (kind_of n)

-- the width rule as a fact (of Narrow, w ≤ 16 is refusal 20, which is given before 11), of the node's width w, its operands' widths wa, wb, wc and its field b
abbrev pub RuleMet : Rule → ℕ → ℕ → ℕ → ℕ → ℕ → Type 0
RuleMet Free w wa wb wc b = Unit {0}
RuleMet One w wa wb wc b = wa ≡ w
RuleMet Both w wa wb wc b = (wa ≡ w) × (wb ≡ w)
RuleMet Equal w wa wb wc b = (wa ≡ wb) × (w ≡ 1)
RuleMet Choice w wa wb wc b = (wa ≡ 1) × (wb ≡ w) × (wc ≡ w)
RuleMet Sum w wa wb wc b = wa + wb ≡ w
RuleMet Part w wa wb wc b = b + w ≤ wa
RuleMet Longer w wa wb wc b = wa < w
RuleMet Narrow w wa wb wc b = (wa ≡ w) × (wb ≡ w) × (w ≤ 16)

-- the same as a test
unfoldable pub rule_holds : Rule → ℕ → ℕ → ℕ → ℕ → ℕ → Bool
rule_holds Free w wa wb wc b = true
rule_holds One w wa wb wc b = wa == w
rule_holds Both w wa wb wc b = wa == w && wb == w
rule_holds Equal w wa wb wc b = wa == wb && w == 1
rule_holds Choice w wa wb wc b = wa == 1 && wb == w && wc == w
rule_holds Sum w wa wb wc b = wa + wb == w
rule_holds Part w wa wb wc b = nat_le (b + w) wa
rule_holds Longer w wa wb wc b = nat_lt wa w
rule_holds Narrow w wa wb wc b = wa == w && wb == w && nat_le w 16
