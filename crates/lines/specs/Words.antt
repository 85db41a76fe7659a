-- The keywords of the list, as a table: what each is called and which arguments it takes.
use Rattle.std.specs.Prelude.{cond, List, [], ◌∷◌, ℕ, suc, get_or}
use Rattle.texts.specs.Runs.{ascii, equal}
use Rattle.lines.specs.declared.table.Row.{Row}
use Rattle.lines.specs.declared.table.Makes.{Makes}
use Rattle.lines.specs.declared.table.Makes.TheVariants.{Sort, Input, Value, Root}
use Rattle.lines.specs.Lines.{Token}

-- inv, conj and disj are the list's not, and, or; other is any word outside the list
pub data Word : Type 0 where
  sort : Word
  input : Word
  zeros : Word
  one : Word
  ones : Word
  const : Word
  constd : Word
  consth : Word
  inv : Word
  conj : Word
  disj : Word
  xor : Word
  add : Word
  sub : Word
  mul : Word
  sll : Word
  srl : Word
  sra : Word
  eq : Word
  neq : Word
  ult : Word
  slt : Word
  ite : Word
  concat : Word
  slice : Word
  uext : Word
  sext : Word
  constraint : Word
  other : Word

-- the words in the order of their numbers
abbrev pub words : List Word
words =
    sort ∷ input ∷ zeros ∷ one ∷ ones ∷ const ∷ constd ∷ consth ∷ inv ∷ conj ∷ disj ∷ xor ∷ add ∷ sub ∷ mul ∷ sll ∷ srl ∷ sra ∷ eq ∷ neq
    ∷ ult ∷ slt ∷ ite ∷ concat ∷ slice ∷ uext ∷ sext ∷ constraint ∷ []

abbrev pub word_of : ℕ → Word
word_of n = get_or words n other

-- their names, in the same order
unfoldable pub names : List Token
names =
    ascii "sort" ∷ ascii "input" ∷ ascii "zero" ∷ ascii "one" ∷ ascii "ones" ∷ ascii "const" ∷ ascii "constd" ∷ ascii "consth"
    ∷ ascii "not" ∷ ascii "and" ∷ ascii "or" ∷ ascii "xor" ∷ ascii "add" ∷ ascii "sub" ∷ ascii "mul" ∷ ascii "sll" ∷ ascii "srl"
    ∷ ascii "sra" ∷ ascii "eq" ∷ ascii "neq" ∷ ascii "ult" ∷ ascii "slt" ∷ ascii "ite" ∷ ascii "concat" ∷ ascii "slice"
    ∷ ascii "uext" ∷ ascii "sext" ∷ ascii "constraint" ∷ []

-- where a token stands in a list first; the list's length where it does not
unfoldable pub index_of : Token → List Token → ℕ
index_of t [] = 0
index_of t (n ∷ ns) = cond (equal t n) 0 (suc (index_of t ns))

-- the number of a keyword: 28 where it is outside the list
unfoldable pub number_of : Token → ℕ
number_of t = index_of t names

-- a row: what the line makes (a sort, an input, another value, a root), how many references, how many numbers, and the base of a constant, 0 for none.
-- Before them an input's and a value's line has a sort's id, a sort's line the word `bitvec`
abbrev pub row : Makes → ℕ → ℕ → ℕ → Row
row m r n b = record { makes = m; refs = r; numbers = n; base = b }

unfoldable pub shape : Word → Row
shape sort = row Sort 0 1 0
shape input = row Input 0 0 0
shape zeros = row Value 0 0 0
shape one = row Value 0 0 0
shape ones = row Value 0 0 0
shape const = row Value 0 0 2
shape constd = row Value 0 0 10
shape consth = row Value 0 0 16
shape inv = row Value 1 0 0
shape conj = row Value 2 0 0
shape disj = row Value 2 0 0
shape xor = row Value 2 0 0
shape add = row Value 2 0 0
shape sub = row Value 2 0 0
shape mul = row Value 2 0 0
shape sll = row Value 2 0 0
shape srl = row Value 2 0 0
shape sra = row Value 2 0 0
shape eq = row Value 2 0 0
shape neq = row Value 2 0 0
shape ult = row Value 2 0 0
shape slt = row Value 2 0 0
shape ite = row Value 3 0 0
shape concat = row Value 2 0 0
shape slice = row Value 1 2 0
shape uext = row Value 1 1 0
shape sext = row Value 1 1 0
shape constraint = row Root 1 0 0
shape other = row Root 0 0 0
