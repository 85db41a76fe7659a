-- How text falls apart: classes of bytes, the longest run of a class, the pieces between separators, and pieces that are the same.
use Rattle.std.specs.Prelude.{Bool, true, false, cond, not, ◌&&◌, ◌||◌, List, [], ◌∷◌, ℕ, suc, leb, eqb}
use Prim.Native.Char.{code}
use Prim.Native.String.{String}
use Rattle.texts.specs.declared.runs.Class.{Class}
use Rattle.texts.specs.declared.runs.Class.TheVariants.{Line, Blank, Solid, Lower, Comment, Bars, Clean, Bare, Symbol}

-- the bytes of a text whose characters are all ASCII
unfoldable pub ascii : String → List ℕ
ascii String.[] = []
ascii (String.◌∷◌ c s) = code c ∷ ascii s

-- BTOR2's space, tab and carriage return; line feed; small letters
unfoldable pub is_blank : ℕ → Bool
is_blank b = eqb b 32 || eqb b 9 || eqb b 13

abbrev pub is_feed : ℕ → Bool
is_feed b = eqb b 10

unfoldable pub is_lower : ℕ → Bool
is_lower b = leb 97 b && leb b 122

-- SMT-LIB's white space: space, tab, line feed and carriage return
unfoldable pub is_white : ℕ → Bool
is_white b = eqb b 32 || eqb b 9 || eqb b 10 || eqb b 13

-- SMT-LIB's simple symbols are of letters, digits and ~ ! @ $ % ^ & * _ - + = < > . ? /
unfoldable pub is_one_of : List ℕ → ℕ → Bool
is_one_of [] b = false
is_one_of (c ∷ cs) b = eqb b c || is_one_of cs b

abbrev pub is_digit : ℕ → Bool
is_digit b = leb 48 b && leb b 57

unfoldable pub is_symbol_byte : ℕ → Bool
is_symbol_byte b = is_lower b || leb 65 b && leb b 90 || is_digit b || is_one_of (ascii "~!@$%^&*_-+=<>.?/") b

-- the classes: an SMT-LIB comment runs to a line end, 10 or 13; between bars is what is no bar, and clean what is no backslash;
-- a bare token is of bytes other than white space, `(`, `)`, `;`, `|` and `"`
unfoldable pub is_in : Class → ℕ → Bool
is_in Line b = not (is_feed b)
is_in Blank b = is_blank b
is_in Solid b = not (is_blank b)
is_in Lower b = is_lower b
is_in Comment b = not (eqb b 10 || eqb b 13)
is_in Bars b = not (eqb b 124)
is_in Clean b = not (eqb b 92)
is_in Bare b = not (is_white b || eqb b 40 || eqb b 41 || eqb b 59 || eqb b 124 || eqb b 34)
is_in Symbol b = is_symbol_byte b

-- how many bytes of a class a text begins with
unfoldable pub length_of_run : (ℕ → Bool) → List ℕ → ℕ
length_of_run p [] = 0
length_of_run p (b ∷ s) = cond (p b) (suc (length_of_run p s)) 0

-- a list of pieces with a byte in front of the first
unfoldable pub onto : ℕ → List (List ℕ) → List (List ℕ)
onto b [] = (b ∷ []) ∷ []
onto b (t ∷ ts) = (b ∷ t) ∷ ts

-- the pieces of a text between the bytes that a test picks: one piece more than there are such bytes
unfoldable pub split : (ℕ → Bool) → List ℕ → List (List ℕ)
split p [] = [] ∷ []
split p (b ∷ s) = cond (p b) ([] ∷ split p s) (onto b (split p s))

-- whether two pieces are the same
unfoldable pub equal : List ℕ → List ℕ → Bool
equal [] [] = true
equal [] (y ∷ ys) = false
equal (x ∷ xs) [] = false
equal (x ∷ xs) (y ∷ ys) = eqb x y && equal xs ys
