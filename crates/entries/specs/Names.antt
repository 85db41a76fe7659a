-- Names: those of the lent list, and those that an entry may have.
use Rattle.std.specs.Prelude.{ℕ, zero, suc, ◌-◌, Bool, false, cond, not, ◌&&◌, ◌||◌, List, [], ◌∷◌, length, take, drop, ◌==◌, nat_le, nat_lt, slice_index, slice_index_or}
use Rattle.texts.specs.declared.runs.Class.TheVariants.{Clean, Symbol, Line}
use Rattle.texts.specs.Runs.{is_digit, is_in, length_of_run, equal}
use Rattle.entries.specs.Pieces.{chop}

-- "a name of two or more bytes that begins and ends with `|`"
unfoldable pub is_barred : List ℕ → Bool
is_barred t = nat_le 2 (length t) && slice_index t 0 == 124 && slice_index t (length t - 1) == 124

-- of such a one "the inside counts"; "`|x|` is `x`"
unfoldable pub inside : List ℕ → List ℕ
inside t = cond (is_barred t) (take (length t - 2) (drop 1 t)) t

-- "The list: a name before each line feed, and what is left at the end if not empty."
unfoldable pub line_length : List ℕ → ℕ
line_length s = length_of_run (is_in Line) s

unfoldable pub names : List ℕ → List (List ℕ)
names list = chop (λ s. suc (line_length s)) (λ s. inside (take (line_length s) s) ∷ []) 0 list

-- where a name stands first in a list of names; the list's length where it is not there
unfoldable pub position : List ℕ → List (List ℕ) → ℕ
position n [] = 0
position n (m ∷ ms) = cond (equal m n) 0 (suc (position n ms))

-- name k of a list stands earlier in it
unfoldable pub is_again : List (List ℕ) → ℕ → Bool
is_again ns k = nat_lt (position (slice_index_or ns k []) ns) k

-- whether a test holds of a number below n
unfoldable pub some : (ℕ → Bool) → ℕ → Bool
some f zero = false
some f (suc n) = some f n || f n

-- a simple symbol is of such bytes, in any number but none, with no digit first
unfoldable pub is_simple : List ℕ → Bool
is_simple t = nat_lt 0 (length t) && length_of_run (is_in Symbol) t == length t && not (is_digit (slice_index t 0))

-- "`|…|` is any bytes but `|` and `\`": a token has no bar but the first and the last
unfoldable pub is_quoted : List ℕ → Bool
is_quoted t = is_barred t && length_of_run (is_in Clean) t == length t

-- "a simple or a quoted symbol; reserved words are allowed; `||` is the empty name"
unfoldable pub is_name : List ℕ → Bool
is_name t = is_simple t || is_quoted t
