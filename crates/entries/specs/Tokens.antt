-- The tokens of a get-model answer. A token is its bytes: `(`, `)`, a quoted symbol with its bars, a bare token; a missing token
-- reads as empty, and no token is empty.
use Rattle.std.specs.Prelude.{ℕ, ◌+◌, Bool, cond, ◌||◌, List, [], ◌∷◌, take, drop, ◌==◌, slice_index}
use Rattle.texts.specs.declared.runs.Class.TheVariants.{Comment, Bars, Bare}
use Rattle.texts.specs.Runs.{is_white, is_in, length_of_run}
use Rattle.entries.specs.Pieces.{chop}

abbrev pub Token : Type 0
Token = List ℕ

-- the length of the piece that a text begins with: "a comment runs from `;` to a line end", which in SMT-LIB is 10 or 13; "`|…|`
-- is any bytes but `|` and `\`", both bars counted; "every other longest run is a bare token": of bytes other than white space,
-- `(`, `)`, `;`, `|`, `"`; and any other byte is a piece by itself
unfoldable pub piece_length : List ℕ → ℕ
piece_length s =
    cond (slice_index s 0 == 59) (length_of_run (is_in Comment) s)
    (cond (slice_index s 0 == 124) (2 + length_of_run (is_in Bars) (drop 1 s))
    (cond (is_in Bare (slice_index s 0)) (length_of_run (is_in Bare) s) 1))

-- "white space is 32, 9, 10, 13"; neither it nor a comment is a token
unfoldable pub is_gap : ℕ → Bool
is_gap b = is_white b || b == 59

unfoldable pub token_at : List ℕ → List Token
token_at s = cond (is_gap (slice_index s 0)) [] (take (piece_length s) s ∷ [])

unfoldable pub tokens : List ℕ → List Token
tokens text = chop piece_length token_at 0 text
