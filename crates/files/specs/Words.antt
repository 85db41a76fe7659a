-- Document 01: "`tvrun` reads `problem.tbv` (at most 25,098 bytes of it), `start.bin` (64-bit words, one per node, at most 1,024;
-- those present are the places lent) and `tape.bin` (first word modulo 65,536 is the budget, 0 if absent; up to 1,023 further
-- words are the tape). Words are little-endian."
use Rattle.std.specs.Prelude.{List, [], ◌∷◌, ◌++◌, ℕ, zero, suc, ◌*◌, ◌/◌, ◌%◌, length, get_or, take, drop}
use Rattle.problem.specs.Layout.{le64}

-- the bytes of `problem.tbv` that count: "at most 25,098 bytes of it"
unfoldable pub file_problem : List ℕ → List ℕ
file_problem s = take 25098 s

-- the first n words of the bytes s
unfoldable pub words_below : List ℕ → ℕ → List ℕ
words_below s zero = []
words_below s (suc i) = words_below s i ++ le64 s (8 * i) ∷ []

-- all words of the bytes s: "spare bytes at the end of the two word files, too few for a word, are ignored"
unfoldable pub words_of : List ℕ → List ℕ
words_of s = words_below s (length s / 8)

-- the words of a file that count: at most 1,024
unfoldable pub file_words : List ℕ → List ℕ
file_words s = take 1024 (words_of s)

-- the budget and the tape that the words of `tape.bin` hold
unfoldable pub budget_of : List ℕ → ℕ
budget_of ws = get_or ws 0 0 % 65536

unfoldable pub tape_of : List ℕ → List ℕ
tape_of ws = drop 1 ws
