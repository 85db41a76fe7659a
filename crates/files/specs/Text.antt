-- Document 01: "It prints the one line `refused NUMBER at PLACE`; or the line `verdict NAME moves M steps S words W` (names model,
-- spent, ended, closed) and then, for each variable by id, a line `ID VALUE`. All numbers are unsigned decimal."
use Rattle.std.specs.Prelude.{cond, List, [], ◌∷◌, ◌++◌, ℕ, zero, suc, ◌+◌, ◌/◌, ◌%◌, ltb, eqb, get_or}
use Prim.Native.Char.{code}
use Prim.Native.String.{String}
use Rattle.problem.specs.Layout.{node_count, node_at}
use Rattle.search.specs.declared.Verdict.{Verdict}
use Rattle.search.specs.declared.Outcome.{Outcome}
use Rattle.search.specs.declared.Outcome.TheVariants.{Refused, Settled}
use Rattle.search.specs.declared.Answer.{Answer}
use Rattle.search.specs.Answers.{number_of, place_of, name}

-- the bytes of a text, whose characters are all ASCII
unfoldable pub ascii : String → List ℕ
ascii String.[] = []
ascii (String.◌∷◌ c s) = code c ∷ ascii s

-- the byte of a digit, from "0" on
abbrev pub digit : ℕ → ℕ
digit d = 48 + d

-- the digits of a number of at most k + 1 digits, none for zeros in front
unfoldable pub decimal_in : ℕ → ℕ → List ℕ
decimal_in zero n = digit n ∷ []
decimal_in (suc k) n = cond (ltb n 10) (digit n ∷ []) (decimal_in k (n / 10) ++ digit (n % 10) ∷ [])

-- "All numbers are unsigned decimal": 64 bits take at most 20 digits
unfoldable pub decimal : ℕ → List ℕ
decimal n = decimal_in 19 n

-- a text and the number after it
unfoldable pub labelled : String → ℕ → List ℕ
labelled label n = ascii label ++ decimal n

-- "names model, spent, ended, closed"
unfoldable pub name_of : Verdict → List ℕ
name_of v = ascii (name v)

-- "`refused NUMBER at PLACE`"
unfoldable pub refused_line : Outcome → List ℕ
refused_line o = labelled "refused " (number_of o) ++ labelled " at " (place_of o) ++ ascii "\n"

-- "`verdict NAME moves M steps S words W`"
unfoldable pub verdict_line : Answer → Verdict → List ℕ
verdict_line a v =
    ascii "verdict " ++ name_of v ++ labelled " moves " a.moves ++ labelled " steps " a.steps ++ labelled " words " a.words
    ++ ascii "\n"

-- "`ID VALUE`"
unfoldable pub variable_line : ℕ → ℕ → List ℕ
variable_line id value = decimal id ++ labelled " " value ++ ascii "\n"

-- node i's line under the values vs: a variable has one
unfoldable pub node_line : List ℕ → List ℕ → ℕ → List ℕ
node_line s vs i = cond (eqb (node_at s i).kind 0) (variable_line i (get_or vs i 0)) []

-- "for each variable by id", of the nodes below n
unfoldable pub lines_below : List ℕ → List ℕ → ℕ → List ℕ
lines_below s vs zero = []
lines_below s vs (suc i) = lines_below s vs i ++ node_line s vs i

-- by what the answer holds
unfoldable pub lines_of : List ℕ → List ℕ → Answer → Outcome → List ℕ
lines_of s vs a (Refused r) = refused_line (Refused r)
lines_of s vs a (Settled v) = verdict_line a v ++ lines_below s vs (node_count s)

-- what is printed of an answer a to the problem s, with the values vs handed back
unfoldable pub printed : List ℕ → List ℕ → Answer → List ℕ
printed s vs a = lines_of s vs a a.outcome
