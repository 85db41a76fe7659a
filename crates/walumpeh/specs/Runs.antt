-- What a run answers through the C interface, as numbers.
use Rattle.std.specs.Prelude.{List, ℕ, ◌≤◌, ◌<◌, length, set}
use Rattle.search.specs.declared.Answer.{Answer}
use Rattle.search.specs.Answers.{verdict_code, outcome_code}
use Rattle.search.specs.Call.{Called}
use Rattle.walumpeh.specs.Codes.{too_short}

-- the verdict and the counts in the first places, of which so many are counted on
abbrev pub counted : ℕ
counted = 5

abbrev pub reported : List ℕ → Answer → List ℕ
reported out a = set (set (set (set (set out 0 (verdict_code a.outcome)) 1 a.moves) 2 a.steps) 3 a.words) 4 a.evaluated

-- a call with the bytes s, the places start, the tape ws, the budget B and the places out: values and out afterwards, and
-- the number
pub data RunCode (s start ws : List ℕ) (B : ℕ) (out : List ℕ) : List ℕ → List ℕ → ℕ → Type 0 where
  no_room : length out < counted → RunCode s start ws B out start out too_short
  called : {vs : List ℕ} {a : Answer} → counted ≤ length out → Called s start ws B vs a → RunCode s start ws B out vs (reported out a) (outcome_code a.outcome)
