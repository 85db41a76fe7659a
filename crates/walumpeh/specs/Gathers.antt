-- What `gather` answers through the C interface, as numbers.
use Rattle.std.specs.Prelude.{◌⊎◌, List, ℕ, ◌*◌, ◌≤◌, ◌<◌, length, set}
use Rattle.search.specs.Answers.{answer_words}
use Rattle.frames.specs.declared.Gathered.{Gathered}
use Rattle.frames.specs.Bench.{Gather}
use Rattle.walumpeh.specs.Codes.{checked_code, too_short}

-- a call with the bytes s, what is lent for so many starts, the names, the places to keep in and the places out: values, kept places,
-- answers and out afterwards, which has the counts of kept, repeats and unkept in its first places, and the number
pub data GatherCode (s : List ℕ) (starts : ℕ) (values tape lengths budgets names kept answers out : List ℕ) :
    List ℕ → List ℕ → List ℕ → List ℕ → ℕ → Type 0 where
  no_room :
      (length out < 3) ⊎ (length answers < starts * answer_words)
      → GatherCode s starts values tape lengths budgets names kept answers out values kept answers out too_short
  told :
      {values' kept' answers' : List ℕ} {g : Gathered}
      → 3 ≤ length out
      → starts * answer_words ≤ length answers
      → Gather s starts values tape lengths budgets names kept answers values' kept' answers' g
      → GatherCode s starts values tape lengths budgets names kept answers out values' kept' answers'
      (set (set (set out 0 g.kept) 1 g.repeats) 2 g.unkept) (checked_code g.found)
