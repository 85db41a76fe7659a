-- What `judge` answers through the C interface, as numbers.
use Rattle.std.specs.Prelude.{List, ℕ, ◌≤◌, ◌<◌, length, set}
use Rattle.models.specs.Judgement.{judged}
use Rattle.models.specs.Answers.{yes_of, root_of}
use Rattle.walumpeh.specs.Codes.{judged_code, too_short}

-- a call with the bytes s, the list of names, the text and the places out: out afterwards, which has 1 for yes and 0 otherwise in
-- its first place and the first root that is 0 in its second, and the number
pub data ModelCode (s list text out : List ℕ) : List ℕ → ℕ → Type 0 where
  no_room : length out < 2 → ModelCode s list text out out too_short
  told :
      2 ≤ length out
      → ModelCode s list text out (set (set out 0 (yes_of (judged s list text))) 1 (root_of (judged s list text))) (judged_code (judged s list text))
