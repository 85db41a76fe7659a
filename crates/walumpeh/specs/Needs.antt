-- What `need` answers through the C interface, as numbers.
use Rattle.std.specs.Prelude.{List, ℕ, ◌≤◌, ◌<◌, length, set}
use Rattle.tapes.specs.declared.TapeNeed.{TapeNeed}
use Rattle.tapes.specs.Needed.{Needed}
use Rattle.walumpeh.specs.Codes.{checked_code, too_short}

-- a call with the bytes s, the budget B and the places out: out afterwards, which has H and the words in its first places, and
-- the number
pub data NeedCode (s : List ℕ) (B : ℕ) (out : List ℕ) : List ℕ → ℕ → Type 0 where
  no_room : length out < 2 → NeedCode s B out out too_short
  told : {n : TapeNeed} → 2 ≤ length out → Needed s B n → NeedCode s B out (set (set out 0 n.h) 1 n.words) (checked_code n.found)
