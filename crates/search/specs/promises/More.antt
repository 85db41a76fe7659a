-- "More is never worse": what a call with a greater or equal budget, and a tape that begins with the words that a first one
-- used, has to do with that first one. Theorems over all that `run`'s contract allows (`Called`).
use Rattle.std.specs.Prelude.{◌≡◌, List, ℕ}
use Rattle.search.specs.declared.Answer.{Answer}
use Rattle.search.specs.Answers.{said}
use Rattle.search.specs.Run.{Whole.closed, Whole.searched}
use Rattle.search.specs.Call.{Called, Called.refuses, Called.runs}
use Rattle.search.specs.laws.Runs.{same_text, says_other}
use Rattle.search.specs.Passing.{Longer, Only, Through}
use Rattle.search.specs.laws.More.{only, go_through, model_on}

-- "if a run says model, then the same problem and start with a greater or equal budget and a tape that begins with the same
-- words says model with the same values and counts"
pub more_model :
    {s start ws ws' : List ℕ} {B B' : ℕ} {out : List ℕ} {a : Answer}
    → Called s start ws B out a
    → said a.outcome ≡ "model"
    → Longer ws B a ws' B'
    → Only s start ws' B' out a
more_model (refuses r e) q l = absurd (same_text q)
more_model (runs e (closed c)) q l = absurd (same_text q)
more_model (runs e (searched x r)) q l = only (model_on e x r q l)

-- "If it said spent, such a run passes through that very state after as many moves."
pub more_spent :
    {s start ws ws' : List ℕ} {B B' : ℕ} {out : List ℕ} {a : Answer}
    → Called s start ws B out a
    → said a.outcome ≡ "spent"
    → Longer ws B a ws' B'
    → Through s start ws' B' out a
more_spent (refuses r e) q l = absurd (same_text q)
more_spent (runs e (closed c)) q l = absurd (same_text q)
more_spent (runs e (searched x r)) q l = go_through e x r l

-- a run that ended is passed through as one that was spent
pub more_ended :
    {s start ws ws' : List ℕ} {B B' : ℕ} {out : List ℕ} {a : Answer}
    → Called s start ws B out a
    → said a.outcome ≡ "ended"
    → Longer ws B a ws' B'
    → Through s start ws' B' out a
more_ended (refuses r e) q l = absurd (same_text q)
more_ended (runs e (closed c)) q l = absurd (same_text q)
more_ended (runs e (searched x r)) q l = go_through e x r l

-- closed stays closed, and a refusal that refusal, under every budget and tape
pub more_closed :
    {s start ws : List ℕ} {B : ℕ} {out : List ℕ} {a : Answer} (ws' : List ℕ) (B' : ℕ)
    → Called s start ws B out a
    → said a.outcome ≡ "closed"
    → Only s start ws' B' out a
more_closed ws' B' (refuses r e) q = absurd (same_text q)
more_closed ws' B' (runs e (closed c)) q = only (runs e (closed c))
more_closed ws' B' (runs e (searched x r)) q = absurd (says_other r q)

pub more_refused :
    {s start ws : List ℕ} {B : ℕ} {out : List ℕ} {a : Answer} (ws' : List ℕ) (B' : ℕ)
    → Called s start ws B out a
    → said a.outcome ≡ "refused"
    → Only s start ws' B' out a
more_refused ws' B' (refuses r e) q = only (refuses r e)
more_refused ws' B' (runs e (closed c)) q = absurd (same_text q)
more_refused ws' B' (runs e (searched x r)) q = absurd (says_other r q)
