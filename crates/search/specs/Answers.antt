-- The paper's number, place and name of what a run answers, for each case; and an answer as words, where no record can stand.
use Rattle.std.specs.Prelude.{List, [], ◌∷◌, ℕ, ◌+◌, ◌*◌}
use Prim.Native.String.{String}
use Rattle.search.specs.declared.Verdict.{Verdict}
use Rattle.search.specs.declared.Verdict.TheVariants.{Model, Spent, Ended, Closed}
use Rattle.search.specs.declared.Outcome.{Outcome}
use Rattle.search.specs.declared.Outcome.TheVariants.{Refused, Settled}
use Rattle.search.specs.declared.Answer.{Answer}

-- "a refusal with its number and place, or a verdict", of which both are 0
abbrev pub number_of : Outcome → ℕ
number_of (Refused r) = r.number
number_of (Settled v) = 0

abbrev pub place_of : Outcome → ℕ
place_of (Refused r) = r.place
place_of (Settled v) = 0

-- "names model, spent, ended, closed"
abbrev pub name : Verdict → String
name Model = "model"
name Spent = "spent"
name Ended = "ended"
name Closed = "closed"

-- what an outcome is called: a verdict by its name, a refusal `refused`
abbrev pub said : Outcome → String
said (Refused r) = "refused"
said (Settled v) = name v

-- the number that stands for a verdict where names do not (the C interface), in the order of the names
abbrev pub verdict_number : Verdict → ℕ
verdict_number Model = 0
verdict_number Spent = 1
verdict_number Ended = 2
verdict_number Closed = 3

-- 0 model, 1 spent, 2 ended, 3 closed, 4 refused
abbrev pub verdict_code : Outcome → ℕ
verdict_code (Settled v) = verdict_number v
verdict_code (Refused r) = 4

-- a refusal as one number: the paper's number in the low 8 bits, the place above; 0 where there is none
abbrev pub refusal_code : ℕ → ℕ → ℕ
refusal_code number place = number + 256 * place

abbrev pub outcome_code : Outcome → ℕ
outcome_code o = refusal_code (number_of o) (place_of o)

-- an answer as words: its refusal, verdict, moves, steps, words and nodes evaluated
abbrev pub answer_words : ℕ
answer_words = 6

abbrev pub told : Answer → List ℕ
told a = outcome_code a.outcome ∷ verdict_code a.outcome ∷ a.moves ∷ a.steps ∷ a.words ∷ a.evaluated ∷ []
