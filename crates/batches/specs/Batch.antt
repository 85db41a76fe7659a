-- Document 02, "A hundred starts at once": "one problem and up to 256 starts, each with its own N places in turn, its own stretch of
-- one lent tape given by a length, and its own budget".
use Rattle.std.specs.Prelude.{Err as Refused, ◌≡◌, not, ◌||◌, List, [], ◌∷◌, ℕ, ◌+◌, ◌*◌, ◌<◌, eqb, ltb, length, get_or, take, drop}
use Rattle.problem.specs.declared.Refusal.{Refusal}
use Rattle.problem.specs.Layout.{node_count}
use Rattle.problem.specs.Refusals.{Checked, Accepted, first_of, ◌then◌, checked}
use Rattle.search.specs.declared.Answer.{Answer}
use Rattle.search.specs.Answers.{answer_words, told}
use Rattle.search.specs.Call.{Called}

-- the k-th w places of a list
abbrev pub part : ℕ → ℕ → List ℕ → List ℕ
part w k xs = take w (drop (k * w) xs)

-- a sum of numbers, however large
unfoldable pub sum : List ℕ → ℕ
sum [] = 0
sum (x ∷ xs) = x + sum xs

-- ---- refusals of the call: their place is 0

-- no number of the paper's: fewer places lent for the answers than all of them take
unfoldable pub answers_fault : ℕ → List ℕ → Checked
answers_fault starts answers = first_of 0 ((255, ltb (length answers) (starts * answer_words)) ∷ [])

-- 17 "for more than 256 starts or a list of lengths or budgets that is not one a start"
unfoldable pub lists_fault : ℕ → List ℕ → List ℕ → Checked
lists_fault starts lengths budgets =
    first_of 0 ((17, ltb 256 starts || not (eqb (length lengths) starts) || not (eqb (length budgets) starts)) ∷ [])

-- 18 "for tape lengths whose sum exceeds the tape"
unfoldable pub tape_fault : List ℕ → List ℕ → Checked
tape_fault tape lengths = first_of 0 ((18, ltb (length tape) (sum lengths)) ∷ [])

-- 19 "for fewer places than starts x N"
unfoldable pub room_fault : List ℕ → ℕ → List ℕ → Checked
room_fault s starts values = first_of 0 ((19, ltb (length values) (starts * node_count s)) ∷ [])

-- "1 to 13 and 16 [and 20] as before, then 17 .., 18 .., 19"
unfoldable pub batch_refusals : List ℕ → ℕ → List ℕ → List ℕ → List ℕ → List ℕ → List ℕ → Checked
batch_refusals s starts values tape lengths budgets answers =
    answers_fault starts answers
    then checked s
    then lists_fault starts lengths budgets
    then tape_fault tape lengths
    then room_fault s starts values

-- ---- the starts

-- start k's places among all, "its own N places in turn"
abbrev pub places : List ℕ → ℕ → List ℕ → List ℕ
places s k values = part (node_count s) k values

-- start k's words of the tape, "its own stretch .. given by a length": the stretch begins where those before it end
abbrev pub stretch : List ℕ → List ℕ → ℕ → List ℕ
stretch tape lengths k = take (get_or lengths k 0) (drop (sum (take k lengths)) tape)

-- start k, of the places before and afterwards and the answers afterwards: what a single run does with its places, its stretch and
-- its budget. "then each start's 15 in its own answer"
pub record Start (s values tape lengths budgets values' answers' : List ℕ) (k : ℕ) : Type 0 where
  pub answer : Answer
  pub called : Called s (places s k values) (stretch tape lengths k) (get_or budgets k 0) (places s k values') answer
  pub is_told : part answer_words k answers' ≡ told answer

-- "Answers and values equal those of single runs, one after the other"; what lies beyond them is as it was
pub record Starts (s : List ℕ) (starts : ℕ) (values tape lengths budgets answers values' answers' : List ℕ) : Type 0 where
  pub start : (k : ℕ) → k < starts → Start s values tape lengths budgets values' answers' k
  pub values_beyond : drop (starts * node_count s) values' ≡ drop (starts * node_count s) values
  pub answers_beyond : drop (starts * answer_words) answers' ≡ drop (starts * answer_words) answers

-- the whole call: values and answers afterwards, and what is answered. "Any refusal of the call leaves all values untouched", and
-- all answers
pub data Batch (s : List ℕ) (starts : ℕ) (values tape lengths budgets answers : List ℕ) : List ℕ → List ℕ → Checked → Type 0 where
  refuses :
      (r : Refusal)
      → batch_refusals s starts values tape lengths budgets answers ≡ Refused r
      → Batch s starts values tape lengths budgets answers values answers (Refused r)
  runs :
      {values' answers' : List ℕ}
      → batch_refusals s starts values tape lengths budgets answers ≡ Accepted
      → Starts s starts values tape lengths budgets answers values' answers'
      → Batch s starts values tape lengths budgets answers values' answers' Accepted
