-- What the inner functions of a call with many starts ask and answer, in terms of the definitions. (Not needed to read what it
-- promises.)
use Rattle.std.specs.Prelude.{◌≡◌, List, ℕ, ◌+◌, ◌*◌, ◌≤◌, length, take}
use Rattle.problem.specs.Layout.{node_count}
use Rattle.problem.specs.Refusals.{Accepted, checked}
use Rattle.search.specs.declared.Answer.{Answer}
use Rattle.search.specs.Answers.{answer_words, told}
use Rattle.search.specs.Call.{Called}
use Rattle.batches.specs.Batch.{sum, places, Starts}
use Rattle.batches.specs.laws.Parts.{laid}

-- start k's places, and those of its answer
pub record Own (s : List ℕ) (k : ℕ) (values answers : List ℕ) : Type 0 where
  pub accepted : checked s ≡ Accepted
  pub values_there : k * node_count s + node_count s ≤ length values
  pub answers_there : k * answer_words + answer_words ≤ length answers

-- start k on the words ws with the budget B: its places and its answer are written, and nothing else
pub record OneMore (s values ws : List ℕ) (B : ℕ) (answers : List ℕ) (k : ℕ) (values' answers' : List ℕ) : Type 0 where
  pub out : List ℕ
  pub answer : Answer
  pub called : Called s (places s k values) ws B out answer
  pub values_are : values' ≡ laid (node_count s) k values out
  pub answers_are : answers' ≡ laid answer_words k answers (told answer)

-- k starts made, and the place on the tape where the next one's stretch begins
pub record Made (s values tape lengths budgets answers : List ℕ) (k from : ℕ) (values' answers' : List ℕ) : Type 0 where
  pub from_is : from ≡ sum (take k lengths)
  pub values_long : length values' ≡ length values
  pub answers_long : length answers' ≡ length answers
  pub starts : Starts s k values tape lengths budgets answers values' answers'
