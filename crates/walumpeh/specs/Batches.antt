-- What `batch` answers through the C interface, as a number.
use Rattle.std.specs.Prelude.{List, ℕ}
use Rattle.batches.specs.Batch.{Batch}
use Rattle.walumpeh.specs.Codes.{checked_code}
use Rattle.problem.specs.Refusals.{Checked}

-- a call with the bytes s and what is lent for so many starts: values and answers afterwards, and the number
pub data BatchCode (s : List ℕ) (starts : ℕ) (values tape lengths budgets answers : List ℕ) : List ℕ → List ℕ → ℕ → Type 0 where
  told :
      {values' answers' : List ℕ} {found : Checked}
      → Batch s starts values tape lengths budgets answers values' answers' found
      → BatchCode s starts values tape lengths budgets answers values' answers' (checked_code found)
