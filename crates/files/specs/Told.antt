-- The program as a whole: what is printed, from the bytes of its three files.
use Rattle.std.specs.Prelude.{◌≡◌, List, ℕ, length, take, drop}
use Rattle.search.specs.declared.Answer.{Answer}
use Rattle.search.specs.Call.{Called}
use Rattle.files.specs.Words.{file_problem, file_words, budget_of, tape_of}
use Rattle.files.specs.Text.{printed}

-- of the bytes of `problem.tbv`, `start.bin` and `tape.bin`: a run of the problem from the values that the start's words lend,
-- with the tape and the budget that the tape's words hold; and its answer's text, which is the first r of the places afterwards,
-- whole, the others being as before
pub record Output (problem start tape before after : List ℕ) (r : ℕ) : Type 0 where
  pub values : List ℕ
  pub answer : Answer
  pub called : Called (file_problem problem) (file_words start) (tape_of (file_words tape)) (budget_of (file_words tape)) values answer
  pub count : r ≡ length (printed (file_problem problem) values answer)
  pub text : take r after ≡ printed (file_problem problem) values answer
  pub rest : drop r after ≡ drop r before

-- what was read of a file: the first n of the places are the whole file, or as much of it as there are places
pub record Read (file places : List ℕ) (n : ℕ) : Type 0 where
  pub is : take n places ≡ take (length places) file

-- that output, from what was read of the three files, whatever files these are
pub record Prints (problem : List ℕ) (p : ℕ) (start : List ℕ) (s : ℕ) (tape : List ℕ) (t : ℕ) (before after : List ℕ) (r : ℕ) : Type 0 where
  pub of_files : (P S T : List ℕ) → Read P problem p → Read S start s → Read T tape t → Output P S T before after r
