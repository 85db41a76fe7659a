-- What the functions inside tell: a run and its answer's text, and where the nodes of an answered problem stand.
use Rattle.std.specs.Prelude.{◌≡◌, List, ℕ, ◌+◌, ◌*◌, ◌≤◌, length}
use Rattle.problem.specs.Layout.{node_count}
use Rattle.search.specs.declared.Verdict.{Verdict}
use Rattle.search.specs.declared.Outcome.TheVariants.{Settled}
use Rattle.search.specs.declared.Answer.{Answer}
use Rattle.search.specs.Call.{Called}
use Rattle.files.specs.declared.text.Text.{Text}
use Rattle.files.specs.Laid.{Laid}
use Rattle.files.specs.Words.{budget_of, tape_of}
use Rattle.files.specs.Text.{printed}

-- ---- for the functions inside

-- a piece of text put behind what a buffer holds, as much of it as fits; the buffer is still the one that was lent
pub record Puts (xs : List ℕ) (before after : Text) : Type 0 where
  pub text : Laid xs before.used before.out.now after.out.now after.used
  pub same : after.out.ghost_name ≡ before.out.ghost_name

-- a run of the problem from the values start, and its answer's text laid over what the places held before: what they hold after,
-- and how many of them the text takes
pub record Told (problem start words before after : List ℕ) (r : ℕ) : Type 0 where
  pub values : List ℕ
  pub answer : Answer
  pub called : Called problem start (tape_of words) (budget_of words) values answer
  pub text : Laid (printed problem values answer) 0 before after r

-- where the answer holds a verdict, all nodes of the problem are there
pub record NodesThere (problem : List ℕ) (answer : Answer) : Type 0 where
  pub there : (v : Verdict) → answer.outcome ≡ Settled v → 9 + 24 * node_count problem ≤ length problem
