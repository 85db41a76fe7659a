-- What the inner functions of the bench ask and answer, in terms of the definitions. (Not needed to read what it promises.)
use Rattle.std.specs.Prelude.{Result, Ok, Err as Refused, All, List, ℕ, ◌+◌, ◌*◌, ◌≤◌, ◌<◌, length}
use Rattle.problem.specs.declared.Refusal.{Refusal}
use Rattle.problem.specs.Layout.{node_count}
use Rattle.problem.specs.Refusals.{Checked, Accepted, first_below, ◌then◌}
use Rattle.search.specs.Answers.{answer_words}
use Rattle.batches.specs.Batch.{part}
use Rattle.batches.specs.laws.Parts.{laid}
use Rattle.frames.specs.declared.gathering.Tally.{Tally}
use Rattle.frames.specs.declared.Gathered.{Gathered}
use Rattle.frames.specs.Names.{most, count_fault, name_fault, keep_fault}
use Rattle.frames.specs.Bench.{Alike, Modelled, Bench}

-- every name is below n
abbrev pub NamesBelow : List ℕ → ℕ → Type 0
NamesBelow names n = All (λ id. id < n) names

-- a solution, and so many that are kept
pub record Compared (names solution kept : List ℕ) (held : ℕ) : Type 0 where
  pub named : NamesBelow names (length solution)
  pub room : held * length solution ≤ length kept

-- one of the kept solutions agrees with this one
pub record AgreesIn (names kept : List ℕ) (held : ℕ) (solution : List ℕ) : Type 0 where
  pub at : ℕ
  pub at_lt : at < held
  pub alike : Alike names (part (length solution) at kept) solution

-- a solution, the places to keep in, and what was counted so far
pub record Taking (names solution kept : List ℕ) (t : Tally) : Type 0 where
  pub named : NamesBelow names (length solution)
  pub room : most * length solution ≤ length kept
  pub held : t.kept ≤ most
  pub few_repeats : t.repeats ≤ 256
  pub few_unkept : t.unkept ≤ 256

-- what becomes of it
pub data Taken (names solution kept : List ℕ) (t : Tally) : List ℕ → Tally → Type 0 where
  repeated :
      AgreesIn names kept t.kept solution
      → Taken names solution kept t kept (record { kept = t.kept; repeats = t.repeats + 1; unkept = t.unkept })
  left_out :
      (AgreesIn names kept t.kept solution → ⊥)
      → most ≤ t.kept
      → Taken names solution kept t kept (record { kept = t.kept; repeats = t.repeats; unkept = t.unkept + 1 })
  held :
      (AgreesIn names kept t.kept solution → ⊥)
      → t.kept < most
      → Taken names solution kept t (laid (length solution) t.kept kept solution)
      (record { kept = t.kept + 1; repeats = t.repeats; unkept = t.unkept })

-- start k of n nodes, with its answer
pub record StartThere (n k : ℕ) (values answers names kept : List ℕ) (t : Tally) : Type 0 where
  pub values_there : k * n + n ≤ length values
  pub answers_there : k * answer_words + answer_words ≤ length answers
  pub named : NamesBelow names n
  pub room : most * n ≤ length kept
  pub held : t.kept ≤ most
  pub few_repeats : t.repeats ≤ 256
  pub few_unkept : t.unkept ≤ 256

pub data StartTaken (n k : ℕ) (values answers names kept : List ℕ) (t : Tally) : List ℕ → Tally → Type 0 where
  passed_over : (Modelled answers k → ⊥) → StartTaken n k values answers names kept t kept t
  model :
      {kept' : List ℕ} {t' : Tally}
      → Modelled answers k
      → Taken names (part n k values) kept t kept' t'
      → StartTaken n k values answers names kept t kept' t'

-- the starts of a call, its names and the places to keep in
pub record Gatherable (s : List ℕ) (starts : ℕ) (values answers names kept : List ℕ) : Type 0 where
  pub few : starts ≤ 256
  pub values_there : starts * node_count s ≤ length values
  pub answers_there : starts * answer_words ≤ length answers
  pub named : NamesBelow names (node_count s)
  pub room : most * node_count s ≤ length kept

-- the names of an accepted problem's variables, and the places to keep in
pub record Lent (s names kept : List ℕ) : Type 0 where
  pub named : NamesBelow names (node_count s)
  pub room : most * node_count s ≤ length kept

-- the gathering, with its counts as a record
abbrev pub Tallied : List ℕ → ℕ → List ℕ → List ℕ → List ℕ → List ℕ → List ℕ → Tally → Type 0
Tallied s starts names values answers kept kept' t = Bench s starts names values answers kept kept' t.kept t.repeats t.unkept

-- the bench's own refusals, after the search's
abbrev pub own_refusals : List ℕ → List ℕ → List ℕ → Checked
own_refusals s names kept = count_fault names then first_below (name_fault s names) (length names) then keep_fault s kept

-- what callers are told: the counts, or the refusal and counts of 0
abbrev pub gathered_of : Result Tally Refusal → Gathered
gathered_of (Ok t) = record { kept = t.kept; repeats = t.repeats; unkept = t.unkept; found = Accepted }
gathered_of (Refused r) = record { kept = 0; repeats = 0; unkept = 0; found = Refused r }
