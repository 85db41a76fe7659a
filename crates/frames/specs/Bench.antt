-- Document 02, "Frame bench": "calls the search start after start in the order given, and keeps up to 64 solutions with all their node
-- values".
use Rattle.std.specs.Prelude.{Err as Refused, ◌≡◌, List, [], ◌∷◌, ◌++◌, ℕ, suc, ◌+◌, ◌*◌, ◌≤◌, ◌<◌, length, get_or, drop}
use Rattle.problem.specs.declared.Refusal.{Refusal}
use Rattle.problem.specs.Layout.{node_count}
use Rattle.search.specs.declared.Verdict.TheVariants.{Model}
use Rattle.search.specs.Answers.{verdict_number, answer_words}
use Rattle.batches.specs.Batch.{places, Batch}
use Rattle.frames.specs.declared.Gathered.{Gathered}
use Rattle.frames.specs.Names.{most, gather_refusals}
use Rattle.problem.specs.Refusals.{Accepted}

-- two solutions agree "on all named variables"
abbrev pub Alike : List ℕ → List ℕ → List ℕ → Type 0
Alike names one other = (i : ℕ) → i < length names → get_or one (get_or names i 0) 0 ≡ get_or other (get_or names i 0) 0

-- start k's run has "verdict model": the second of its answer's words
abbrev pub Modelled : List ℕ → ℕ → Type 0
Modelled answers k = get_or answers (k * answer_words + 1) 0 ≡ verdict_number Model

-- the solution "agrees .. on all named variables" with one of the starts l that are kept, of the starts' values
pub record Agrees (s names values l solution : List ℕ) : Type 0 where
  pub at : ℕ
  pub at_lt : at < length l
  pub alike : Alike names (places s (get_or l at 0) values) solution

-- of the first k starts, whose values and answers are these, those that are kept "in order of arrival", and the counts of repeats
-- and unkept: "Kept .. while there is room, is every model that agrees with no kept one on all named variables; one that agrees
-- counts as a repeat, room or not; the rest count as unkept." A run without a model, and "a start refused 15, is passed over"
pub data Gathers (s names values answers : List ℕ) : ℕ → List ℕ → ℕ → ℕ → Type 0 where
  none : Gathers s names values answers 0 [] 0 0
  passed :
      {k r u : ℕ} {l : List ℕ}
      → Gathers s names values answers k l r u
      → (Modelled answers k → ⊥)
      → Gathers s names values answers (suc k) l r u
  keeps :
      {k r u : ℕ} {l : List ℕ}
      → Gathers s names values answers k l r u
      → Modelled answers k
      → (Agrees s names values l (places s k values) → ⊥)
      → length l < most
      → Gathers s names values answers (suc k) (l ++ (k ∷ [])) r u
  repeats :
      {k r u : ℕ} {l : List ℕ}
      → Gathers s names values answers k l r u
      → Modelled answers k
      → Agrees s names values l (places s k values)
      → Gathers s names values answers (suc k) l (r + 1) u
  unkept :
      {k r u : ℕ} {l : List ℕ}
      → Gathers s names values answers k l r u
      → Modelled answers k
      → (Agrees s names values l (places s k values) → ⊥)
      → most ≤ length l
      → Gathers s names values answers (suc k) l r (u + 1)

-- the gathering over all starts: the starts that are kept, their solutions in the places lent to keep in, N places each, and "Places
-- after the last kept solution stay unchanged"
pub record Bench (s : List ℕ) (starts : ℕ) (names values answers kept kept' : List ℕ) (m r u : ℕ) : Type 0 where
  pub list : List ℕ
  pub gathers : Gathers s names values answers starts list r u
  pub count : m ≡ length list
  pub solutions : (j : ℕ) → j < length list → places s j kept' ≡ places s (get_or list j 0) values
  pub beyond : drop (length list * node_count s) kept' ≡ drop (length list * node_count s) kept

-- the whole call: a refusal, "nothing kept or changed"; or the starts as a call of the search makes them, and the gathering
pub data Gather (s : List ℕ) (starts : ℕ) (values tape lengths budgets names kept answers : List ℕ) :
    List ℕ → List ℕ → List ℕ → Gathered → Type 0 where
  refuses :
      (r : Refusal)
      → gather_refusals s starts values tape lengths budgets names kept answers ≡ Refused r
      → Gather s starts values tape lengths budgets names kept answers values kept answers
      (record { kept = 0; repeats = 0; unkept = 0; found = Refused r })
  gathers :
      {values' kept' answers' : List ℕ} {m r u : ℕ}
      → gather_refusals s starts values tape lengths budgets names kept answers ≡ Accepted
      → Batch s starts values tape lengths budgets answers values' answers' Accepted
      → Bench s starts names values' answers' kept kept' m r u
      → Gather s starts values tape lengths budgets names kept answers values' kept' answers'
      (record { kept = m; repeats = r; unkept = u; found = Accepted })
