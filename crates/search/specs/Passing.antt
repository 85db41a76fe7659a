-- What "More is never worse" speaks of: a longer call, the one result that a call has, and a run that passes through a state.
use Rattle.std.specs.Prelude.{◌≡◌, List, ℕ, ◌+◌, ◌≤◌, ◌<◌, length, set, take, drop}
use Rattle.search.specs.declared.Answer.{Answer}
use Rattle.nodes.specs.Problem.{Prob, problem, evaluate}
use Rattle.evaluation.specs.Lists.{Lists}
use Rattle.evaluation.specs.Readers.{Above}
use Rattle.moves.specs.Moves.{sets, stuck, AllOne, Move, ClosedRoot}
use Rattle.search.specs.Run.{Run}
use Rattle.search.specs.Call.{refusals, Called}
use Rattle.problem.specs.Refusals.{Accepted}

-- the longer call: "a greater or equal budget and a tape that begins with the same words", those that the answer a used
pub record Longer (ws : List ℕ) (B : ℕ) (a : Answer) (ws' : List ℕ) (B' : ℕ) : Type 0 where
  pub budget : B ≤ B'
  pub begins : take a.words ws' ≡ take a.words ws

-- the contract allows this result of a call, and no other
pub record Only (s start ws : List ℕ) (B : ℕ) (out : List ℕ) (a : Answer) : Type 0 where
  pub allowed : Called s start ws B out a
  pub no_other : (out' : List ℕ) (a' : Answer) → Called s start ws B out' a' → (out' ≡ out) × (a' ≡ a)

-- a run cut open: under the budget B, from the values vs, with the words ws left after m moves and s steps and e nodes
-- evaluated, it comes before its next move to the values vs', with ws' left after m' moves and s' steps and e' nodes evaluated
module _ (P : Prob) (B : ℕ) where
  pub data Passes : List ℕ → List ℕ → ℕ → ℕ → ℕ → List ℕ → List ℕ → ℕ → ℕ → ℕ → Type 0 where
    here : {vs ws : List ℕ} {m s e : ℕ} → Passes vs ws m s e vs ws m s e
    after_set : {vs ws ws₁ vs' ws' us : List ℕ} {m s e s₁ n v m' s' e' : ℕ} → (AllOne P vs → ⊥) → m < B → Move P vs ws s (sets n v s₁ ws₁) → Lists (Above P n) P.nodes us → Passes (evaluate P (set vs n v)) ws₁ (m + 1) s₁ (e + length us) vs' ws' m' s' e' → Passes vs ws m s e vs' ws' m' s' e'
    after_held : {vs ws ws₁ vs' ws' : List ℕ} {m s e s₁ m' s' e' : ℕ} → (AllOne P vs → ⊥) → m < B → Move P vs ws s (stuck s₁ ws₁) → Passes vs ws₁ (m + 1) s₁ e vs' ws' m' s' e' → Passes vs ws m s e vs' ws' m' s' e'

-- a call passes through "that very state after as many moves": the values out, with the moves and steps of a made, its words
-- read and its nodes evaluated; and whatever it answers is what the run comes to that goes on from there
pub record Through (s start ws : List ℕ) (B : ℕ) (out : List ℕ) (a : Answer) : Type 0 where
  pub accepted : refusals s start ≡ Accepted
  pub none_closed : ClosedRoot (problem s) → ⊥
  pub passes : Passes (problem s) B (evaluate (problem s) start) ws 0 0 (problem s).nodes out (drop a.words ws) a.moves a.steps a.evaluated
  pub onward : (out' : List ℕ) (a' : Answer) → Called s start ws B out' a' → Run (problem s) B out (drop a.words ws) a.moves a.steps a.evaluated out' a'
