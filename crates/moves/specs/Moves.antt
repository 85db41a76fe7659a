-- Document 01, "A run": moves, and when a root is closed. Relations, whose constructors are the paper's sentences.
use Rattle.std.specs.Prelude.{◌≡◌, List, ℕ, ◌+◌, ◌%◌, ◌≤◌, ◌<◌, length, get_or, drop}
use Rattle.nodes.specs.Problem.{Prob, arg, Variable, pair_hi, spot}
use Rattle.evaluation.specs.Lists.{Lists}
use Rattle.moves.specs.Step.{Step, goes, blocked}

-- how a move ends: variable n takes v, or it is blocked, with the steps made so far in the run and the rest of the tape; or
-- the tape cannot serve a draw whole
pub data End : Type 0 where
  sets : ℕ → ℕ → ℕ → List ℕ → End
  stuck : ℕ → List ℕ → End
  short : End

module _ (P : Prob) (vs : List ℕ) where
  -- from node n with target t, the words ws left and s steps made: "At a variable, the variable takes the target .. At any
  -- other node a step is made: read two words e, p"
  pub data Walk : ℕ → ℕ → List ℕ → ℕ → End → Type 0 where
    arrives : {n t s : ℕ} {ws : List ℕ} → Variable P n → Walk n t ws s (sets n t s ws)
    unserved : {n t s : ℕ} {ws : List ℕ} → (Variable P n → ⊥) → length ws < 2 → Walk n t ws s short
    stops : {n t s : ℕ} {ws : List ℕ} → (Variable P n → ⊥) → 2 ≤ length ws → Step (spot P vs n) t (get_or ws 0 0) (get_or ws 1 0) blocked → Walk n t ws s (stuck (s + 1) (drop 2 ws))
    onward : {n t s i v : ℕ} {ws : List ℕ} {r : End} → (Variable P n → ⊥) → 2 ≤ length ws → Step (spot P vs n) t (get_or ws 0 0) (get_or ws 1 0) (goes i v) → Walk (arg P n i) v (drop 2 ws) (s + 1) r → Walk n t ws s r

  -- root entry j is not satisfied; all are
  abbrev pub Unsatisfied : ℕ → Type 0
  Unsatisfied j = get_or vs (P.root j) 0 ≡ 1 → ⊥

  abbrev pub AllOne : Type 0
  AllOne = (j : ℕ) → j < P.entries → get_or vs (P.root j) 0 ≡ 1

  -- "A move reads one word, modulo the number of unsatisfied root entries, to take one of them in file order; its target is 1."
  pub data Move (ws : List ℕ) (s : ℕ) : End → Type 0 where
    no_word : length ws < 1 → Move ws s short
    from_root : {r : End} (us : List ℕ) → 1 ≤ length ws → Lists Unsatisfied P.entries us → Walk (P.root (get_or us (get_or ws 0 0 % length us) 0)) 1 (drop 1 ws) s r → Move ws s r

-- "a root is fixed at 0"
pub record ClosedRoot (P : Prob) : Type 0 where
  pub at : ℕ
  pub at_lt : at < P.entries
  pub is_zero : pair_hi P (P.root at) ≡ 0
