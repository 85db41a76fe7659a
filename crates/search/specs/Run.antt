-- Document 01, "A run": what follows on evaluation, move after move. Relations, whose constructors are the paper's sentences.
use Rattle.std.specs.Prelude.{List, ℕ, ◌+◌, ◌*◌, ◌≤◌, ◌<◌, length, set}
use Rattle.search.specs.declared.Verdict.{Verdict}
use Rattle.search.specs.declared.Outcome.{Outcome}
use Rattle.search.specs.declared.Answer.{Answer}
use Rattle.nodes.specs.Problem.{Prob, evaluate}
use Rattle.evaluation.specs.Lists.{Lists}
use Rattle.evaluation.specs.Readers.{Above}
use Rattle.moves.specs.Moves.{sets, stuck, short, AllOne, Move, ClosedRoot}

-- "It reports moves, steps and words; words = moves + 2 x steps." R-7: "The answer record gains a count of nodes evaluated"
abbrev pub answer : ℕ → ℕ → ℕ → Verdict → Answer
answer m s e v = record { moves = m; steps = s; words = m + 2 * s; evaluated = e; outcome = Outcome.Settled v }

module _ (P : Prob) (B : ℕ) where
  -- rule 3 under the budget B, from the values vs, the words ws left, m moves and s steps made and e nodes evaluated: the values
  -- and the answer at the end. A draw that the tape cannot serve whole ends the run; "that unfinished move changes nothing and
  -- counts nowhere"
  pub data Run : List ℕ → List ℕ → ℕ → ℕ → ℕ → List ℕ → Answer → Type 0 where
    model : {vs ws : List ℕ} {m s e : ℕ} → AllOne P vs → Run vs ws m s e vs (answer m s e Verdict.Model)
    spent : {vs ws : List ℕ} {m s e : ℕ} → (AllOne P vs → ⊥) → B ≤ m → Run vs ws m s e vs (answer m s e Verdict.Spent)
    ended : {vs ws : List ℕ} {m s e : ℕ} → (AllOne P vs → ⊥) → m < B → Move P vs ws s short → Run vs ws m s e vs (answer m s e Verdict.Ended)
    -- R-7: "for every finished move that sets a variable the number of nodes reachable upward from it, itself included. Blocked
    -- moves .. add 0"
    moved : {vs ws ws' out us : List ℕ} {m s s' e n v : ℕ} {a : Answer} → (AllOne P vs → ⊥) → m < B → Move P vs ws s (sets n v s' ws') → Lists (Above P n) P.nodes us → Run (evaluate P (set vs n v)) ws' (m + 1) s' (e + length us) out a → Run vs ws m s e out a
    held : {vs ws ws' out : List ℕ} {m s s' e : ℕ} {a : Answer} → (AllOne P vs → ⊥) → m < B → Move P vs ws s (stuck s' ws') → Run vs ws' (m + 1) s' e out a → Run vs ws m s e out a

  -- rules 1 to 3, of a problem and a start that are not refused; of the nodes evaluated "N at the beginning"
  pub data Whole (start ws : List ℕ) : List ℕ → Answer → Type 0 where
    closed : ClosedRoot P → Whole start ws (evaluate P start) (answer 0 0 P.nodes Verdict.Closed)
    searched : {out : List ℕ} {a : Answer} → (ClosedRoot P → ⊥) → Run (evaluate P start) ws 0 0 P.nodes out a → Whole start ws out a
