-- "How long a tape do I need?": no move, finished or not, makes more than H steps, and a run that is given B x (1 + 2H) words
-- never says ended.
use Rattle.std.specs.Prelude.{◌≡◌, List, ℕ, ◌+◌, ◌*◌, ◌≤◌, length}
use Rattle.std.proofs.Common.{arith}
use Rattle.problem.specs.Refusals.{Accepted, checked}
use Rattle.search.specs.declared.Answer.{Answer}
use Rattle.search.specs.Answers.{said}
use Rattle.nodes.specs.Problem.{problem}
use Rattle.moves.specs.Moves.{End, AllOne, Move, ClosedRoot}
use Rattle.search.specs.Run.{Whole.closed, Whole.searched}
use Rattle.search.specs.Call.{Called, Called.refuses, Called.runs}
use Rattle.nodes.specs.Values.{Evaluated}
use Rattle.evaluation.specs.Height.{Longest}
use Rattle.nodes.specs.laws.Good.{good_of}
use Rattle.search.specs.laws.Runs.{kept_start, same_text}
use Rattle.search.specs.promises.Accepted.{accepted_start}
use Rattle.tapes.specs.Steps.{steps_of}
use Rattle.tapes.specs.laws.Need.{move_few, run_served}

-- "no move makes more than H steps": of an accepted problem with no root fixed at 0, where every node has its value and some
-- root is not 1, which is where moves are made
pub move_steps :
    (s : List ℕ) (H : ℕ) {vs ws : List ℕ} {m : ℕ} {r : End}
    → checked s ≡ Accepted
    → Longest (problem s) H
    → (ClosedRoot (problem s) → ⊥)
    → Evaluated (problem s) vs
    → (AllOne (problem s) vs → ⊥)
    → (k : Move (problem s) vs ws m r)
    → steps_of k ≤ H
move_steps s H {vs} e top c ev x k = (move_few (problem s) (good_of s e) vs ev c top x k).few

-- "a run given at least that many words never ends with verdict ended": under every budget b up to B
pub never_ended :
    {s start ws : List ℕ} {b : ℕ} {out : List ℕ} {a : Answer} (B H : ℕ)
    → Longest (problem s) H
    → b ≤ B
    → B * (1 + 2 * H) ≤ length ws
    → Called s start ws b out a
    → said a.outcome ≡ "ended"
    → ⊥
unfolding problem
never_ended B H top l e (refuses r q) t = same_text t
never_ended B H top l e (runs q (closed c)) t = same_text t
never_ended {s} {start} {b = b} B H top l e (runs q (searched c r)) t =
    let acc = accepted_start s start q in
    let g = good_of s acc.problem_good in
    run_served (problem s) g H top c b r (kept_start (problem s) g start acc.room acc.agrees).values B (omega arith) e t
