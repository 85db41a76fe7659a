-- Document 02, "How long a tape do I need?": what `need` answers.
use Rattle.std.specs.Prelude.{Err as Refused, ◌≡◌, List, ℕ, ◌+◌, ◌*◌}
use Rattle.problem.specs.declared.Refusal.{Refusal}
use Rattle.problem.specs.Refusals.{Accepted, checked}
use Rattle.tapes.specs.declared.TapeNeed.{TapeNeed}
use Rattle.nodes.specs.Problem.{problem}
use Rattle.evaluation.specs.Height.{Longest}

-- "H for a problem, and the number of words B x (1 + 2H) for a budget B"; refusals are those of the problem check, "with H and
-- the number then 0"
pub data Needed (s : List ℕ) (B : ℕ) : TapeNeed → Type 0 where
  refuses : (r : Refusal) → checked s ≡ Refused r → Needed s B (record { h = 0; words = 0; found = Refused r })
  needs : {H : ℕ} → checked s ≡ Accepted → Longest (problem s) H → Needed s B (record { h = H; words = B * (1 + 2 * H); found = Accepted })
