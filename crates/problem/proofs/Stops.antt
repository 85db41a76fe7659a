-- What the check's parts need of one another, and that a refusal stops what comes after it.
use Rattle.std.proofs.Common.{◌≡◌, ℕ, ◌+◌, ◌*◌, ◌<◌, ◌≤◌, List, length, Err, arith}
use Rattle.problem.specs.declared.Refusal.{Refusal}
use Rattle.problem.specs.Layout.{node_count, root_count, root_at}
use Rattle.problem.specs.Refusals.{Checked, Accepted, first_below, header_fault, root_fault}
use Rattle.problem.specs.laws.First.{first_found}
use Rattle.problem.specs.laws.Facts.{header_accepted, ids_small}

-- the refusal at i, below which there is none, is the first
pub stops : (f : ℕ → Checked) (i n : ℕ) (r : Refusal) → first_below f i ≡ Accepted → f i ≡ Err r → i < n → first_below f n ≡ Err r
stops f i n r p q h = first_found f i n r p q h

-- after the header every node is inside
pub nodes_inside : (s : List ℕ) → header_fault s ≡ Accepted → 9 + 24 * node_count s ≤ length s
nodes_inside s h = omega (arith, (header_accepted s h).whole)

-- after 13 each root's id is below 1,024
pub roots_small :
    (s : List ℕ) → header_fault s ≡ Accepted → first_below (root_fault s) (root_count s) ≡ Accepted → (j : ℕ) → j < root_count s → root_at s j < 1024
roots_small s h r j l = ids_small s h (root_count s) r j l
