-- R-7, "after a move evaluate only nodes above the changed variable": that gives what evaluating everything gives.
use Rattle.std.specs.Prelude.{◌≡◌, List, ℕ, ◌≤◌, ◌<◌, length, set}
use Rattle.std.proofs.Common.{le_refl}
use Rattle.problem.specs.Refusals.{Accepted, checked}
use Rattle.nodes.specs.Problem.{problem, Variable, evaluate}
use Rattle.nodes.specs.Values.{Evaluated}
use Rattle.evaluation.specs.Lists.{Lists}
use Rattle.evaluation.specs.Readers.{Above, eval_over}
use Rattle.nodes.specs.laws.Good.{good_of}
use Rattle.evaluation.specs.laws.Above.{enough}

-- of evaluated values vs, variable v takes x: the nodes above v, in ascending id, are enough
pub above_is_enough :
    (s vs : List ℕ) (v x : ℕ) (l : List ℕ)
    → checked s ≡ Accepted
    → (problem s).nodes ≤ length vs
    → Evaluated (problem s) vs
    → v < (problem s).nodes
    → Variable (problem s) v
    → Lists (Above (problem s) v) (problem s).nodes l
    → eval_over (problem s) l (set vs v x) ≡ evaluate (problem s) (set vs v x)
above_is_enough s vs v x l a room ev inside var r =
    enough (problem s) (good_of s a) vs room ev v x var inside (le_refl (problem s).nodes) r
