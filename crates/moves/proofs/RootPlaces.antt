-- What the code's readings of a root have to do with the definitions.
use mathlib.Core.Path.{◌≡◌, ap}
use mathlib.Core.List.{List}
use Prim.Native.Nat.{ℕ}
use lib.ListN.{get_or}
use Rattle.problem.specs.Layout.{root_at}
use Rattle.nodes.specs.Problem.{problem}

-- what stands at its place among the values
pub value_of_root : (s vs : List ℕ) (j r : ℕ) → r ≡ root_at s j → get_or vs r 0 ≡ get_or vs ((problem s).root j) 0
unfolding problem
value_of_root s vs j r e = ap (λ (i : ℕ). get_or vs i 0) e
