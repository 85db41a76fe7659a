-- Request R-12: "The result has the same solutions, variable for variable, each old node's value taken from its operands wherever they
-- stand." What a solution of a file is, by the definitions of `evaluation`, which ask nothing of the order of its nodes: a value for each
-- node, and every node's equation holds.
use Rattle.std.specs.Prelude.{◌≡◌, List, [], ◌∷◌, ℕ, ◌<◌, get_or}
use Rattle.problem.specs.Layout.{node_count, root_count, root_at}
use Rattle.nodes.specs.Problem.{problem}
use Rattle.nodes.specs.Values.{Evaluated, VariablesAgree}
use Rattle.mending.specs.Order.{old, new}
use Rattle.mending.specs.Mended.{joined}

-- every node has the value that its operator gives from its operands' values, a constant its own, a variable one that agrees with its
-- pair; and every root is 1
pub record Solution (s vs : List ℕ) : Type 0 where
  pub evaluated : Evaluated (problem s) vs
  pub agrees : VariablesAgree (problem s) vs
  pub all_one : (j : ℕ) → j < root_count s → get_or vs (root_at s j) 0 ≡ 1

module _ (s : List ℕ) where
  -- the values of the file carried along the map: each new id has its old id's value
  unfoldable pub carried : List ℕ → List ℕ
  carried vs = joined (λ k. get_or vs (old s k) 0 ∷ []) (node_count s)

  -- and those of the mended file carried back
  unfoldable pub returned : List ℕ → List ℕ
  returned us = joined (λ i. get_or us (new s i) 0 ∷ []) (node_count s)
