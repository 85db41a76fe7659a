-- Values of all nodes: that each place holds its node's value, and that values agree with their pairs.
use Rattle.std.specs.Prelude.{◌≡◌, List, ℕ, ◌<◌, get_or}
use Rattle.words.specs.Agree.{Agrees}
use Rattle.nodes.specs.Problem.{Prob, Variable, value_of, pair_lo, pair_hi}

module _ (P : Prob) where
  -- every node's place holds its value
  unfoldable pub Evaluated : List ℕ → Type 0
  Evaluated vs = (n : ℕ) → n < P.nodes → get_or vs n 0 ≡ value_of P vs n

  -- every variable agrees with its pair
  unfoldable pub VariablesAgree : List ℕ → Type 0
  VariablesAgree vs = (n : ℕ) → n < P.nodes → Variable P n → Agrees (P.own_lo n) (P.own_hi n) (get_or vs n 0)

-- every node's value agrees with its own pair
unfoldable pub NodesAgree : Prob → List ℕ → Type 0
NodesAgree P vs = (n : ℕ) → n < P.nodes → Agrees (pair_lo P n) (pair_hi P n) (get_or vs n 0)
