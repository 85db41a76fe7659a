-- What demand 3 speaks of: solutions, and how far a start is from one.
use Rattle.std.specs.Prelude.{List, ℕ, zero, suc, ◌+◌, eqb, get_or}
use Rattle.nodes.specs.Problem.{one_of, Prob}
use Rattle.moves.specs.Moves.{AllOne}
use Rattle.nodes.specs.Values.{Evaluated, VariablesAgree}

module _ (P : Prob) where
  -- an assignment that agrees with the variables' fixed bits, evaluated, with every root 1
  pub record Solution (vs : List ℕ) : Type 0 where
    pub evaluated : Evaluated P vs
    pub agrees : VariablesAgree P vs
    pub all_one : AllOne P vs

  -- in how many variables of the first n nodes vs and us differ
  unfoldable pub apart : List ℕ → List ℕ → ℕ → ℕ
  apart vs us zero = 0
  apart vs us (suc n) = apart vs us n + one_of (eqb (P.kind n) 0) (one_of (eqb (get_or vs n 0) (get_or us n 0)) 0 1) 0
