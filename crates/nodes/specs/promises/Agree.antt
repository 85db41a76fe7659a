-- Document 01, "Fixed bits of inner nodes": "For every assignment that agrees with the variables' pairs, every node's value agrees
-- with its own pair."
use Rattle.std.specs.Prelude.{◌≡◌, List, ℕ}
use Rattle.problem.specs.Refusals.{Accepted, checked}
use Rattle.nodes.specs.Problem.{problem}
use Rattle.nodes.specs.Values.{Evaluated, VariablesAgree, NodesAgree}
use Rattle.nodes.specs.laws.Good.{good_of}
use Rattle.nodes.specs.laws.Pairs.{all_agree}

pub every_value_agrees :
    (s vs : List ℕ) → checked s ≡ Accepted → Evaluated (problem s) vs → VariablesAgree (problem s) vs → NodesAgree (problem s) vs
every_value_agrees s vs a = all_agree (problem s) (good_of s a) vs
