-- Refusals 14 and 15 as facts: a call is accepted exactly if its problem is, there is a place for each node, and the variables agree.
use Rattle.std.specs.Prelude.{◌≡◌, List, ℕ, ◌≤◌, length}
use Rattle.std.proofs.Common.{◌∙◌}
use Rattle.problem.specs.Layout.{node_count}
use Rattle.problem.specs.Refusals.{Accepted, checked}
use Rattle.problem.specs.laws.First.{then_left, then_right, then_accepted, first_each, first_all}
use Rattle.nodes.specs.Problem.{problem}
use Rattle.nodes.specs.Values.{VariablesAgree}
use Rattle.search.specs.Call.{places_fault, start_fault, refusals}
use Rattle.search.specs.laws.Starts.{places_right, start_right}

-- a call that is not refused: an accepted problem, a place for each node, and variables that agree with their pairs
pub record Accepts (s start : List ℕ) : Type 0 where
  pub problem_good : checked s ≡ Accepted
  pub room : node_count s ≤ length start
  pub agrees : VariablesAgree (problem s) start

module _ (s start : List ℕ) where
  pub accepted_start : refusals s start ≡ Accepted → Accepts s start
  unfolding refusals VariablesAgree problem
  accepted_start h =
      let rest = then_right (checked s) _ h in
      record {
        problem_good = then_left (checked s) _ h;
        room = (places_right s start).0 (then_left (places_fault s start) _ rest);
        agrees = λ n l v. (start_right s start n).0 (first_each (start_fault s start) (node_count s) (then_right (places_fault s start) _ rest) n l) v;
      }

  -- "None is given otherwise."
  pub start_accepted : Accepts s start → refusals s start ≡ Accepted
  unfolding refusals VariablesAgree problem
  start_accepted a =
      then_accepted _ _ a.problem_good
      ∙ then_accepted _ _ ((places_right s start).1 a.room)
      ∙ first_all (start_fault s start) (node_count s) (λ n l. (start_right s start n).1 (a.agrees n l))
