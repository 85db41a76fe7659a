-- The bench's refusals as facts: a call is accepted exactly if the search accepts it, one to eight different variables are named, and
-- there is room to keep in.
use Rattle.std.specs.Prelude.{◌≡◌, List, ℕ, ◌*◌, ◌≤◌, ◌<◌, length}
use Rattle.std.proofs.Common.{◌∙◌, arith}
use Rattle.problem.specs.Layout.{node_count}
use Rattle.problem.specs.Refusals.{Accepted, first_below}
use Rattle.problem.specs.laws.First.{then_left, then_right, then_accepted}
use Rattle.batches.specs.Batch.{batch_refusals}
use Rattle.batches.specs.promises.Accepted.{Enough, accepted_batch, batch_accepted}
use Rattle.frames.specs.Names.{most, count_fault, name_fault, gather_refusals}
use Rattle.frames.specs.laws.Names.{Named, count_right, names_right, keep_right}

pub record Offers (s : List ℕ) (starts : ℕ) (values tape lengths budgets names kept answers : List ℕ) : Type 0 where
  pub enough : Enough s starts values tape lengths budgets answers
  pub some : 1 ≤ length names
  pub few : length names ≤ 8
  pub named : (k : ℕ) → k < length names → Named s names k
  pub room : most * node_count s ≤ length kept

module _ (s : List ℕ) (starts : ℕ) (values tape lengths budgets names kept answers : List ℕ) where
  pub accepted_gather :
      gather_refusals s starts values tape lengths budgets names kept answers ≡ Accepted → Offers s starts values tape lengths budgets names kept answers
  unfolding gather_refusals
  accepted_gather h =
      let after = then_right (batch_refusals s starts values tape lengths budgets answers) _ h in
      let rest = then_right (count_fault names) _ after in
      let counted = (count_right names).0 (then_left (count_fault names) _ after) in
      record {
        enough = accepted_batch s starts values tape lengths budgets answers (then_left (batch_refusals s starts values tape lengths budgets answers) _ h);
        some = let x = counted.0 in omega arith;
        few = counted.1;
        named = (names_right s names).0 (then_left (first_below (name_fault s names) (length names)) _ rest);
        room = (keep_right s kept).0 (then_right (first_below (name_fault s names) (length names)) _ rest);
      }

  -- none is given otherwise
  pub gather_accepted :
      Offers s starts values tape lengths budgets names kept answers → gather_refusals s starts values tape lengths budgets names kept answers ≡ Accepted
  unfolding gather_refusals
  gather_accepted o =
      then_accepted _ _ (batch_accepted s starts values tape lengths budgets answers o.enough)
      ∙ then_accepted _ _ ((count_right names).1 (λ e. omega (arith, o.some), o.few))
      ∙ then_accepted _ _ ((names_right s names).1 o.named)
      ∙ (keep_right s kept).1 o.room
