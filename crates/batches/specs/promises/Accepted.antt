-- Refusals 17 to 19 as facts: a call with many starts is accepted exactly if its problem is and what is lent is enough.
use Rattle.std.specs.Prelude.{◌≡◌, ◌↔◌, List, ℕ, ◌*◌, ◌≤◌, length}
use Rattle.std.proofs.Common.{◌∙◌}
use Rattle.problem.specs.Layout.{node_count}
use Rattle.problem.specs.Refusals.{Accepted, checked}
use Rattle.problem.specs.laws.Tests.{lt_no, eq_yes, not_no, or_no}
use Rattle.problem.specs.laws.First.{then_left, then_right, then_accepted}
use Rattle.search.specs.Answers.{answer_words}
use Rattle.search.specs.laws.Starts.{one_line_is}
use Rattle.batches.specs.Batch.{sum, answers_fault, lists_fault, tape_fault, room_fault, batch_refusals}

-- a call with many starts that is not refused
pub record Enough (s : List ℕ) (starts : ℕ) (values tape lengths budgets answers : List ℕ) : Type 0 where
  pub problem_good : checked s ≡ Accepted
  pub few : starts ≤ 256
  pub a_length : length lengths ≡ starts
  pub a_budget : length budgets ≡ starts
  pub words : sum lengths ≤ length tape
  pub room : starts * node_count s ≤ length values
  pub answer_room : starts * answer_words ≤ length answers

module _ (s : List ℕ) (starts : ℕ) (values tape lengths budgets answers : List ℕ) where
  pub answers_right : (answers_fault starts answers ≡ Accepted) ↔ (starts * answer_words ≤ length answers)
  unfolding answers_fault
  answers_right = one_line_is 0 255 _ (lt_no (length answers) (starts * answer_words))

  pub lists_right : (lists_fault starts lengths budgets ≡ Accepted) ↔ ((starts ≤ 256) × (length lengths ≡ starts) × (length budgets ≡ starts))
  unfolding lists_fault
  lists_right =
      let e = one_line_is 0 17 _ (or_no (or_no (lt_no 256 starts) (not_no (eq_yes (length lengths) starts))) (not_no (eq_yes (length budgets) starts))) in
      (λ h. let f = e.0 h in (f.0.0, f.0.1, f.1), λ f. e.1 ((f.0, f.1), f.2))

  tape_right : (tape_fault tape lengths ≡ Accepted) ↔ (sum lengths ≤ length tape)
  unfolding tape_fault
  tape_right = one_line_is 0 18 _ (lt_no (length tape) (sum lengths))

  room_right : (room_fault s starts values ≡ Accepted) ↔ (starts * node_count s ≤ length values)
  unfolding room_fault
  room_right = one_line_is 0 19 _ (lt_no (length values) (starts * node_count s))

  pub accepted_batch : batch_refusals s starts values tape lengths budgets answers ≡ Accepted → Enough s starts values tape lengths budgets answers
  unfolding batch_refusals
  accepted_batch h =
      let after = then_right (answers_fault starts answers) _ h in
      let lists = then_right (checked s) _ after in
      let tapes = then_right (lists_fault starts lengths budgets) _ lists in
      let each = lists_right.0 (then_left (lists_fault starts lengths budgets) _ lists) in
      record {
        problem_good = then_left (checked s) _ after;
        few = each.0;
        a_length = each.1;
        a_budget = each.2;
        words = tape_right.0 (then_left (tape_fault tape lengths) _ tapes);
        room = room_right.0 (then_right (tape_fault tape lengths) _ tapes);
        answer_room = answers_right.0 (then_left (answers_fault starts answers) _ h);
      }

  pub batch_accepted : Enough s starts values tape lengths budgets answers → batch_refusals s starts values tape lengths budgets answers ≡ Accepted
  unfolding batch_refusals
  batch_accepted a =
      then_accepted _ _ (answers_right.1 a.answer_room)
      ∙ then_accepted _ _ a.problem_good
      ∙ then_accepted _ _ (lists_right.1 (a.few, a.a_length, a.a_budget))
      ∙ then_accepted _ _ (tape_right.1 a.words)
      ∙ room_right.1 a.room
