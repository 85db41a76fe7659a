-- A refusal, the search's or the bench's own, or the starts and the gathering.
use Rattle.std.proofs.Common.{◌≡◌, Err, rules, sym, ◌∙◌}
use Rattle.frames.proofs.Whole.{room_after, lent_enough, first_refused, own_refused, lent, all_gathered}
use Rattle.frames.proofs.gather_all.Goals as goal

pub returns-in_err-batch_refusal : goal.returns-in_err-batch_refusal
returns-in_err-batch_refusal c =
    let e : c.from_residual.result ≡ Err _ = search rules in
    rw e (first_refused _ _ _ _ _ _ _ _ _ (sym c.batch_refusal.ensures ∙ c.in_err-batch_refusal.was))

pub returns-in_err-own_refusal : goal.returns-in_err-own_refusal
returns-in_err-own_refusal c =
    let e : c.from_residual-in_err-own_refusal.result ≡ Err _ = search rules in
    rw e
    (own_refused _ _ _ _ _ _ _ _ _ (sym c.batch_refusal.ensures ∙ c.in_ok-batch_refusal.was) (sym c.own_refusal.ensures ∙ c.in_err-own_refusal.was))

pub invariant_of-accepted : goal.invariant_of-accepted
invariant_of-accepted c =
    let e = lent_enough _ _ _ _ _ _ _ (sym c.batch_refusal.ensures ∙ c.in_ok-batch_refusal.was) in
    record { accepted = e.problem_good }

pub run_starts-requires : goal.run_starts-requires
run_starts-requires c = lent_enough _ _ _ _ _ _ _ (sym c.batch_refusal.ensures ∙ c.in_ok-batch_refusal.was)

pub invariant_of-made : goal.invariant_of-made
invariant_of-made c =
    let e = lent_enough _ _ _ _ _ _ _ (sym c.batch_refusal.ensures ∙ c.in_ok-batch_refusal.was) in
    let room = room_after _ e.room c.run_starts.ensures in
    record { few = e.few; values_there = room.0; answers_there = room.1 }

pub gather_models-requires : goal.gather_models-requires
gather_models-requires c = lent _ _ _ _ _ _ _ _ _ (sym c.batch_refusal.ensures ∙ c.in_ok-batch_refusal.was) (sym c.own_refusal.ensures ∙ c.in_ok-own_refusal.was)

pub returns : goal.returns
returns c = all_gathered _ _ _ _ _ _ _ _ _ (sym c.batch_refusal.ensures ∙ c.in_ok-batch_refusal.was) (sym c.own_refusal.ensures ∙ c.in_ok-own_refusal.was) c.run_starts.ensures c.gather_models.ensures
