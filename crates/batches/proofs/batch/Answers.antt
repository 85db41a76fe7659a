-- A refusal of the call, or every start.
use Rattle.std.proofs.Common.{◌≡◌, rules, sym, ◌∙◌}
use Rattle.batches.specs.Batch.{Batch.runs}
use Rattle.batches.specs.promises.Accepted.{accepted_batch}
use Rattle.batches.proofs.Many.{refused_call}
use Rattle.batches.proofs.batch.Goals as goal

pub returns-in_err-batch_refusal : goal.returns-in_err-batch_refusal
returns-in_err-batch_refusal c =
    let e : c.from_residual.result ≡ c.batch_refusal.result = search rules in
    rw e (refused_call c.batch_refusal.ensures c.in_err-batch_refusal.was)

pub run_starts-requires : goal.run_starts-requires
run_starts-requires c = accepted_batch _ _ _ _ _ _ _ (sym c.batch_refusal.ensures ∙ c.in_ok-batch_refusal.was)

pub returns : goal.returns
returns c = runs (sym c.batch_refusal.ensures ∙ c.in_ok-batch_refusal.was) c.run_starts.ensures
