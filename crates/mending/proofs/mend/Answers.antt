-- Refused, or finished.
use Rattle.std.proofs.Common.{◌≡◌, rules, refl, sym, ◌∙◌, ℕ}
use lib.ListN.{length-replicate}
use Rattle.mending.specs.inner.Mending.{blank}
use Rattle.mending.specs.laws.Accepted.{placeable}
use Rattle.mending.proofs.Ends.{mend_refused, mend_finished}
use Rattle.mending.proofs.mend.Goals as goal

pub returns-in_err-fault_before : goal.returns-in_err-fault_before
returns-in_err-fault_before c =
    let e : c.from_residual.result ≡ c.fault_before.result = search rules in
    rw e (mend_refused _ _ _ _ _ c.fault_before.ensures c.in_err-fault_before.was)

pub arrange-requires : goal.arrange-requires
unfolding blank
arrange-requires c =
    let p = placeable _ (sym c.fault_before.ensures ∙ c.in_ok-fault_before.was) in
    record {
      header = p.header;
      inside = p.inside;
      unplaced = refl;
      places = length-replicate {A = ℕ} 1024 0;
    }

pub returns : goal.returns
returns c = mend_finished _ _ _ (sym c.fault_before.ensures ∙ c.in_ok-fault_before.was) c.arrange.ensures
