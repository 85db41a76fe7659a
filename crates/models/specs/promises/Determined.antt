-- The contract of `judge`, and that of a fault from a refusal, determines its result: any two results that it allows are equal.
use Rattle.std.specs.Prelude.{◌≡◌, List, ℕ}
use Rattle.std.proofs.Common.{sym, ◌∙◌}
use Rattle.problem.specs.declared.Refusal.{Refusal}
use Rattle.models.specs.declared.Fault.{Fault}
use Rattle.models.specs.declared.Judged.{Judged}
use Rattle.models.specs.Judgement.{judged}

pub judge_determined : (problem names text : List ℕ) (r s : Judged) → r ≡ judged problem names text → s ≡ judged problem names text → r ≡ s
judge_determined problem names text r s p q = p ∙ sym q

pub fault_from_determined :
    (refusal : Refusal) (r s : Fault)
    → r ≡ record { number = refusal.number; place = refusal.place }
    → s ≡ record { number = refusal.number; place = refusal.place }
    → r ≡ s
fault_from_determined refusal r s p q = p ∙ sym q
