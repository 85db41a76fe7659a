-- The contract of `mend` determines its answer and both outputs: any two that it allows are equal.
use Rattle.std.specs.Prelude.{◌≡◌, refl, List, ℕ}
use Rattle.std.proofs.Common.{sym, ◌∙◌}
use Rattle.problem.specs.laws.First.{refused_not}
use Rattle.mending.specs.Refusals.{Mends}
use Rattle.problem.specs.Refusals.{Checked}

pub mend_determined :
    (s out map : List ℕ) {out₁ out₂ map₁ map₂ : List ℕ} {r₁ r₂ : Checked}
    → Mends s out map out₁ map₁ r₁
    → Mends s out map out₂ map₂ r₂
    → (out₁ ≡ out₂) × (map₁ ≡ map₂) × (r₁ ≡ r₂)
mend_determined s out map (Mends.refuses r e) (Mends.refuses q f) = (refl, refl, sym e ∙ f)
mend_determined s out map (Mends.refuses r e) (Mends.mends f) = absurd (refused_not (sym e ∙ f))
mend_determined s out map (Mends.mends e) (Mends.refuses q f) = absurd (refused_not (sym f ∙ e))
mend_determined s out map (Mends.mends e) (Mends.mends f) = (refl, refl, refl)
