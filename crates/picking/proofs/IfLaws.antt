-- What the consistent set of `if` comes to at a spot.
use Rattle.std.proofs.Common.{◌≡◌, ℕ, zero, suc, ◌<◌, refl, arith}
use Rattle.picking.specs.declared.spot.Spot.{Spot}
use Rattle.boxes.specs.declared.Set.{Set}
use Rattle.picking.specs.Spot.{at, Reaches, Asked}
use Rattle.boxes.specs.inner.Boxes.{Solves}
use Rattle.picking.specs.inner.Asks.{branch_of, HadIf}
use Rattle.boxes.specs.laws.Solves.{solves_by}
use Rattle.picking.specs.laws.Fair.{place}
use Rattle.picking.specs.laws.If.{branch_low, branch_few, condition_to, condition_back, branch_to, branch_back}
use Rattle.picking.proofs.SpotLaws.{wide_at}

-- what an arm's set comes to
pub if_reach : {S : Spot} {i t : ℕ} {r : Set} → Asked S i t → S.kind ≡ 11 → Solves 64 (λ v. HadIf S.los S.his t i v) r → Solves (at S.widths i) (λ v. Reaches S t i v) r
if_reach {S} {i} {t} A key s = solves_by (wide_at A) s (λ v l m. to i v (place A key) m) (λ v l m. back i v (place A key) m)
  where
    to : (i v : ℕ) → i < 3 → HadIf S.los S.his t i v → Reaches S t i v
    to zero v h = condition_to S t A.fair key v (branch_of v) refl (branch_low v) (branch_few v)
    to (suc zero) v h = branch_to S t A.fair key 1 (omega arith) h v
    to (suc (suc zero)) v h = branch_to S t A.fair key 2 (omega arith) h v
    to (suc (suc (suc i))) v h = absurd (omega arith)

    back : (i v : ℕ) → i < 3 → Reaches S t i v → HadIf S.los S.his t i v
    back zero v h = condition_back S t A.fair key v (branch_of v) refl (branch_low v) (branch_few v)
    back (suc zero) v h = branch_back S t A.fair key 1 (omega arith) h v
    back (suc (suc zero)) v h = branch_back S t A.fair key 2 (omega arith) h v
    back (suc (suc (suc i))) v h = absurd (omega arith)
