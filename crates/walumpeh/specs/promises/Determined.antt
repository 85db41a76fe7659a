-- The contract of each call determines its number and every lent place: any two that it allows are equal.
use Rattle.std.specs.Prelude.{◌≡◌, refl, List, ℕ, ◌%◌, ◌^◌, set, Some, None, Option}
use Rattle.std.proofs.Common.{sym, ap, ◌∙◌, arith}
use Rattle.words.specs.Pick.{Picked}
use Rattle.words.specs.laws.Pick.{picked_unique}
use Rattle.problem.specs.Refusals.{checked}
use Rattle.picking.specs.declared.spot.Spot.{Spot}
use Rattle.picking.specs.Spot.{at}
use Rattle.walumpeh.specs.Codes.{checked_code}
use Rattle.walumpeh.specs.Calls.{SetOf, EssentialCode, EssentialCode.refused, EssentialCode.essential, EssentialCode.not_essential, PickCode, PickCode.no_place, PickCode.refused, PickCode.nothing, PickCode.found}

pub wal_check_determined : (b : List ℕ) (r s : ℕ) → r ≡ checked_code (checked b) → s ≡ checked_code (checked b) → r ≡ s
wal_check_determined b r s p q = p ∙ sym q

pub wal_essential_determined : (S : Spot) (i t : ℕ) {r s : ℕ} → EssentialCode S i t r → EssentialCode S i t s → r ≡ s
wal_essential_determined S i t (refused x) (refused x') = refl
wal_essential_determined S i t (refused x) (essential o' e') = absurd (x o')
wal_essential_determined S i t (refused x) (not_essential o' e') = absurd (x o')
wal_essential_determined S i t (essential o e) (refused x') = absurd (x' o)
wal_essential_determined S i t (essential o e) (essential o' e') = refl
wal_essential_determined S i t (essential o e) (not_essential o' e') = absurd (e' e)
wal_essential_determined S i t (not_essential o e) (refused x') = absurd (x' o)
wal_essential_determined S i t (not_essential o e) (essential o' e') = absurd (e e')
wal_essential_determined S i t (not_essential o e) (not_essential o' e') = refl

-- a found value and none, of one set
never : {v : ℕ} {A : Type 0} → Some v ≡ None → A
never e = absurd (let z : ◌≡◌ {A = ℕ} 0 1 = cc in omega arith)

module _ (S : Spot) (i t p which : ℕ) (out : List ℕ) where
  one_pick : {f g : Option ℕ} → Picked (SetOf which S t i) (p % 2 ^ at S.widths i) f → Picked (SetOf which S t i) (p % 2 ^ at S.widths i) g → f ≡ g
  one_pick {f} {g} a b = picked_unique (SetOf which S t i) (p % 2 ^ at S.widths i) f g a b

  same_value : {v u : ℕ} → Some v ≡ Some u → v ≡ u
  same_value e = cc

  pub wal_pick_determined : {o o' : List ℕ} {r s : ℕ} → PickCode S i t p which out o r → PickCode S i t p which out o' s → (o ≡ o') × (r ≡ s)
  wal_pick_determined (no_place n) (no_place n') = (refl, refl)
  wal_pick_determined (no_place n) (refused h' x') = (refl, refl)
  wal_pick_determined (no_place n) (nothing h' o' d') = absurd (omega arith)
  wal_pick_determined (no_place n) (found h' o' d') = absurd (omega arith)
  wal_pick_determined (refused h x) (no_place n') = (refl, refl)
  wal_pick_determined (refused h x) (refused h' x') = (refl, refl)
  wal_pick_determined (refused h x) (nothing h' o' d') = absurd (x o')
  wal_pick_determined (refused h x) (found h' o' d') = absurd (x o')
  wal_pick_determined (nothing h o d) (no_place n') = absurd (omega arith)
  wal_pick_determined (nothing h o d) (refused h' x') = absurd (x' o)
  wal_pick_determined (nothing h o d) (nothing h' o' d') = (refl, refl)
  wal_pick_determined (nothing h o d) (found {v} h' o' d') = never {v = v} (one_pick {f = Some v} {g = None} d' d)
  wal_pick_determined (found h o d) (no_place n') = absurd (omega arith)
  wal_pick_determined (found h o d) (refused h' x') = absurd (x' o)
  wal_pick_determined (found {v} h o d) (nothing h' o' d') = never {v = v} (one_pick {f = Some v} {g = None} d d')
  wal_pick_determined (found {v} h o d) (found {v = u} h' o' d') = (ap (set out 0) (same_value {v = v} {u = u} (one_pick {f = Some v} {g = Some u} d d')), refl)
