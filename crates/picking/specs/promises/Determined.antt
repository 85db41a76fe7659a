-- The contract of each public function determines its result: any two results that it allows are equal.
use Rattle.std.specs.Prelude.{◌≡◌, ℕ, ◌%◌, ◌^◌, Option}
use Rattle.std.proofs.Common.{sym, ◌∙◌}
use Rattle.words.specs.Pick.{Picked}
use Rattle.words.specs.laws.Pick.{picked_unique}
use Rattle.picking.specs.declared.spot.Three.{Three}
use Rattle.picking.specs.declared.spot.Spot.{Spot}
use Rattle.picking.specs.Spot.{at, Inverse, Consistent}
use Rattle.picking.specs.inner.Asks.{branch_of}

pub pick_inverse_determined : (S : Spot) (i t p : ℕ) (r s : Option ℕ) → Picked (Inverse S t i) (p % 2 ^ at S.widths i) r → Picked (Inverse S t i) (p % 2 ^ at S.widths i) s → r ≡ s
pick_inverse_determined S i t p = picked_unique (Inverse S t i) (p % 2 ^ at S.widths i)

pub pick_consistent_determined : (S : Spot) (i t p : ℕ) (r s : Option ℕ) → Picked (Consistent S t i) (p % 2 ^ at S.widths i) r → Picked (Consistent S t i) (p % 2 ^ at S.widths i) s → r ≡ s
pick_consistent_determined S i t p = picked_unique (Consistent S t i) (p % 2 ^ at S.widths i)

pub some_inverse_determined : (S : Spot) (i t : ℕ) (r s : Option ℕ) → Picked (Inverse S t i) 0 r → Picked (Inverse S t i) 0 s → r ≡ s
some_inverse_determined S i t = picked_unique (Inverse S t i) 0

pub at_determined : (x : Three) (i r s : ℕ) → r ≡ at x i → s ≡ at x i → r ≡ s
at_determined x i r s e f = e ∙ sym f

pub branch_determined : (x r s : ℕ) → r ≡ branch_of x → s ≡ branch_of x → r ≡ s
branch_determined x r s e f = e ∙ sym f
