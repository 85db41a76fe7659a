-- The contract of each public function determines its result: any two results that it allows are equal.
use Rattle.std.specs.Prelude.{◌≡◌, Bool, ℕ}
use Rattle.std.proofs.Common.{sym, ◌∙◌}
use Rattle.words.specs.inner.Decides.{Decides}
use Rattle.words.specs.laws.Decides.{decides_unique}
use Rattle.picking.specs.declared.spot.Spot.{Spot}
use Rattle.picking.specs.Spot.{positions, Essential}
use Rattle.essentials.specs.inner.Marks.{Marks, mark}
use Rattle.essentials.specs.laws.Marks.{marks_unique}

pub essential_determined : (S : Spot) (i t : ℕ) (r s : Bool) → Decides (Essential S t i) r → Decides (Essential S t i) s → r ≡ s
essential_determined S i t = decides_unique (Essential S t i)

pub essential_positions_determined : (S : Spot) (t r s : ℕ) → Marks (Essential S t) (positions S) r → Marks (Essential S t) (positions S) s → r ≡ s
essential_positions_determined S t r s g h = marks_unique g h

pub marks_determined : (a b c : Bool) (r s : ℕ) → r ≡ mark a b c → s ≡ mark a b c → r ≡ s
marks_determined a b c r s e f = e ∙ sym f
