-- Laws of fair spots: what is known of one whose kind is known.
use Rattle.std.specs.Prelude.{◌≡◌, ℕ, ◌^◌, ◌<◌}
use Rattle.std.proofs.Common.{ap}
use Rattle.words.specs.laws.Agree.{agrees_lt}
use Rattle.operators.specs.Table.{shape_of, RuleMet}
use Rattle.picking.specs.declared.spot.Spot.{Spot}
use Rattle.picking.specs.Spot.{at, positions, Slot, Fair, Asked}

pub slot_lt : {w lo hi v : ℕ} → Slot w lo hi v → v < 2 ^ w
slot_lt {w} s = agrees_lt w s.under s.agrees

module _ {S : Spot} {m : ℕ} (F : Fair S) (key : S.kind ≡ m) where
  pub rule_at : RuleMet (shape_of m).rule S.width S.widths.a S.widths.b S.widths.c S.low
  rule_at = rw key at F.rule

  pub count_at : positions S ≡ (shape_of m).operands
  count_at = ap (λ (n : ℕ). (shape_of n).operands) key

  pub slot_at : (j : ℕ) → j < (shape_of m).operands → Slot (at S.widths j) (at S.los j) (at S.his j) (at S.current j)
  slot_at j h = F.slots j (rw count_at h)

module _ {S : Spot} {i t m : ℕ} (A : Asked S i t) (key : S.kind ≡ m) where
  pub place : i < (shape_of m).operands
  place = rw (count_at A.fair key) at A.position
