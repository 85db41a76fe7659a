-- What the picks of the C interface answer, as numbers.
use Rattle.std.specs.Prelude.{◌≡◌, List, ℕ, zero, suc, ◌+◌, ◌%◌, ◌^◌, ◌<◌, length, get_or, set, None, Some}
use Rattle.words.specs.Pick.{Picked}
use Rattle.picking.specs.declared.spot.Three.{Three}
use Rattle.picking.specs.declared.spot.Spot.{Spot}
use Rattle.picking.specs.Spot.{at, Inverse, Consistent, Essential}
use Rattle.walumpeh.specs.Offered.{Offered}

-- three words from place k on
abbrev pub three_from : List ℕ → ℕ → Three
three_from xs k = record { a = get_or xs k 0; b = get_or xs (k + 1) 0; c = get_or xs (k + 2) 0 }

-- a node from twelve words: the widths, los, his and current values of its positions
abbrev pub spot_from : ℕ → ℕ → ℕ → List ℕ → Spot
spot_from kind width low xs =
    record {
      kind = kind;
      width = width;
      low = low;
      widths = three_from xs 0;
      los = three_from xs 3;
      his = three_from xs 6;
      current = three_from xs 9;
    }

-- the set that is asked for: 0 is the inverse set, any other number the consistent one
abbrev pub SetOf : ℕ → Spot → ℕ → ℕ → ℕ → Type 0
SetOf zero S t i v = Inverse S t i v
SetOf (suc n) S t i v = Consistent S t i v

-- 1 essential, 0 not, 2 refused
pub data EssentialCode (S : Spot) (i t : ℕ) : ℕ → Type 0 where
  refused : (Offered S i t → ⊥) → EssentialCode S i t 2
  essential : Offered S i t → Essential S t i → EssentialCode S i t 1
  not_essential : Offered S i t → (Essential S t i → ⊥) → EssentialCode S i t 0

-- 1 with the pick stored, 0 from an empty set, 2 refused: `out` before and afterwards
pub data PickCode (S : Spot) (i t p which : ℕ) (out : List ℕ) : List ℕ → ℕ → Type 0 where
  no_place : length out ≡ 0 → PickCode S i t p which out out 2
  refused : 0 < length out → (Offered S i t → ⊥) → PickCode S i t p which out out 2
  nothing : 0 < length out → Offered S i t → Picked (SetOf which S t i) (p % 2 ^ at S.widths i) None → PickCode S i t p which out out 0
  found : {v : ℕ} → 0 < length out → Offered S i t → Picked (SetOf which S t i) (p % 2 ^ at S.widths i) (Some v) → PickCode S i t p which out (set out 0 v) 1
