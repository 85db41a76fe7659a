-- What the C interface takes as a node of an accepted problem. promises/Had proves that it is exactly what accepted problems have.
use Rattle.std.specs.Prelude.{◌≡◌, Bool, true, false, ℕ, ◌^◌, ◌≤◌, ◌<◌, ltb}
use Rattle.operators.specs.Table.{kind_count, shape_of}
use Rattle.picking.specs.declared.spot.Spot.{Spot}
use Rattle.picking.specs.Spot.{at, positions, Slot, Asked}
use Rattle.nodes.specs.Problem.{one_of}

-- a position that the kind does not have holds nothing
pub record Empty (w lo hi v : ℕ) : Type 0 where
  pub no_width : w ≡ 0
  pub no_lo : lo ≡ 0
  pub no_hi : hi ≡ 0
  pub no_value : v ≡ 0

-- what picking may be asked, of a spot where nothing stands that its kind does not use: low is 0 but for an extract
pub record Offered (S : Spot) (i t : ℕ) : Type 0 where
  pub asked : Asked S i t
  pub unused : (j : ℕ) → positions S ≤ j → j < 3 → Empty (at S.widths j) (at S.los j) (at S.his j) (at S.current j)
  pub low_unused : (shape_of S.kind).fields ≤ positions S → S.low ≡ 0

-- a spot as the C interface tells it: low is the lowest bit of an extract, and 0 for the other kinds
abbrev pub plain : Spot → Spot
plain S =
    record {
      kind = S.kind;
      width = S.width;
      low = one_of (ltb (positions S) (shape_of S.kind).fields) S.low 0;
      widths = S.widths;
      los = S.los;
      his = S.his;
      current = S.current;
    }

-- ---- what the tests inside decide

-- x has at most w bits, w from 1 to 64
pub record Short (x w : ℕ) : Type 0 where
  pub some : 1 ≤ w
  pub wide : w ≤ 64
  pub short : x < 2 ^ w

-- a position that is there, or is not
abbrev pub Placed : Bool → ℕ → ℕ → ℕ → ℕ → Type 0
Placed true w lo hi v = Slot w lo hi v
Placed false w lo hi v = Empty w lo hi v

-- the first n of the three positions are operands, the others hold nothing
pub record Slots (S : Spot) (n : ℕ) : Type 0 where
  pub used : (j : ℕ) → j < n → Slot (at S.widths j) (at S.los j) (at S.his j) (at S.current j)
  pub unused : (j : ℕ) → n ≤ j → j < 3 → Empty (at S.widths j) (at S.los j) (at S.his j) (at S.current j)

-- the numbers that stand outside the positions, each by itself
pub record Headed (S : Spot) : Type 0 where
  pub kind_from : 2 ≤ S.kind
  pub kind_below : S.kind < kind_count
  pub some : 1 ≤ S.width
  pub wide : S.width ≤ 64
  pub low_field : S.low < 65536
