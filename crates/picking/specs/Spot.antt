-- Document 01, "Picking": a node taken out of a problem, and the sets of values of its positions. Each set is one
-- definition over every kind; positions are independent even where one node fills two of them.
use Rattle.std.specs.Prelude.{◌≡◌, ℕ, zero, suc, ◌^◌, ◌<◌, ◌≤◌, Bool, true, ◌⊎◌, [], ◌∷◌}
use mir.Val.{has_key}
use Rattle.words.specs.Agree.{Agrees, Within}
use Rattle.operators.specs.Table.{kind_of, kind_count, shape_of, RuleMet}
use Rattle.operators.specs.Meaning.{meaning}
use Rattle.picking.specs.declared.spot.Three.{Three}
use Rattle.picking.specs.declared.spot.Spot.{Spot}

-- what stands at a position: a, b, c are 0, 1, 2
abbrev pub at : Three → ℕ → ℕ
at x zero = x.a
at x (suc zero) = x.b
at x (suc (suc i)) = x.c

-- x with v at position i
abbrev pub put : Three → ℕ → ℕ → Three
put x zero v = record { a = v; b = x.b; c = x.c }
put x (suc zero) v = record { a = x.a; b = v; c = x.c }
put x (suc (suc i)) v = record { a = x.a; b = x.b; c = v }

-- how many positions the node has
abbrev pub positions : Spot → ℕ
positions S = (shape_of S.kind).operands

-- j is another position of the node than i
pub record Other (S : Spot) (i j : ℕ) : Type 0 where
  pub below : j < positions S
  pub apart : j ≡ i → ⊥

-- the node's value where its positions hold x
abbrev pub value : Spot → Three → ℕ
value S x = meaning (kind_of S.kind) S.width S.widths.a S.widths.b S.low x.a x.b x.c

-- inverse set: "values that agree with the operand's pair and give t with the other positions at their current values"
pub record Inverse (S : Spot) (t i v : ℕ) : Type 0 where
  pub agrees : Agrees (at S.los i) (at S.his i) v
  pub gives : value S (put S.current i v) ≡ t

-- 02, R-4: "For and, xor, eq, both below kinds, if and concat, the consistent set now admits only other values that agree with
-- their own pairs. The remaining kinds stay." Whether a kind, by its number, is one of these
abbrev pub held_to_pairs : ℕ → Bool
held_to_pairs = has_key (3 ∷ 4 ∷ 9 ∷ 10 ∷ 14 ∷ 11 ∷ 12 ∷ [])

-- the consistent set admits v at another position j: it has the width, and agrees with the pair where the kind asks for that
pub record Admitted (S : Spot) (j v : ℕ) : Type 0 where
  pub fits : v < 2 ^ at S.widths j
  pub agrees : held_to_pairs S.kind ≡ true → Agrees (at S.los j) (at S.his j) v

-- v at position i gives t with some values of the other positions, any that are admitted
pub record Reaches (S : Spot) (t i v : ℕ) : Type 0 where
  pub others : Three
  pub admitted : (j : ℕ) → Other S i j → Admitted S j (at others j)
  pub gives : value S (put others i v) ≡ t

-- consistent set: "values that agree with the operand's pair and give t with some values of the other positions, any at all", as R-4 has it
pub record Consistent (S : Spot) (t i v : ℕ) : Type 0 where
  pub agrees : Agrees (at S.los i) (at S.his i) v
  pub reaches : Reaches S t i v

-- essential: "no values of the other positions, each agreeing with its pair, give t while this one keeps its current value"
unfoldable pub Essential : Spot → ℕ → ℕ → Type 0
Essential S t i =
    (o : Three)
    → ((j : ℕ) → Other S i j → Agrees (at S.los j) (at S.his j) (at o j))
    → value S (put o i (at S.current i)) ≡ t
    → ⊥

unfoldable pub NoneEssential : Spot → ℕ → Type 0
NoneEssential S t = (j : ℕ) → j < positions S → Essential S t j → ⊥

-- "Candidates are the essential positions if there are any, else all; then those whose operand is fully fixed are dropped."
pub record Candidate (S : Spot) (t i : ℕ) : Type 0 where
  pub wanted : Essential S t i ⊎ NoneEssential S t
  pub open_bits : at S.los i ≡ at S.his i → ⊥

-- ---- what an accepted problem and agreeing values give

-- one position: its pair is a pair of its width, and its current value agrees
pub record Slot (w lo hi v : ℕ) : Type 0 where
  pub some : 1 ≤ w
  pub wide : w ≤ 64
  pub ordered : Within lo hi
  pub under : hi < 2 ^ w
  pub agrees : Agrees lo hi v

pub record Fair (S : Spot) : Type 0 where
  pub kind_from : 2 ≤ S.kind
  pub kind_below : S.kind < kind_count
  pub some : 1 ≤ S.width
  pub wide : S.width ≤ 64
  pub rule : RuleMet (shape_of S.kind).rule S.width S.widths.a S.widths.b S.widths.c S.low
  pub slots : (j : ℕ) → j < positions S → Slot (at S.widths j) (at S.los j) (at S.his j) (at S.current j)

-- what is asked of a pick: a fair spot, one of its positions, and a target of its width
pub record Asked (S : Spot) (i t : ℕ) : Type 0 where
  pub fair : Fair S
  pub position : i < positions S
  pub target : t < 2 ^ S.width
