-- What the operators' sets ask and how their equations speak of two positions.
use Rattle.std.specs.Prelude.{◌≡◌, ℕ, zero, suc, ◌+◌, ◌-◌, ◌/◌, ◌%◌, ◌^◌, ◌<◌, ◌≤◌, ◌⊎◌, ◌≢◌}
use Rattle.words.specs.Agree.{Agrees}
use Rattle.picking.specs.declared.spot.Three.{Three}
use Rattle.picking.specs.declared.spot.Spot.{Spot}
use Rattle.picking.specs.declared.picks.Values.{Values}
use Rattle.picking.specs.declared.picks.Values.TheVariants.{Inverse as InverseOnes, Consistent as ConsistentOnes}
use Rattle.picking.specs.Spot.{at, put, value, Inverse, Reaches, Consistent}

-- a target of a width of at most 64 bits
pub record Sized (w t : ℕ) : Type 0 where
  pub wide : w ≤ 64
  pub fits : t < 2 ^ w

-- a word of a width of 1 to 64 bits
pub record Word (w x : ℕ) : Type 0 where
  pub some : 1 ≤ w
  pub wide : w ≤ 64
  pub fits : x < 2 ^ w

-- u is t, or where the sign of t is set its complement: the sign of u is clear
pub record Folded (w t u : ℕ) : Type 0 where
  pub small : u < 2 ^ (w - 1)
  pub other : (u ≢ t) → u ≡ (2 ^ w - 1) - t

-- a target of a width of 1 to 16 bits
pub record Short (w t : ℕ) : Type 0 where
  pub some : 1 ≤ w
  pub short : w ≤ 16
  pub fits : t < 2 ^ w

-- v at position i of two, s at the other
abbrev pub joint : ℕ → ℕ → ℕ → Three
joint zero v s = record { a = v; b = s; c = 0 }
joint (suc i) v s = record { a = s; b = v; c = 0 }

-- the branch that `if` takes, as a position
abbrev pub branch_of : ℕ → ℕ
branch_of zero = 2
branch_of (suc x) = 1

-- of two widths that of position i
abbrev pub side_of : ℕ → ℕ → ℕ → ℕ
side_of zero a b = a
side_of (suc i) a b = b

-- what position i of a concat is whose value is t, where b has k bits
abbrev pub part_of : ℕ → ℕ → ℕ → ℕ
part_of zero k t = t / 2 ^ k
part_of (suc i) k t = t % 2 ^ k

-- a position of a concat of widths a and b with the value t
pub record Joined (i a b t : ℕ) : Type 0 where
  pub position : i < 2
  pub some : 1 ≤ a
  pub wide : a + b ≤ 64
  pub fits : t < 2 ^ (a + b)

-- t is had from an `if` of which one branch has the value kept and is taken where the condition is way: the condition's
-- pair is lo, hi, and the other branch's l, h
abbrev pub Had : ℕ → ℕ → ℕ → ℕ → ℕ → ℕ → ℕ → Type 0
Had lo hi way kept l h t = (Agrees lo hi way × (kept ≡ t)) ⊎ (Agrees lo hi (1 - way) × Agrees l h t)

-- t is had from an `if` whose position i has the value v, with values of the others that agree with the pairs los, his
abbrev pub HadIf : Three → Three → ℕ → ℕ → ℕ → Type 0
HadIf los his t zero v = Agrees (at los (branch_of v)) (at his (branch_of v)) t
HadIf los his t (suc i) v = Had los.a his.a (1 - i) v (at los (2 - i)) (at his (2 - i)) t

-- what is asked of a value at position i besides that it agrees: that it gives t with the others as they are, or with some
abbrev pub Meets : Values → Spot → ℕ → ℕ → ℕ → Type 0
Meets InverseOnes S t i v = value S (put S.current i v) ≡ t
Meets ConsistentOnes S t i v = Reaches S t i v

-- the inverse or the consistent set
abbrev pub Wanted : Values → Spot → ℕ → ℕ → ℕ → Type 0
Wanted InverseOnes = Inverse
Wanted ConsistentOnes = Consistent
