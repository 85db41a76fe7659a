-- What a search in a set of numbers finds, and the pick with a proposal (document 01, "Picking"), for any set A.
use Rattle.std.specs.Prelude.{ℕ, ◌≤◌, Option, Some, None}

-- v is in A and not below p, and nothing of A from p on is less
pub record Least (A : ℕ → Type 0) (p v : ℕ) : Type 0 where
  pub member : A v
  pub from : p ≤ v
  pub least : (u : ℕ) → A u → p ≤ u → v ≤ u

-- A has no member from p on
abbrev pub NoneFrom : (ℕ → Type 0) → ℕ → Type 0
NoneFrom A p = (u : ℕ) → A u → p ≤ u → ⊥

-- A has no member
abbrev pub Empty : (ℕ → Type 0) → Type 0
Empty A = (u : ℕ) → A u → ⊥

-- the least member of A from p on, or that there is none
abbrev pub FirstFrom : (ℕ → Type 0) → ℕ → Option ℕ → Type 0
FirstFrom A p (Some v) = Least A p v
FirstFrom A p None = NoneFrom A p

-- "From a set and a proposal p the pick is the least member at or above p, else the least member"
pub data Pick (A : ℕ → Type 0) (p v : ℕ) : Type 0 where
  above : Least A p v → Pick A p v
  around : NoneFrom A p → Least A 0 v → Pick A p v

-- "an empty set has no pick"
abbrev pub Picked : (ℕ → Type 0) → ℕ → Option ℕ → Type 0
Picked A p (Some v) = Pick A p v
Picked A p None = Empty A

-- ---- the members of an interval: from the greater of its start and the proposal on, and up to its end

pub record Between (A : ℕ → Type 0) (start end v : ℕ) : Type 0 where
  pub inside : A v
  pub after : start ≤ v
  pub upto : v ≤ end
