-- The kinds that are left beside the arms of a match: each law is one computed test over the kinds from 2 on.
use mathlib.Core.Path.{◌≡◌, refl, sym}
use mathlib.Core.Logic.{◌⊎◌, inl, inr}
use mathlib.Core.List.{List, [], ◌∷◌}
use Prim.Native.Nat.{ℕ, ◌≤◌, ◌<◌}
use Rattle.operators.specs.Table.{shape_of}
use Rattle.operators.specs.laws.Table.{Without, counted}

-- the single keys of the arms, the last first
abbrev pub essential_arms : List (List ℕ)
essential_arms = (12 ∷ 17 ∷ []) ∷ (11 ∷ []) ∷ (2 ∷ 13 ∷ 16 ∷ []) ∷ []

-- the kinds of two positions: by their keys, or by what a range leaves
pub two_told : {n : ℕ} → (n ≡ 12) ⊎ (n ≡ 17) → (shape_of n).operands ≡ 2
two_told (inl e) = rw e refl
two_told (inr e) = rw e refl

pub two_left : (n : ℕ) → 2 ≤ n → n < 16 → Without essential_arms n → (shape_of n).operands ≡ 2
two_left n l u w = sym (counted 2 16 2 essential_arms tt n l u w)
