-- The members of a set of numbers, in order.
use Rattle.std.specs.Prelude.{List, [], ◌∷◌, ◌++◌, ℕ, suc}

-- the members of a set below n, in order
pub data Lists (A : ℕ → Type 0) : ℕ → List ℕ → Type 0 where
  done : Lists A 0 []
  keep : {n : ℕ} {l : List ℕ} → Lists A n l → A n → Lists A (suc n) (l ++ (n ∷ []))
  skip : {n : ℕ} {l : List ℕ} → Lists A n l → (A n → ⊥) → Lists A (suc n) l
