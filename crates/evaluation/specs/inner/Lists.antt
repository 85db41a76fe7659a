-- The members of a set: how many there are, and those from a number on.
use Rattle.std.specs.Prelude.{◌≡◌, List, [], ◌∷◌, ℕ, suc, length}
use Rattle.evaluation.specs.Lists.{Lists}

-- a set has r members below n
pub record Count (A : ℕ → Type 0) (n r : ℕ) : Type 0 where
  pub list : List ℕ
  pub lists : Lists A n list
  pub is : length list ≡ r

-- the members from a number up to n, in order
pub data ListsFrom (A : ℕ → Type 0) (n : ℕ) : ℕ → List ℕ → Type 0 where
  none : ListsFrom A n n []
  keep : {k : ℕ} {l : List ℕ} → A k → ListsFrom A n (suc k) l → ListsFrom A n k (k ∷ l)
  skip : {k : ℕ} {l : List ℕ} → (A k → ⊥) → ListsFrom A n (suc k) l → ListsFrom A n k l
