-- How a list falls into pieces, one after the other from its beginning.
use Rattle.std.specs.Prelude.{ℕ, zero, suc, ◌-◌, List, [], ◌∷◌, ◌++◌}

-- what each piece of a list says, in order: `size` is the length of the piece that a list begins with, at least 1, and `says` is
-- what that piece says. The first k elements belong to a piece that has been heard
unfoldable pub chop : {A B : Type 0} → (List A → ℕ) → (List A → List B) → ℕ → List A → List B
chop size says k [] = []
chop size says zero (x ∷ xs) = says (x ∷ xs) ++ chop size says (size (x ∷ xs) - 1) xs
chop size says (suc k) (x ∷ xs) = chop size says k xs
