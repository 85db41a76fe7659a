-- "The BTOR2 converter writes a root once, at its first constraint": the roots of a conversion are pairwise different.
use Rattle.std.specs.Prelude.{◌≡◌, List, ℕ, ◌<◌, length, get_or}
use Rattle.btor2.specs.Conversion.{State, converted, outcome}
use Rattle.btor2.specs.laws.Reached.{outcome_reached}
use Rattle.btor2.specs.laws.Fine.{distinct_apart, reached_fine}

pub roots_differ : (room : ℕ) (text : List ℕ) (σ : State) → outcome room text ≡ converted σ → (i j : ℕ) → i < j → j < length σ.roots
    → get_or σ.roots i 0 ≡ get_or σ.roots j 0 → ⊥
roots_differ room text σ o = distinct_apart σ.roots (reached_fine (outcome_reached room text σ o)).distinct
