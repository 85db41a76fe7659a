-- What a test answers: true exactly where the fact that it tests holds.
use Rattle.std.specs.Prelude.{Bool, true, false}

abbrev pub Decides : Type 0 → Bool → Type 0
Decides A true = A
Decides A false = A → ⊥
