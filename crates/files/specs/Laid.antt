-- A list laid into lent places: from a place on, as much of it as fits. The words of a file and the lines of an answer are
-- handed over so.
use Rattle.std.specs.Prelude.{◌≡◌, List, ℕ, ◌+◌, min, length}
use Rattle.std.proofs.lemmas.List.Edits.{sets}

-- the places with xs stored in them one by one from place i on; what would lie past the last place is dropped
unfoldable pub over : List ℕ → ℕ → List ℕ → List ℕ
over places i xs = sets places i xs

-- xs laid from place i on: what the places hold afterwards, and the next place, which is not beyond the end
pub record Laid (xs : List ℕ) (i : ℕ) (before after : List ℕ) (next : ℕ) : Type 0 where
  pub places : after ≡ over before i xs
  pub upto : next ≡ min (i + length xs) (length before)
