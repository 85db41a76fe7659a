-- What the functions that write promise.
use Rattle.std.specs.Prelude.{List, ℕ}
use Rattle.std.proofs.lemmas.List.Edits.{sets}

-- lent places with xs stored in them one by one from place i on
unfoldable pub laid : List ℕ → ℕ → List ℕ → List ℕ
laid places i xs = sets places i xs
