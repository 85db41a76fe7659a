-- What is written of a problem.
use Rattle.std.specs.Prelude.{◌≡◌, List, ◌++◌, ℕ, ◌+◌, ◌*◌, take}
use Rattle.std.proofs.lemmas.List.Edits.{sets}
use Rattle.spelling.specs.Bytes.{little_endian, all_roots}

-- the mark `TBV`, version 1 and the counts
unfoldable pub header_bytes : ℕ → ℕ → List ℕ
header_bytes nodes roots = little_endian 3 5653076 ++ little_endian 2 1 ++ little_endian 2 nodes ++ little_endian 2 roots

-- the bytes written from the start of the lent ones, and how many they are
pub record Wrote (out bytes rooted : List ℕ) (nodes roots : ℕ) (after : List ℕ) (r : ℕ) : Type 0 where
  pub written : after ≡ sets out 0 (header_bytes nodes roots ++ take (24 * nodes) bytes ++ all_roots (take roots rooted))
  pub count : r ≡ 9 + 24 * nodes + 2 * roots
