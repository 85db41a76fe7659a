-- What the readers of a problem and of values find: a node's line.
use mathlib.Core.Path.{◌≡◌}
use mathlib.Core.List.{List, []}
use Prim.Native.Nat.{ℕ}
use borrow.Author.Tests.{eq-eqb, ne_eqb}
use lib.ListN.{get_or}
use Rattle.problem.specs.Layout.{node_at}
use Rattle.files.specs.Text.{variable_line, node_line}

-- a variable's line is that of its value, and another node has none; k and v are what was read as kind and value
pub line_of :
    (s vs : List ℕ) (i k v : ℕ) → k ≡ (node_at s i).kind → k ≡ 0 → v ≡ get_or vs i 0 → node_line s vs i ≡ variable_line i v
unfolding node_line
line_of s vs i k v e z f = rw (← e, eq-eqb k 0 z, ← f)

pub no_line : (s vs : List ℕ) (i k : ℕ) → k ≡ (node_at s i).kind → (k ≡ 0 → ⊥) → node_line s vs i ≡ []
unfolding node_line
no_line s vs i k e z = rw (← e, ne_eqb k 0 z)
