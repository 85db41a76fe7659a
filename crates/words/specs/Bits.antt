-- The bits of a number by their places.
use Rattle.std.specs.Prelude.{ℕ, ◌/◌, ◌%◌, ◌^◌}

-- the bit of v at place i
unfoldable pub bit : ℕ → ℕ → ℕ
bit i v = v / 2 ^ i % 2
