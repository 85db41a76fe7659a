-- What the tests of essential positions ask.
use Rattle.std.specs.Prelude.{◌≡◌, ◌⊎◌, ℕ}

-- the kinds of one position: not, extract, sign extension
abbrev pub Alone : ℕ → Type 0
Alone n = (n ≡ 2) ⊎ ((n ≡ 13) ⊎ (n ≡ 16))
