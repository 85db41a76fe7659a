-- A set of ids as the bits of words of 64: what is marked, one mark more, one less, and the lowest mark from an id on.
use Rattle.std.specs.Prelude.{◌≡◌, ℕ, ◌/◌, ◌%◌, ◌^◌, ◌<◌, ◌≤◌, ◌⊎◌, List, length, ◌≢◌, bit_or, bit_xor, slice_index, slice_set}
use Rattle.words.specs.Bits.{bit}

-- the bit of id n: of the words l, in the one numbered n div 64, at place n modulo 64
unfoldable pub mark : List ℕ → ℕ → ℕ
mark l n = bit (n % 64) (slice_index l (n / 64))

abbrev pub Marked : List ℕ → ℕ → Type 0
Marked l n = mark l n ≡ 1

-- the words with that bit set
unfoldable pub with_mark : List ℕ → ℕ → List ℕ
with_mark l n = slice_set l (n / 64) (bit_or (slice_index l (n / 64)) (2 ^ (n % 64)))

-- the words with that bit turned, which takes away a mark
unfoldable pub without_mark : List ℕ → ℕ → List ℕ
without_mark l n = slice_set l (n / 64) (bit_xor (slice_index l (n / 64)) (2 ^ (n % 64)))

-- the words after have the marks of those before, and those of A
pub record Added (A : ℕ → Type 0) (before after : List ℕ) : Type 0 where
  pub long : length after ≡ length before
  pub kept : (j : ℕ) → Marked before j → Marked after j
  pub put : (j : ℕ) → A j → Marked after j
  pub only : (j : ℕ) → Marked after j → Marked before j ⊎ A j

-- the words after have the marks of those before but that of n
pub record Removed (n : ℕ) (before after : List ℕ) : Type 0 where
  pub long : length after ≡ length before
  pub kept : (j : ℕ) → (j ≢ n) → Marked before j → Marked after j
  pub only : (j : ℕ) → Marked after j → Marked before j
  pub gone : Marked after n → ⊥

-- no id from f up to r is marked
abbrev pub Clear : List ℕ → ℕ → ℕ → Type 0
Clear l f r = (k : ℕ) → f ≤ k → k < r → Marked l k → ⊥

-- r is the lowest mark from f on, and 1,024 where there is none
pub record Lowest (l : List ℕ) (f r : ℕ) : Type 0 where
  pub after : f ≤ r
  pub most : r ≤ 1024
  pub clear : Clear l f r
  pub is : r < 1024 → Marked l r
