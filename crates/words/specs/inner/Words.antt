-- What the functions on words answer, as numbers. All at any width.
use Rattle.std.specs.Prelude.{◌≡◌, ℕ, suc, ◌+◌, ◌-◌, ◌*◌, ◌/◌, ◌%◌, ◌^◌, ◌<◌, ◌≤◌, min, bit_and, Option, None, Some}

-- the bits of a that are not in b
unfoldable pub less : ℕ → ℕ → ℕ
less a b = a - bit_and a b

-- a's bits from n on, and c below
unfoldable pub over : ℕ → ℕ → ℕ → ℕ
over n a c = a / 2 ^ n * 2 ^ n + c

-- ---- the lesser of two answers

abbrev pub lesser : Option ℕ → Option ℕ → Option ℕ
lesser None b = b
lesser (Some a) None = Some a
lesser (Some a) (Some b) = Some (min a b)

-- ---- inverses

-- x is an inverse of a to w bits
pub record Inverse (w a x : ℕ) : Type 0 where
  pub one : a * x % 2 ^ w ≡ 1 % 2 ^ w

-- x is the inverse of a among the words of w bits: there is only one
pub record WordInverse (w a x : ℕ) : Type 0 where
  pub inverse : Inverse w a x
  pub fits : x < 2 ^ w

-- ---- the lowest set bit

-- n is not 0 and has at most d bits: t of them, counted from the lowest, are clear, and the next is set
pub record Tail (d n t : ℕ) : Type 0 where
  pub short : t < d
  pub clear : n % 2 ^ t ≡ 0
  pub set : n / 2 ^ t % 2 ≡ 1

-- ---- the highest set bit

-- j is the highest set bit of n, which has at most d bits
pub record Top (d n j : ℕ) : Type 0 where
  pub short : j < d
  pub from : 2 ^ j ≤ n
  pub below : n < 2 ^ suc j

-- p's part from place i on, one higher, and lo's bits below
unfoldable pub raised : ℕ → ℕ → ℕ → ℕ
raised lo p i = (p / 2 ^ i + 1) * 2 ^ i + lo % 2 ^ i
