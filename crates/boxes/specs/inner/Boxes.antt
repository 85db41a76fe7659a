-- Sets of words as unions of boxes: what is in one, and when one holds the solutions of an equation.
use Rattle.std.specs.Prelude.{◌≡◌, true, ℕ, zero, suc, ◌+◌, ◌-◌, ◌*◌, ◌/◌, ◌%◌, ◌^◌, ◌≤◌, ◌<◌}
use Rattle.std.specs.Int.Bits.{bit_and, bit_or}
use Rattle.words.specs.Agree.{Agrees}
use Rattle.words.specs.inner.Words.{over}
use Rattle.words.specs.Pick.{Between}
use Rattle.boxes.specs.declared.Box.{Box}
use Rattle.boxes.specs.declared.Set.{Set}
use Rattle.boxes.specs.declared.Set.TheVariants.{Empty, Only, One, Many}
use Rattle.boxes.specs.declared.unions.Row.{Row}
use Rattle.boxes.specs.declared.unions.Row.TheVariants.{Left, Right, Mirrored, Ends}
use Rattle.boxes.specs.declared.unions.Union.{Union}
use Rattle.boxes.specs.declared.unions.Union.TheVariants.{Except, Low, Dividends, Several}

-- v lies in the box: it agrees with its ternary word and lies in its interval
abbrev pub In : Box → ℕ → Type 0
In b v = Between (Agrees b.lo b.hi) b.least b.most v

-- the values from a to b
abbrev pub span : ℕ → ℕ → Box
span a b = record { lo = 0; hi = 2 ^ 64 - 1; least = a; most = b }

-- the values that agree with l, h
abbrev pub word : ℕ → ℕ → Box
word l h = record { lo = l; hi = h; least = 0; most = 2 ^ 64 - 1 }

-- the values whose n low bits are c
abbrev pub low_are : ℕ → ℕ → Box
low_are n c = word c (over n (2 ^ 64 - 1) c)

-- the values of the box that agree with lo, hi
abbrev pub met : Box → ℕ → ℕ → Box
met b l h = record { lo = bit_or l b.lo; hi = bit_and h b.hi; least = b.least; most = b.most }

-- the complements, of w bits, of the values of a box
abbrev pub mirrored : ℕ → Box → Box
mirrored w b = record {
  lo = (2 ^ w - 1) - b.hi % 2 ^ w;
  hi = (2 ^ w - 1) - b.lo;
  least = (2 ^ w - 1) - b.most;
  most = (2 ^ w - 1) - b.least;
}

-- a box whose bounds are words of w bits
pub record Bounded (w : ℕ) (b : Box) : Type 0 where
  pub low : b.lo < 2 ^ w
  pub from : b.least < 2 ^ w
  pub upto : b.most < 2 ^ w

-- what a shift to the right by j takes to t
abbrev pub shifted_to : ℕ → ℕ → Box
shifted_to t j = span (t * 2 ^ j) (t * 2 ^ j + (2 ^ j - 1))

-- up to a, and from b on
abbrev pub end_at : ℕ → ℕ → ℕ → Box
end_at a b zero = span 0 a
end_at a b (suc j) = span b (2 ^ 64 - 1)

-- the box at place j of a row
abbrev pub box_of : Row → ℕ → Box
box_of (Left t w) j = low_are (w - j) (t / 2 ^ j)
box_of (Right t) j = shifted_to t j
box_of (Mirrored u w) j = mirrored w (shifted_to u j)
box_of (Ends a b) j = end_at a b j

-- v is in one of the first n boxes
pub record Among (S : Row) (n v : ℕ) : Type 0 where
  pub at : ℕ
  pub below : at < n
  pub inside : In (box_of S at) v

-- v is in the set
abbrev pub HasOf : Union → ℕ → Type 0
HasOf (Except s) v = v ≡ s → ⊥
HasOf (Low m) v = v % 2 ^ m ≡ 0 → ⊥
HasOf (Dividends t m) v = (v % t < v / t) × (v ≤ m)
HasOf (Several S n) v = Among S n v

abbrev pub Has : Set → ℕ → Type 0
Has Empty v = ⊥
Has (Only c there) v = (v ≡ c) × (there ≡ true)
Has (One b) v = In b v
Has (Many U) v = HasOf U v

-- its boxes are boxes of words of 64 bits
abbrev pub FineOf : Union → Type 0
FineOf (Except s) = Unit {0}
FineOf (Low m) = m ≤ 64
FineOf (Dividends t m) = (0 < t) × (t < 2 ^ 16) × (m < 2 ^ 16)
FineOf (Several (Left t w) n) = (n ≤ w) × (w ≤ 64) × (t < 2 ^ w)
FineOf (Several (Right t) n) = (n ≤ 64) × ((j : ℕ) → j < n → t * 2 ^ j + 2 ^ j ≤ 2 ^ 64)
FineOf (Several (Mirrored u w) n) = (1 ≤ w) × (w ≤ 64) × (n ≤ w) × ((j : ℕ) → j < n → u * 2 ^ j + 2 ^ j ≤ 2 ^ w)
FineOf (Several (Ends a b) n) = Unit {0}

abbrev pub Fine : Set → Type 0
Fine Empty = Unit {0}
Fine (Only c there) = Unit {0}
Fine (One b) = Unit {0}
Fine (Many U) = FineOf U

-- v agrees with a pair and is in the set
pub record Chosen (S : Set) (lo hi v : ℕ) : Type 0 where
  pub agrees : Agrees lo hi v
  pub has : Has S v

abbrev pub ChosenOf : Union → ℕ → ℕ → ℕ → Type 0
ChosenOf U = Chosen (Many U)

-- the set's members of w bits are the solutions of P: what a set-valued function promises
pub record Solves (w : ℕ) (P : ℕ → Type 0) (S : Set) : Type 0 where
  pub fine : Fine S
  pub to : (v : ℕ) → v < 2 ^ w → Has S v → P v
  pub back : (v : ℕ) → v < 2 ^ w → P v → Has S v

-- every value
abbrev pub Every : ℕ → Type 0
Every v = Unit {0}

-- a value that A admits and of which Q holds
pub record SomeOf (A Q : ℕ → Type 0) : Type 0 where
  pub by : ℕ
  pub fits : A by
  pub gives : Q by

-- a value of w bits, or one that agrees with l, h, of which Q holds
abbrev pub SomeWord : ℕ → (ℕ → Type 0) → Type 0
SomeWord w Q = SomeOf (λ s. s < 2 ^ w) Q

abbrev pub SomeAgreeing : ℕ → ℕ → (ℕ → Type 0) → Type 0
SomeAgreeing l h Q = SomeOf (Agrees l h) Q
