-- Laws of the bits of one word that are not in another. All at any width.
use Rattle.std.specs.Prelude.{◌≡◌, ℕ, zero, suc, ◌+◌, ◌-◌, ◌*◌, ◌/◌, ◌%◌, ◌^◌, ◌<◌, ◌≤◌, min, bit_or}
use Rattle.std.proofs.Common.{sym, ap, ap₂, ◌∙◌, le_antisymm, mod-lt, sub-le, pow-suc, lt_of_le_of_lt, arith, pow_pos}
use Rattle.std.proofs.Math.Nat.{le_of_sub-eq-zero}
use Rattle.std.proofs.Math.Arith.{lt-one}
use Rattle.std.proofs.Math.Pow.{split, high, low}
use Rattle.std.specs.Int.Bits.{bit_and, and_step, or_add_and}
use Rattle.std.proofs.lemmas.Nat.{and_le_l, and_le_r, and_shr, and_mod}
use Rattle.words.specs.Bits.{bit}
use Rattle.words.specs.laws.Bits.{bit_zero, bit_of_and}
use Rattle.words.specs.Agree.{Within}
use Rattle.words.specs.inner.Words.{less}

pub less_le : (a b : ℕ) → less a b ≤ a
unfolding less
less_le a b = sub-le a (bit_and a b)

-- nothing is left exactly where a is within b
pub within_of_less : (a b : ℕ) → less a b ≡ 0 → Within a b
unfolding less
within_of_less a b e = record { is = le_antisymm (and_le_l a b) (le_of_sub-eq-zero e) }

pub less_of_within : {a b : ℕ} → Within a b → less a b ≡ 0
unfolding less
less_of_within {a} {b} h = omega (arith, h.is)

less_split : (a b k : ℕ) → less a b ≡ less (a / 2 ^ k) (b / 2 ^ k) * 2 ^ k + less (a % 2 ^ k) (b % 2 ^ k)
unfolding less
less_split a b k =
    let A = a / 2 ^ k in
    let r = a % 2 ^ k in
    go A (bit_and A (b / 2 ^ k)) r (bit_and r (b % 2 ^ k)) (2 ^ k) (split a k)
    (ap₂ (λ (x y : ℕ). x * 2 ^ k + y) (sym (and_shr a b k)) (sym (and_mod a b k)) ∙ split (bit_and a b) k)
    (and_le_l A (b / 2 ^ k)) (and_le_l r (b % 2 ^ k))
  where
    go : (A C r s m : ℕ) → A * m + r ≡ a → C * m + s ≡ bit_and a b → C ≤ A → s ≤ r → a - bit_and a b ≡ (A - C) * m + (r - s)
    go A C r s m e f g h =
        let q : (A - C) * m + C * m ≡ A * m = sum (A - C) C A m (omega arith) in
        omega arith
      where
        sum : (x y z n : ℕ) → x + y ≡ z → x * n + y * n ≡ z * n
        sum x y z n e = omega (arith, ap (λ (i : ℕ). i * n) e)

less_low : (a b k : ℕ) → less (a % 2 ^ k) (b % 2 ^ k) < 2 ^ k
less_low a b k = lt_of_le_of_lt (less_le (a % 2 ^ k) (b % 2 ^ k)) (mod-lt a (pow_pos k))

pub less_div : (a b k : ℕ) → less a b / 2 ^ k ≡ less (a / 2 ^ k) (b / 2 ^ k)
less_div a b k = ap (λ (x : ℕ). x / 2 ^ k) (less_split a b k) ∙ high (less (a / 2 ^ k) (b / 2 ^ k)) k (less_low a b k)

pub less_mod : (a b k : ℕ) → less a b % 2 ^ k ≡ less (a % 2 ^ k) (b % 2 ^ k)
less_mod a b k = ap (λ (x : ℕ). x % 2 ^ k) (less_split a b k) ∙ low (less (a / 2 ^ k) (b / 2 ^ k)) k (less_low a b k)

-- a & !b, for words of k bits
pub and_not : (k a b : ℕ) → a < 2 ^ k → b < 2 ^ k → bit_and a ((2 ^ k - 1) - b) ≡ less a b
unfolding less
and_not zero a b ha hb = ap (λ (n : ℕ). bit_and n (0 - b)) (lt-one ha) ∙ ap (λ (n : ℕ). n - bit_and n b) (sym (lt-one ha))
and_not (suc k) a b ha hb =
    let P = 2 ^ k in
    let e : 2 ^ suc k ≡ P * 2 = pow-suc 2 k in
    let h : ((2 ^ suc k - 1) - b) / 2 ≡ (P - 1) - b / 2 = omega arith in
    let l : ((2 ^ suc k - 1) - b) % 2 ≡ 1 - b % 2 = omega arith in
    and_step a ((2 ^ suc k - 1) - b)
    ∙ ap₂ (λ (x y : ℕ). bit_and (a / 2) x * 2 + min (a % 2) y) h l
    ∙ ap (λ (x : ℕ). x * 2 + min (a % 2) (1 - b % 2)) (and_not k (a / 2) (b / 2) (omega arith) (omega arith))
    ∙ joined (bit_and (a / 2) (b / 2)) (and_le_l (a / 2) (b / 2))
    ∙ ap (λ (x : ℕ). a - x) (sym (and_step a b))
  where
    joined : (q : ℕ) → q ≤ a / 2 → (a / 2 - q) * 2 + min (a % 2) (1 - b % 2) ≡ a - (q * 2 + min (a % 2) (b % 2))
    joined q h = omega arith

pub or_zero : (a b : ℕ) → bit_or a b ≡ 0 → (a ≡ 0) × (b ≡ 0)
or_zero a b e = omega (arith, or_add_and a b, and_le_l a b, and_le_r a b)

-- bit by bit
less_parity : (a b : ℕ) → less a b % 2 ≡ a % 2 - b % 2
unfolding less
less_parity a b =
    let e : bit_and a b % 2 ≡ min (a % 2) (b % 2) = sym (bit_zero (bit_and a b)) ∙ bit_of_and 0 a b ∙ ap₂ min (bit_zero a) (bit_zero b) in
    omega (arith, and_le_l a b)

pub bit_less : (i a b : ℕ) → bit i (less a b) ≡ bit i a - bit i b
unfolding bit
bit_less i a b = ap (λ (n : ℕ). n % 2) (less_div a b i) ∙ less_parity (a / 2 ^ i) (b / 2 ^ i)

-- the lowest bit is in a and not in b
pub less_odd : (a b : ℕ) → less a b % 2 ≡ 1 → (a % 2 ≡ 1) × (b % 2 ≡ 0)
less_odd a b e = (omega (arith, less_parity a b), omega (arith, less_parity a b))
