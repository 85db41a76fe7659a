-- Laws of the bits of a number, and of the operations on words bit by bit. All at any width.
use Rattle.std.specs.Prelude.{◌≡◌, ℕ, zero, suc, ◌+◌, ◌-◌, ◌*◌, ◌/◌, ◌%◌, ◌^◌, ◌<◌, ◌≤◌, min, max, ◌⊎◌, refl}
use Rattle.std.proofs.Common.{sym, ap, ◌∙◌, inl, inr, ⊎_elim, zero-le, mod-lt, le_refl, zero-lt-suc, div-one, lt_of_lt_of_le, lt_of_not-le, le_antisymm, mod-eq_of_lt, pow-suc, le_of_suc-le-suc, not-suc-le-zero, one-add, arith, pow_pos, pow_mono, shr-shr}
use Rattle.std.proofs.Math.Nat.{div-eq_of_lt, mul-mod_left, sub-zero}
use Rattle.std.proofs.Math.Decide.{dec_lt}
use Rattle.std.proofs.Math.Arith.{bin_ind}
use Rattle.std.specs.Int.Bits.{bit_and, bit_or, bit_xor, differ, and_step, or_step, xor_step}
use Rattle.std.proofs.lemmas.Nat.{and_shr, or_shr, xor_shr, shl-shr}
use Rattle.std.proofs.Math.Pow.{mod-mod-pow, field, high, low}
use Rattle.words.specs.Bits.{bit}

two_pos : 0 < 2
two_pos = zero-lt-suc 1

pub bit_lt : (i v : ℕ) → bit i v < 2
unfolding bit
bit_lt i v = mod-lt (v / 2 ^ i) two_pos

pub bit_zero : (v : ℕ) → bit 0 v ≡ v % 2
unfolding bit
bit_zero v = ap (λ (x : ℕ). x % 2) (div-one v)

pub bit_half : (i v : ℕ) → bit i (v / 2) ≡ bit (suc i) v
unfolding bit
bit_half i v = ap (λ (x : ℕ). x % 2) (shr-shr v 1 i) ∙ ap (λ (k : ℕ). v / 2 ^ k % 2) (one-add i)

-- above a number's digits there are none
pub bit_high : (i v w : ℕ) → v < 2 ^ w → w ≤ i → bit i v ≡ 0
unfolding bit
bit_high i v w h l = ap (λ (x : ℕ). x % 2) (div-eq_of_lt (lt_of_lt_of_le h (pow_mono l)))

-- so a set bit stands within the width
pub bit_set_lt : (i v w : ℕ) → v < 2 ^ w → bit i v ≡ 1 → i < w
bit_set_lt i v w h e = lt_of_not-le (λ (l : w ≤ i). let z = bit_high i v w h l in omega arith)

pub bit_of_zero : (i : ℕ) → bit i 0 ≡ 0
bit_of_zero i = bit_high i 0 0 (zero-lt-suc 0) zero-le

-- ---- and, or, xor: the lesser of two bits, the greater, and whether they differ

pub bit_of_and : (i a b : ℕ) → bit i (bit_and a b) ≡ min (bit i a) (bit i b)
unfolding bit
bit_of_and i a b =
    ap (λ (x : ℕ). x % 2) (and_shr a b i ∙ and_step (a / 2 ^ i) (b / 2 ^ i))
    ∙ omega (arith, mod-lt (a / 2 ^ i) two_pos, mod-lt (b / 2 ^ i) two_pos)

pub bit_of_or : (i a b : ℕ) → bit i (bit_or a b) ≡ max (bit i a) (bit i b)
unfolding bit
bit_of_or i a b =
    ap (λ (x : ℕ). x % 2) (or_shr a b i ∙ or_step (a / 2 ^ i) (b / 2 ^ i))
    ∙ omega (arith, mod-lt (a / 2 ^ i) two_pos, mod-lt (b / 2 ^ i) two_pos)

differ_bits : (x y : ℕ) → x < 2 → y < 2 → differ x y ≡ (x + y) % 2
differ_bits zero y hx hy = sym (mod-eq_of_lt hy ∙ refl) ∙ ap (λ (z : ℕ). z % 2) (omega arith)
differ_bits (suc zero) zero hx hy = refl
differ_bits (suc zero) (suc zero) hx hy = refl
differ_bits (suc zero) (suc (suc y)) hx hy = absurd (not-suc-le-zero (le_of_suc-le-suc (le_of_suc-le-suc hy)))
differ_bits (suc (suc x)) y hx hy = absurd (not-suc-le-zero (le_of_suc-le-suc (le_of_suc-le-suc hx)))

pub bit_of_xor : (i a b : ℕ) → bit i (bit_xor a b) ≡ (bit i a + bit i b) % 2
unfolding bit
bit_of_xor i a b =
    ap (λ (x : ℕ). x % 2) (xor_shr a b i ∙ xor_step (a / 2 ^ i) (b / 2 ^ i))
    ∙ ap (λ (d : ℕ). (bit_xor (a / 2 ^ i / 2) (b / 2 ^ i / 2) * 2 + d) % 2) (differ_bits (a / 2 ^ i % 2) (b / 2 ^ i % 2) (mod-lt (a / 2 ^ i) two_pos) (mod-lt (b / 2 ^ i) two_pos))
    ∙ omega arith

-- ---- a number is what its bits are

le_of_bits : (a b : ℕ) → ((i : ℕ) → bit i a ≤ bit i b) → a ≤ b
le_of_bits =
    bin_ind (λ (a : ℕ). (b : ℕ) → ((i : ℕ) → bit i a ≤ bit i b) → a ≤ b) (λ b h. zero-le)
    (λ a ih b h.
    let u : a / 2 ≤ b / 2 = ih (b / 2) (λ i. rw (bit_half i a, bit_half i b) (h (suc i))) in
    let v : a % 2 ≤ b % 2 = rw (bit_zero a, bit_zero b) at (h 0) in
    omega arith)

pub bit_ext : (a b : ℕ) → ((i : ℕ) → bit i a ≡ bit i b) → a ≡ b
bit_ext a b h = le_antisymm (le_of_bits a b (λ i. rw (h i) (le_refl (bit i b)))) (le_of_bits b a (λ i. rw (h i) (le_refl (bit i b))))

pub xor_none : (x y : ℕ) → bit_xor x y ≡ 0 → x ≡ y
xor_none x y e = bit_ext x y (λ i. same (bit i x) (bit i y) (bit_lt i x) (bit_lt i y) (sym (bit_of_xor i x y) ∙ ap (bit i) e ∙ bit_of_zero i))
  where
    same : (a b : ℕ) → a < 2 → b < 2 → (a + b) % 2 ≡ 0 → a ≡ b
    same a b h k e = omega arith

-- ---- places below k and from k on

pub lt_or_ge : (n m : ℕ) → (n < m) ⊎ (m ≤ n)
lt_or_ge n m = elim (dec_lt n m) [ yes h ↦ inl h | no h ↦ inr (omega arith) ]

-- a place below k, or k and so many more
pub split_at : (P : ℕ → Type 0) (k : ℕ) → ((i : ℕ) → i < k → P i) → ((i : ℕ) → P (k + i)) → (i : ℕ) → P i
split_at P k f g i =
    ⊎_elim (λ (l : i < k). f i l) (λ (l : k ≤ i). let e : k + (i - k) ≡ i = omega arith in rw e at (g (i - k))) (lt_or_ge i k)

pub bit_shr : (i v k : ℕ) → bit i (v / 2 ^ k) ≡ bit (k + i) v
unfolding bit
bit_shr i v k = ap (λ (x : ℕ). x % 2) (shr-shr v k i)

pub bit_shl : (i v k : ℕ) → bit (k + i) (v * 2 ^ k) ≡ bit i v
unfolding bit
bit_shl i v k = ap (λ (x : ℕ). x % 2) (sym (shr-shr (v * 2 ^ k) k i) ∙ ap (λ (x : ℕ). x / 2 ^ i) (shl-shr v k))

pub bit_cut : (i n w : ℕ) → i < w → bit i (n % 2 ^ w) ≡ bit i n
unfolding bit
bit_cut i n w h =
    let e : w ≡ suc (w - suc i) + i = omega arith in
    let f : suc (w - suc i) ≡ (w - suc i) + 1 = omega arith in
    ap (λ (m : ℕ). n % 2 ^ m / 2 ^ i % 2) e
    ∙ ap (λ (x : ℕ). x % 2) (field n (suc (w - suc i)) i)
    ∙ ap (λ (m : ℕ). n / 2 ^ i % 2 ^ m % 2) f
    ∙ mod-mod-pow (n / 2 ^ i) (w - suc i) 1

pub bit_cut_high : (i n w : ℕ) → w ≤ i → bit i (n % 2 ^ w) ≡ 0
bit_cut_high i n w h = bit_high i (n % 2 ^ w) w (mod-lt n (pow_pos w)) h

-- two numbers whose low k bits are the same have the same remainder
pub same_low : (a b k : ℕ) → ((i : ℕ) → i < k → bit i a ≡ bit i b) → a % 2 ^ k ≡ b % 2 ^ k
same_low a b k h =
    bit_ext (a % 2 ^ k) (b % 2 ^ k)
    (λ i. ⊎_elim (λ (l : i < k). bit_cut i a k l ∙ h i l ∙ sym (bit_cut i b k l))
    (λ (l : k ≤ i). bit_cut_high i a k l ∙ sym (bit_cut_high i b k l)) (lt_or_ge i k))

-- x over the k bits of y
pub bit_over_low : (i x y k : ℕ) → y < 2 ^ k → i < k → bit i (x * 2 ^ k + y) ≡ bit i y
bit_over_low i x y k hy h = sym (bit_cut i (x * 2 ^ k + y) k h) ∙ ap (bit i) (low x k hy)

pub bit_over_high : (i x y k : ℕ) → y < 2 ^ k → bit (k + i) (x * 2 ^ k + y) ≡ bit i x
bit_over_high i x y k hy = sym (bit_shr i (x * 2 ^ k + y) k) ∙ ap (bit i) (high x k hy)

pub bit_shl_low : (i v k : ℕ) → i < k → bit i (v * 2 ^ k) ≡ 0
bit_shl_low i v k h = sym (bit_cut i (v * 2 ^ k) k h) ∙ ap (bit i) (mul-mod_left v (2 ^ k)) ∙ bit_of_zero i

-- ---- the complement

not_half : (p a : ℕ) → 1 ≤ p → a < p * 2 → ((p * 2 - 1) - a) / 2 ≡ (p - 1) - a / 2
not_half p a h l = omega arith

not_odd : (p a : ℕ) → 1 ≤ p → a < p * 2 → ((p * 2 - 1) - a) % 2 ≡ 1 - a % 2
not_odd p a h l = omega arith

pub bit_not : (i w a : ℕ) → a < 2 ^ w → i < w → bit i ((2 ^ w - 1) - a) ≡ 1 - bit i a
bit_not i zero a h l = absurd (not-suc-le-zero l)
bit_not zero (suc w) a h l =
    let h' : a < 2 ^ w * 2 = rw (pow-suc 2 w) at h in
    bit_zero ((2 ^ suc w - 1) - a) ∙ ap (λ (x : ℕ). ((x - 1) - a) % 2) (pow-suc 2 w) ∙ not_odd (2 ^ w) a (pow_pos w) h'
    ∙ ap (λ (x : ℕ). 1 - x) (sym (bit_zero a))
bit_not (suc i) (suc w) a h l =
    let h' : a < 2 ^ w * 2 = rw (pow-suc 2 w) at h in
    sym (bit_half i ((2 ^ suc w - 1) - a))
    ∙ ap (λ (x : ℕ). bit i (((x - 1) - a) / 2)) (pow-suc 2 w)
    ∙ ap (bit i) (not_half (2 ^ w) a (pow_pos w) h')
    ∙ bit_not i w (a / 2) (omega arith) (le_of_suc-le-suc l)
    ∙ ap (λ (x : ℕ). 1 - x) (bit_half i a)

-- a full word has every bit
pub ones_bit : (i w : ℕ) → i < w → bit i (2 ^ w - 1) ≡ 1
ones_bit i w l =
    ap (bit i) (sym (sub-zero (2 ^ w - 1))) ∙ bit_not i w 0 (pow_pos w) l ∙ ap (λ (x : ℕ). 1 - x) (bit_of_zero i)
