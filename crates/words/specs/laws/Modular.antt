-- Numbers that are the same modulo m, as equations of remainders; cuts; inverses modulo 2 ^ w and Newton's step towards them.
-- All at any modulus, or at any width.
use Rattle.std.specs.Prelude.{◌≡◌, ℕ, ◌+◌, ◌-◌, ◌*◌, ◌/◌, ◌%◌, ◌^◌, ◌<◌, ◌≤◌}
use Rattle.std.proofs.Common.{sym, ap, ◌∙◌, mod-lt, mod-eq_of_lt, div-add-mod', mul_comm, mul_assoc, mul-one, mul-pos, le_refl, lt_of_lt_of_le, arith, pow-add, pow_mono}
use Rattle.std.proofs.Math.Nat.{mod-add-mod, add-mul-mod_self_right}
use Rattle.std.proofs.Math.Pow.{mod-mod-pow}
use Rattle.words.specs.inner.Words.{Inverse, WordInverse}

-- a product's factors may be cut
pub mul_mod_l : (a b m : ℕ) → (a % m) * b % m ≡ a * b % m
mul_mod_l a b m =
    sym (add-mul-mod_self_right (a % m * b) (a / m * b) m)
    ∙ ap (λ (n : ℕ). n % m) (ring (a / m) (a % m) ∙ ap (λ (n : ℕ). n * b) (div-add-mod' a m))
  where
    ring : (q r : ℕ) → r * b + q * b * m ≡ (q * m + r) * b
    ring q r = omega arith

pub mul_mod_r : (a b m : ℕ) → a * (b % m) % m ≡ a * b % m
mul_mod_r a b m = ap (λ (n : ℕ). n % m) (mul_comm a (b % m)) ∙ mul_mod_l b a m ∙ ap (λ (n : ℕ). n % m) (mul_comm b a)

-- the same, as a caller has it who cuts the factors first
pub mul_cut : (a b m : ℕ) → (a * b) % m ≡ (a % m * b) % m
mul_cut a b m = sym (mul_mod_l a b m)

pub mul_cuts : (a b m : ℕ) → (a * b) % m ≡ (a % m * (b % m)) % m
mul_cuts a b m = mul_cut a b m ∙ sym (mul_mod_r (a % m) b m)

pub same_mul : (m c a b : ℕ) → a % m ≡ b % m → c * a % m ≡ c * b % m
same_mul m c a b e = sym (mul_mod_r c a m) ∙ ap (λ (n : ℕ). c * n % m) e ∙ mul_mod_r c b m

pub same_add : (m c a b : ℕ) → a % m ≡ b % m → (a + c) % m ≡ (b + c) % m
same_add m c a b e = sym (mod-add-mod a m c) ∙ ap (λ (n : ℕ). (n + c) % m) e ∙ mod-add-mod b m c

-- a term may be taken off both sides
pub same_sub : (m c a b : ℕ) → 0 < m → (a + c) % m ≡ (b + c) % m → a % m ≡ b % m
same_sub m c a b h e = sym (up a) ∙ same_add m (m - c % m) (a + c) (b + c) e ∙ up b
  where
    sum : (x : ℕ) → x + c + (m - c % m) ≡ x + (c / m + 1) * m
    sum x = omega (arith, div-add-mod' c m, mod-lt c h)

    up : (x : ℕ) → (x + c + (m - c % m)) % m ≡ x % m
    up x = ap (λ (n : ℕ). n % m) (sum x) ∙ add-mul-mod_self_right x (c / m + 1) m

-- a shorter cut after a longer one
pub cut_cut : (n W w : ℕ) → w ≤ W → n % 2 ^ W % 2 ^ w ≡ n % 2 ^ w
cut_cut n W w h =
    let e : (W - w) + w ≡ W = omega arith in
    ap (λ (m : ℕ). n % 2 ^ m % 2 ^ w) (sym e) ∙ mod-mod-pow n (W - w) w

-- the same to more bits, the same to fewer
pub same_fewer : {k w : ℕ} (a b : ℕ) → k ≤ w → a % 2 ^ w ≡ b % 2 ^ w → a % 2 ^ k ≡ b % 2 ^ k
same_fewer {k} {w} a b h e = sym (cut_cut a w k h) ∙ ap (λ (n : ℕ). n % 2 ^ k) e ∙ cut_cut b w k h

-- ---- inverses

pub inverse_unique : {w a x y : ℕ} → WordInverse w a x → WordInverse w a y → x ≡ y
inverse_unique {w} {a} {x} {y} i j =
    sym (mod-eq_of_lt i.fits)
    ∙ ap (λ (n : ℕ). n % 2 ^ w) (sym (mul-one x)) ∙ sym (same_mul (2 ^ w) x (a * y) 1 j.inverse.one)
    ∙ ap (λ (n : ℕ). n % 2 ^ w) (ring a x y)
    ∙ same_mul (2 ^ w) y (a * x) 1 i.inverse.one ∙ ap (λ (n : ℕ). n % 2 ^ w) (mul-one y)
    ∙ mod-eq_of_lt j.fits
  where
    ring : (a x y : ℕ) → x * (a * y) ≡ y * (a * x)
    ring a x y = omega arith

-- an inverse to more bits is one to fewer
pub inverse_fewer : {k w a x : ℕ} → k ≤ w → Inverse w a x → Inverse k a x
inverse_fewer {k} {w} {a} {x} h i = record { one = same_fewer (a * x) 1 h i.one }

pub inverse_one : (a : ℕ) → a % 2 ≡ 1 → Inverse 1 a 1
inverse_one a o = record { one = ap (λ (n : ℕ). n % 2) (mul-one a) ∙ o }

-- y is 1 to N, and z with y makes 2 to N * N: then y * z is 1 to N * N
square : (N y z : ℕ) → 1 < N → y % N ≡ 1 → (z + y) % (N * N) ≡ 2 % (N * N) → y * z % (N * N) ≡ 1 % (N * N)
square N y z h o e =
    sym (add-mul-mod_self_right (y * z) (q * q) S)
    ∙ same_sub S (2 * (q * N) + 1) (y * z + q * q * S) 1 pos (ap (λ (n : ℕ). n % S) left ∙ same_mul S y (z + y) 2 e ∙ ap (λ (n : ℕ). n % S) right)
  where
    q : ℕ
    q = y / N

    S : ℕ
    S = N * N

    yq : y ≡ q * N + 1
    yq = omega (arith, div-add-mod' y N)

    pos : 0 < S
    pos = pos_mul N h
      where
        pos_mul : (n : ℕ) → 1 < n → 0 < n * n
        pos_mul n g = mul-pos (omega arith) (omega arith)

    ring : (p m : ℕ) → (p * m + 1) * z + p * p * (m * m) + (2 * (p * m) + 1) ≡ (p * m + 1) * (z + (p * m + 1))
    ring p m = omega arith

    left : y * z + q * q * S + (2 * (q * N) + 1) ≡ y * (z + y)
    left = ap (λ (n : ℕ). n * z + q * q * S + (2 * (q * N) + 1)) yq ∙ ring q N ∙ ap (λ (n : ℕ). n * (z + n)) (sym yq)

    right : y * 2 ≡ 1 + (2 * (q * N) + 1)
    right = omega (arith, yq)

-- Newton's step: an inverse to k bits gives one to twice as many, computed at w bits
pub newton : (k w a x y z : ℕ) → 0 < k → k + k ≤ w → Inverse k a x → y ≡ a * x % 2 ^ w → (z + y) % 2 ^ w ≡ 2 → Inverse (k + k) a (x * z % 2 ^ w)
newton k w a x y z hk hw i ey ez = record {
  one =
      same_fewer (a * (x * z % 2 ^ w)) (y * z) hw whole
      ∙ ap (λ (n : ℕ). y * z % n) (pow-add 2 k k) ∙ square (2 ^ k) y z big one two ∙ ap (λ (n : ℕ). 1 % n) (sym (pow-add 2 k k));
}
  where
    big : 1 < 2 ^ k
    big = lt_of_lt_of_le (le_refl 2) (pow_mono hk)

    whole : a * (x * z % 2 ^ w) % 2 ^ w ≡ y * z % 2 ^ w
    whole =
        mul_mod_r a (x * z) (2 ^ w) ∙ ap (λ (n : ℕ). n % 2 ^ w) (sym (mul_assoc a x z))
        ∙ sym (mul_mod_l (a * x) z (2 ^ w)) ∙ ap (λ (n : ℕ). n * z % 2 ^ w) (sym ey)

    one : y % 2 ^ k ≡ 1
    one = ap (λ (n : ℕ). n % 2 ^ k) ey ∙ cut_cut (a * x) w k (omega arith) ∙ i.one ∙ mod-eq_of_lt big

    two : (z + y) % (2 ^ k * 2 ^ k) ≡ 2 % (2 ^ k * 2 ^ k)
    two =
        ap (λ (n : ℕ). (z + y) % n) (sym (pow-add 2 k k)) ∙ sym (cut_cut (z + y) w (k + k) hw) ∙ ap (λ (n : ℕ). n % 2 ^ (k + k)) ez
        ∙ ap (λ (n : ℕ). 2 % n) (pow-add 2 k k)
