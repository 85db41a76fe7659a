-- The x with x * s ≡ t to w bits, for an s that is o * 2 ^ k with an inverse of o to the other w - k bits. At any width; s = 0 is k = w, o = 0.
use Rattle.std.specs.Prelude.{◌≡◌, ℕ, ◌+◌, ◌-◌, ◌*◌, ◌/◌, ◌%◌, ◌^◌, ◌<◌, ◌≤◌, ◌≢◌, refl}
use Rattle.std.proofs.Common.{sym, ap, ap₂, ◌∙◌, subst, mod-eq_of_lt, mul-div_cancel, mul-one, mul_assoc, mul_comm, add-zero, mul-zero, le_of_lt, arith, pow_pos, pow-add, shr_lt}
use Rattle.std.proofs.Math.Nat.{mul-mod_left, zero-mod}
use Rattle.std.proofs.Math.Arith.{mod-mul}
use Rattle.std.proofs.Math.Pow.{split}
use Rattle.words.specs.Agree.{Agrees}
use Rattle.words.specs.laws.Narrow.{LowIs}
use Rattle.words.specs.Pick.{Empty}
use Rattle.words.specs.inner.Words.{Tail, Inverse}
use Rattle.words.specs.laws.Zeros.{tail_lt}
use Rattle.words.specs.laws.Modular.{mul_mod_l, mul_mod_r, same_mul, inverse_fewer, cut_cut}

-- a common factor comes out of a remainder
pub mod_scale : (a m c : ℕ) → 0 < m → 0 < c → a * c % (m * c) ≡ a % m * c
mod_scale a m c hm hc =
    mod-mul (a * c) hm hc ∙ ap₂ (λ (x y : ℕ). x % m * c + y) (mul-div_cancel a hc) (mul-mod_left a c) ∙ add-zero (a % m * c)

module _ (n k o inv : ℕ) (i : Inverse n o inv) where
  -- the product keeps the k low bits clear, and has x * o above them
  product_is : (x : ℕ) → x * (o * 2 ^ k) % 2 ^ (n + k) ≡ x * o % 2 ^ n * 2 ^ k
  product_is x =
      ap₂ (λ (a b : ℕ). a % b) (sym (mul_assoc x o (2 ^ k))) (pow-add 2 n k) ∙ mod_scale (x * o) (2 ^ n) (2 ^ k) (pow_pos n) (pow_pos k)

  -- dividing by o: y ≡ x * o exactly where x ≡ y * inv
  cancel : (x : ℕ) → x * (o * inv) % 2 ^ n ≡ x % 2 ^ n
  cancel x = same_mul (2 ^ n) x (o * inv) 1 i.one ∙ ap (λ (a : ℕ). a % 2 ^ n) (mul-one x)

  pub solve : (x t : ℕ) → x * (o * 2 ^ k) % 2 ^ (n + k) ≡ t → (t % 2 ^ k ≡ 0) × (x % 2 ^ n ≡ t / 2 ^ k * inv % 2 ^ n)
  solve x t e =
      let f : x * o % 2 ^ n * 2 ^ k ≡ t = sym (product_is x) ∙ e in
      let q : t / 2 ^ k ≡ x * o % 2 ^ n = ap (λ (a : ℕ). a / 2 ^ k) (sym f) ∙ mul-div_cancel (x * o % 2 ^ n) (pow_pos k) in (
        ap (λ (a : ℕ). a % 2 ^ k) (sym f) ∙ mul-mod_left (x * o % 2 ^ n) (2 ^ k),
        sym (cancel x) ∙ ap (λ (a : ℕ). a % 2 ^ n) (sym (mul_assoc x o inv)) ∙ sym (mul_mod_l (x * o) inv (2 ^ n)) ∙ ap (λ (a : ℕ). a * inv % 2 ^ n) (sym q),
      )

  pub solves : (x t : ℕ) → t < 2 ^ (n + k) → t % 2 ^ k ≡ 0 → x % 2 ^ n ≡ t / 2 ^ k * inv % 2 ^ n → x * (o * 2 ^ k) % 2 ^ (n + k) ≡ t
  solves x t h z e =
      let q : x * o % 2 ^ n ≡ t / 2 ^ k =
      sym (mul_mod_l x o (2 ^ n)) ∙ ap (λ (a : ℕ). a * o % 2 ^ n) e ∙ mul_mod_l (t / 2 ^ k * inv) o (2 ^ n)
      ∙ ap (λ (a : ℕ). a % 2 ^ n) (mul_assoc (t / 2 ^ k) inv o ∙ ap (λ (a : ℕ). t / 2 ^ k * a) (mul_comm inv o))
      ∙ cancel (t / 2 ^ k) ∙ mod-eq_of_lt (shr_lt n k h) in
      product_is x ∙ ap (λ (a : ℕ). a * 2 ^ k) q ∙ clear
    where
      clear : t / 2 ^ k * 2 ^ k ≡ t
      clear = omega (arith, split t k)

-- ---- the inverse set of a multiplication

-- "values that agree with the operand's pair and give t with the other positions at their current values" (document 01)
pub record MulInverse (w s t lo hi x : ℕ) : Type 0 where
  pub agrees : Agrees lo hi x
  pub gives : x * s % 2 ^ w ≡ t

-- for s ≡ 0 it is all that agrees, or nothing
pub mul_zero_gives : (w x t : ℕ) → t ≡ 0 → x * 0 % 2 ^ w ≡ t
mul_zero_gives w x t e = ap (λ (a : ℕ). a % 2 ^ w) (mul-zero x) ∙ zero-mod (2 ^ w) ∙ sym e

-- a target with a bit below s's lowest is out of reach
pub mul_none : (w s t lo hi k r : ℕ) → s < 2 ^ w → Tail 64 s k → r ≡ t % 2 ^ k → (r ≢ 0) → Empty (MulInverse w s t lo hi)
mul_none w s t lo hi k r hs tail e f x m =
    f (e ∙ ap (λ (a : ℕ). a % 2 ^ k) (sym m.gives) ∙ cut_cut (x * s) w k (le_of_lt (tail_lt w 64 s k hs tail)) ∙ sym (mul_mod_r x s (2 ^ k))
    ∙ ap (λ (a : ℕ). x * a % 2 ^ k) tail.clear ∙ mul_zero_gives k x 0 refl)

-- for any other, with k trailing zeros, and the inverse of what is left to 64 bits
module _ (w s t lo hi k v y : ℕ) (w64 : w ≤ 64) (ht : t < 2 ^ w) (hs : s < 2 ^ w) (tail : Tail 64 s k) (i : Inverse 64 (s / 2 ^ k) v) (ey : y ≡ t / 2 ^ k * v % 2 ^ 64) where
  k_lt : k < w
  k_lt = tail_lt w 64 s k hs tail

  whole : w - k + k ≡ w
  whole = omega (arith, k_lt)

  factor : s / 2 ^ k * 2 ^ k ≡ s
  factor = omega (arith, split s k, tail.clear)

  few : Inverse (w - k) (s / 2 ^ k) v
  few = inverse_fewer (omega arith) i

  root : y % 2 ^ (w - k) ≡ t / 2 ^ k * v % 2 ^ (w - k)
  root = ap (λ (a : ℕ). a % 2 ^ (w - k)) ey ∙ cut_cut (t / 2 ^ k * v) 64 (w - k) (omega arith)

  both : (x : ℕ) → x * (s / 2 ^ k * 2 ^ k) % 2 ^ (w - k + k) ≡ x * s % 2 ^ w
  both x = ap₂ (λ (a b : ℕ). x * a % 2 ^ b) factor whole

  pub mul_to : (c : ℕ) → c ≡ y % 2 ^ (w - k) → (x : ℕ) → MulInverse w s t lo hi x → LowIs lo hi (w - k) c x
  mul_to c e x m = record { agrees = m.agrees; ends = (solve (w - k) k (s / 2 ^ k) v few x t (both x ∙ m.gives)).1 ∙ sym root ∙ sym e }

  pub mul_back : (r : ℕ) → r ≡ t % 2 ^ k → r ≡ 0 → (c : ℕ) → c ≡ y % 2 ^ (w - k) → (x : ℕ) → LowIs lo hi (w - k) c x → MulInverse w s t lo hi x
  mul_back r er z c e x m = record {
    agrees = m.agrees;
    gives = sym (both x) ∙ solves (w - k) k (s / 2 ^ k) v few x t (subst (λ (a : ℕ). t < 2 ^ a) (sym whole) ht) (sym er ∙ z) (m.ends ∙ e ∙ root);
  }
