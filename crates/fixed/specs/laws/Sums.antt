-- Where agreeing values of two operands always give the same bit of a sum, both operands' bits are fixed there and the least and the greatest sum
-- carry the same into it (02, R-9). All at any width.
use Rattle.std.specs.Prelude.{◌≡◌, refl, ℕ, ◌+◌, ◌%◌, ◌^◌, ◌<◌, max}
use Rattle.std.proofs.Common.{sym, ap, ap₂, ◌∙◌, add_comm, mod-lt, arith, pow_pos}
use Rattle.std.specs.Int.Bits.{bit_or, bit_xor}
use Rattle.words.specs.Agree.{Agrees}
use Rattle.words.specs.Bits.{bit}
use Rattle.words.specs.inner.Words.{over}
use Rattle.words.specs.laws.Agree.{agrees_of_within, lo_within, within_hi, within_div, within_mod, within_join}
use Rattle.words.specs.laws.Bits.{bit_lt, bit_of_or, bit_of_xor, bit_cut}
use Rattle.words.specs.laws.Carry.{carry, carry_lt, carry_low, bit_sum}
use Rattle.words.specs.laws.Narrow.{over_div, over_mod}
use Rattle.fixed.specs.declared.Pair.{Pair}
use Rattle.fixed.specs.Fixed.{free_of, free_in, carries, unlike, SameForAll}
use Rattle.fixed.specs.inner.Pairs.{Ordered, Agreeing}
use Rattle.fixed.specs.laws.Sound.{bit_carries, lo_agrees, hi_agrees}

pub xor_same : (j a b : ℕ) → bit j a ≡ bit j b → bit j (bit_xor a b) ≡ 0
xor_same j a b e = bit_of_xor j a b ∙ twice (bit j a) (bit j b) e
  where
    twice : (a b : ℕ) → a ≡ b → (a + b) % 2 ≡ 0
    twice a b e = omega arith

-- of two values that agree, the high bits of one over the low bits of the other
pub mixed_agrees : (k : ℕ) {lo hi a c : ℕ} → Agrees lo hi a → Agrees lo hi c → Agrees lo hi (over k a (c % 2 ^ k))
mixed_agrees k {lo} {hi} {a} {c} f g =
    let l : c % 2 ^ k < 2 ^ k = mod-lt c (pow_pos k) in
    agrees_of_within
    (within_join k lo (over k a (c % 2 ^ k)) (rw (over_div k a (c % 2 ^ k) l) (within_div k (lo_within f))) (rw (over_mod k a (c % 2 ^ k) l) (within_mod k (lo_within g))))
    (within_join k (over k a (c % 2 ^ k)) hi (rw (over_div k a (c % 2 ^ k) l) (within_div k (within_hi f))) (rw (over_mod k a (c % 2 ^ k) l) (within_mod k (within_hi g))))

-- hi from place j on and lo below: it agrees, carries what lo does into j, and has hi's bit there
abbrev mixed : ℕ → Pair → ℕ
mixed j p = over j p.hi (p.lo % 2 ^ j)

mixed_low : (j : ℕ) (p : Pair) → mixed j p % 2 ^ j ≡ p.lo % 2 ^ j
mixed_low j p = over_mod j p.hi (p.lo % 2 ^ j) (mod-lt p.lo (pow_pos j))

mixed_bit : (j : ℕ) (p : Pair) → bit j (mixed j p) ≡ bit j p.hi
unfolding bit
mixed_bit j p = ap (λ (n : ℕ). n % 2) (over_div j p.hi (p.lo % 2 ^ j) (mod-lt p.lo (pow_pos j)))

mixed_in : (j : ℕ) (p : Pair) → Ordered p → Agreeing p (mixed j p)
mixed_in j p o = mixed_agrees j (hi_agrees o) (lo_agrees o)

-- of two sums with the rest alike, what differs in one place
flips : (s t n b : ℕ) → s < 2 → t < 2 → (s + n) % 2 ≡ b → (t + n) % 2 ≡ b → s ≡ t
flips s t n b hs ht e f = omega arith

at : (w : ℕ) (p q : Pair) (j b x y : ℕ) → j < w → SameForAll w p q j b → Agreeing p x → Agreeing q y → (bit j x + bit j y + carry j x y) % 2 ≡ b
at w p q j b x y h same a c = sym (bit_sum j x y) ∙ sym (bit_cut j (x + y) w h) ∙ same x y a c

-- with the other operand held, an operand's bit cannot change
same_bit : (w : ℕ) (p q : Pair) (j b : ℕ) → Ordered p → Ordered q → j < w → SameForAll w p q j b → bit j p.lo ≡ bit j p.hi
same_bit w p q j b o n h same =
    let l = at w p q j b p.lo q.lo h same (lo_agrees o) (lo_agrees n) in
    let m = at w p q j b (mixed j p) q.lo h same (mixed_in j p o) (lo_agrees n) in
    let c = carry_low j (mixed j p) q.lo p.lo q.lo (mixed_low j p) refl in
    flips (bit j p.lo) (bit j p.hi) (bit j q.lo + carry j p.lo q.lo) b (bit_lt j p.lo) (bit_lt j p.hi) (omega arith) (omega (arith, mixed_bit j p))

module _ (w : ℕ) (p q : Pair) (j b : ℕ) (o : Ordered p) (n : Ordered q) (h : j < w) (same : SameForAll w p q j b) where
  same_p : bit j p.lo ≡ bit j p.hi
  same_p = same_bit w p q j b o n h same

  same_q : bit j q.lo ≡ bit j q.hi
  same_q = same_bit w q p j b n o h (λ y x c a. ap (λ (m : ℕ). bit j (m % 2 ^ w)) (add_comm y x) ∙ same x y a c)

  same_carry : carry j p.lo q.lo ≡ carry j p.hi q.hi
  same_carry =
      let l = at w p q j b p.lo q.lo h same (lo_agrees o) (lo_agrees n) in
      let g = at w p q j b p.hi q.hi h same (hi_agrees o) (hi_agrees n) in
      flips (carry j p.lo q.lo) (carry j p.hi q.hi) (bit j p.lo + bit j q.lo) b (carry_lt j p.lo q.lo) (carry_lt j p.hi q.hi) (omega arith) (omega (arith, same_p, same_q))

  pub settled : bit j (bit_or (free_in p q) (unlike w p q)) ≡ 0
  settled =
      bit_of_or j (free_in p q) (unlike w p q)
      ∙ ap₂ max (bit_of_or j (free_of p) (free_of q) ∙ ap₂ max (xor_same j p.lo p.hi same_p) (xor_same j q.lo q.hi same_q))
      (xor_same j (carries w p.lo q.lo) (carries w p.hi q.hi)
      (bit_carries j w p.lo q.lo h ∙ same_carry ∙ sym (bit_carries j w p.hi q.hi h)))
