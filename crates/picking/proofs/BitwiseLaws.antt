-- Not, and, xor: what solves their equations.
use Rattle.std.proofs.Common.{◌≡◌, ℕ, zero, suc, ◌+◌, ◌-◌, ◌%◌, ◌^◌, ◌<◌, ◌≤◌, min, max, ◌⊎◌, sym, refl, ap, ◌∙◌, ap₂, inl, inr, ⊎_elim, zero-le, le_trans, le_of_eq, le_refl, arith}
use native.Mathlib.Nat.{max-le, le-max_right}
use lib.Bits.{bit_and, bit_or, bit_xor, xor_comm}
use lib.Pow.{not_mod}
use Rattle.words.specs.Bits.{bit}
use Rattle.words.specs.laws.Bits.{bit_lt, bit_ext, bit_high, bit_not, bit_of_and, bit_of_or, bit_of_xor, lt_or_ge}
use Rattle.words.specs.Agree.{Agrees, Within}
use Rattle.words.specs.laws.Agree.{within_of_bits, bits_of_within}
use Rattle.boxes.specs.declared.Set.{Set}
use Rattle.boxes.specs.inner.Boxes.{Solves, SomeAgreeing}
use Rattle.picking.specs.inner.Asks.{Sized}
use Rattle.boxes.specs.laws.Solves.{solves_by}

-- the complement of a word, cut to fewer bits
pub cut_not : {w t : ℕ} → Sized w t → ((2 ^ 64 - 1) - t) % 2 ^ w ≡ (2 ^ w - 1) - t
cut_not {w} {t} z =
    let q : 64 - w + w ≡ 64 = omega (arith, z.wide) in
    ap (λ (a : ℕ). ((2 ^ a - 1) - t) % 2 ^ w) (sym q) ∙ not_mod (64 - w) w z.fits

pub not_by : {w t c : ℕ} {r : Set} → Sized w t → c ≡ ((2 ^ 64 - 1) - t) % 2 ^ w → Solves 64 (λ v. v ≡ c) r → Solves w (λ v. (2 ^ w - 1) - v ≡ t) r
not_by {w} {t} z e s =
    let f = e ∙ cut_not z in
    solves_by z.wide s (λ v l m. omega (arith, f, z.fits)) (λ v l m. omega (arith, f, z.fits))

-- ---- and, bit by bit

and_at : {t : ℕ} (v s : ℕ) → bit_and v s ≡ t → (i : ℕ) → min (bit i v) (bit i s) ≡ bit i t
and_at v s e i = sym (bit_of_and i v s) ∙ ap (bit i) e

-- t has only bits that the other can have
pub and_none : (l h t : ℕ) → (bit_and t h ≡ t → ⊥) → (v : ℕ) → SomeAgreeing l h (λ s. bit_and v s ≡ t) → ⊥
and_none l h t f v m =
    f (within_of_bits t h (λ i. let k = and_at v m.by m.gives i in le_trans (omega arith) (m.fits.under i))).is

module _ (l h t : ℕ) (o : Within l h) (hl : l < 2 ^ 64) where
  up : (i : ℕ) → i < 64 → bit i (bit_or t ((2 ^ 64 - 1) - l)) ≡ max (bit i t) (1 - bit i l)
  up i b = bit_of_or i t ((2 ^ 64 - 1) - l) ∙ ap (λ (b : ℕ). max (bit i t) b) (bit_not i 64 l hl b)

  -- the other may have the bits of t and those that it must have
  to : bit_and t h ≡ t → (v : ℕ) → v < 2 ^ 64 → Agrees t (bit_or t ((2 ^ 64 - 1) - l)) v → SomeAgreeing l h (λ s. bit_and v s ≡ t)
  to e v b g = record {
    by = bit_or t l;
    fits = record {
      over = λ i. rw (bit_of_or i t l) (le-max_right (bit i t) (bit i l));
      under = λ i. rw (bit_of_or i t l) (max-le (bits_of_within (record { is = e }) i) (bits_of_within o i));
    };
    gives = bit_ext (bit_and v (bit_or t l)) t
        (λ i. bit_of_and i v (bit_or t l) ∙ ap (min (bit i v)) (bit_of_or i t l) ∙ ⊎_elim (λ (k : i < 64). low i k) (λ (k : 64 ≤ i). omega (arith, g.over i, bit_high i v 64 b k)) (lt_or_ge i 64));
  }
    where
      one : (a b c : ℕ) → a ≤ b → b ≤ max a (1 - c) → b < 2 → c < 2 → min b (max a c) ≡ a
      one a b c p q x y = omega arith

      low : (i : ℕ) → i < 64 → min (bit i v) (max (bit i t) (bit i l)) ≡ bit i t
      low i k = one (bit i t) (bit i v) (bit i l) (g.over i) (le_trans (g.under i) (le_of_eq (up i k))) (bit_lt i v) (bit_lt i l)

  back : (v : ℕ) → v < 2 ^ 64 → SomeAgreeing l h (λ s. bit_and v s ≡ t) → Agrees t (bit_or t ((2 ^ 64 - 1) - l)) v
  back v b m = record {
    over = λ i. let k = and_at v m.by m.gives i in omega arith;
    under = λ i. ⊎_elim (λ (k : i < 64). rw (up i k) (one (bit i v) (bit i m.by) (bit i t) (bit i l) (and_at v m.by m.gives i) (m.fits.over i) (bit_lt i v) (bit_lt i m.by))) (λ (k : 64 ≤ i). rw (bit_high i v 64 b k) zero-le) (lt_or_ge i 64);
  }
    where
      one : (b s a l : ℕ) → min b s ≡ a → l ≤ s → b < 2 → s < 2 → b ≤ max a (1 - l)
      one b s a l m k x y = omega arith

  pub some_and_by : {r : Set} → bit_and t h ≡ t → Solves 64 (Agrees t (bit_or t ((2 ^ 64 - 1) - l))) r → Solves 64 (λ v. SomeAgreeing l h (λ s. bit_and v s ≡ t)) r
  some_and_by e z = solves_by (le_refl 64) z (to e) back

-- ---- xor undoes itself

pub xor_back : (a b : ℕ) → bit_xor (bit_xor a b) b ≡ a
xor_back a b =
    bit_ext (bit_xor (bit_xor a b) b) a
    (λ i. bit_of_xor i (bit_xor a b) b ∙ ap (λ (n : ℕ). (n + bit i b) % 2) (bit_of_xor i a b) ∙ one (bit i a) (bit i b) (bit_lt i a) (bit_lt i b))
  where
    one : (x y : ℕ) → x < 2 → y < 2 → ((x + y) % 2 + y) % 2 ≡ x
    one x y hx hy = omega arith

-- t, xored with a pair: free where that is
module _ (l h t : ℕ) (o : Within l h) where
  abbrev least : ℕ
  least = bit_and (bit_xor t l) (bit_xor t h)

  abbrev most : ℕ
  most = bit_or (bit_xor t l) (bit_xor t h)

  least_at : (i : ℕ) → bit i least ≡ min ((bit i t + bit i l) % 2) ((bit i t + bit i h) % 2)
  least_at i = bit_of_and i (bit_xor t l) (bit_xor t h) ∙ ap₂ min (bit_of_xor i t l) (bit_of_xor i t h)

  most_at : (i : ℕ) → bit i most ≡ max ((bit i t + bit i l) % 2) ((bit i t + bit i h) % 2)
  most_at i = bit_of_or i (bit_xor t l) (bit_xor t h) ∙ ap₂ max (bit_of_xor i t l) (bit_of_xor i t h)

  -- of one bit: where the pair's two bits are the same, and where they are apart
  apart_or_same : (l h : ℕ) → l ≤ h → h < 2 → (l ≡ h) ⊎ ((l ≡ 0) × (h ≡ 1))
  apart_or_same zero zero a b = inl refl
  apart_or_same zero (suc h) a b = inr (refl, omega arith)
  apart_or_same (suc l) h a b = inl (omega arith)

  one_to : (t l h v : ℕ) → t < 2 → h < 2 → v < 2 → (l ≡ h) ⊎ ((l ≡ 0) × (h ≡ 1)) → min ((t + l) % 2) ((t + h) % 2) ≤ v → v ≤ max ((t + l) % 2) ((t + h) % 2)
      → (l ≤ (t + v) % 2) × ((t + v) % 2 ≤ h)
  one_to t l h v a b c (inl e) p q = let k : v ≡ (t + l) % 2 = omega arith in (omega arith, omega arith)
  one_to t l h v a b c (inr e) p q = (rw e.0 zero-le, rw e.1 (omega arith))

  one_back : (t l h s : ℕ) → t < 2 → (l ≡ h) ⊎ ((l ≡ 0) × (h ≡ 1)) → l ≤ s → s ≤ h
      → (min ((t + l) % 2) ((t + h) % 2) ≤ (t + s) % 2) × ((t + s) % 2 ≤ max ((t + l) % 2) ((t + h) % 2))
  one_back t l h s a (inl e) p q = let k : s ≡ l = omega arith in rw (k, ← e) (omega arith, omega arith)
  one_back t l h s a (inr e) p q = rw (e.0, e.1) (omega arith, omega arith)

  split : (i : ℕ) → (bit i l ≡ bit i h) ⊎ ((bit i l ≡ 0) × (bit i h ≡ 1))
  split i = apart_or_same (bit i l) (bit i h) (bits_of_within o i) (bit_lt i h)

  xor_to : (v : ℕ) → Agrees least most v → Agrees l h (bit_xor t v)
  xor_to v g = record { over = λ i. rw (bit_of_xor i t v) (at i).0; under = λ i. rw (bit_of_xor i t v) (at i).1 }
    where
      at : (i : ℕ) → (bit i l ≤ (bit i t + bit i v) % 2) × ((bit i t + bit i v) % 2 ≤ bit i h)
      at i = one_to (bit i t) (bit i l) (bit i h) (bit i v) (bit_lt i t) (bit_lt i h) (bit_lt i v) (split i) (rw (least_at i) at (g.over i)) (rw (most_at i) at (g.under i))

  xor_from : (s : ℕ) → Agrees l h s → Agrees least most (bit_xor t s)
  xor_from s g = record { over = λ i. rw (least_at i, bit_of_xor i t s) (at i).0; under = λ i. rw (most_at i, bit_of_xor i t s) (at i).1 }
    where
      at : (i : ℕ) → (min ((bit i t + bit i l) % 2) ((bit i t + bit i h) % 2) ≤ (bit i t + bit i s) % 2) × ((bit i t + bit i s) % 2 ≤ max ((bit i t + bit i l) % 2) ((bit i t + bit i h) % 2))
      at i = one_back (bit i t) (bit i l) (bit i h) (bit i s) (bit_lt i t) (split i) (g.over i) (g.under i)

  pub some_xor_by : {r : Set} → Solves 64 (Agrees least most) r → Solves 64 (λ v. SomeAgreeing l h (λ s. bit_xor v s ≡ t)) r
  some_xor_by z =
      solves_by (le_refl 64) z (λ v b g. record { by = bit_xor t v; fits = xor_to v g; gives = xor_comm v (bit_xor t v) ∙ xor_back t v })
      (λ v b m. rw (sym (xor_back v m.by) ∙ ap (λ (n : ℕ). bit_xor n m.by) m.gives) (xor_from m.by m.fits))
