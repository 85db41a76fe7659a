-- Concat and extract: the parts of a joined word, and the ternary word that has given bits.
use Rattle.std.proofs.Common.{◌≡◌, ℕ, zero, suc, ◌+◌, ◌-◌, ◌*◌, ◌/◌, ◌%◌, ◌^◌, ◌<◌, ◌≤◌, sym, ap, ◌∙◌, ⊎_elim, zero-le, le_of_eq, le_refl, lt_of_lt_of_le, mod-eq_of_lt, arith, pow_mono, shl_lt, shl_exact}
use lib.Pow.{split, high, low, ones_sub-lt}
use Rattle.words.specs.Bits.{bit}
use Rattle.words.specs.laws.Bits.{bit_lt, bit_ext, bit_cut, bit_cut_high, bit_shr, bit_shl, bit_shl_low, bit_high, bit_not, split_at, lt_or_ge}
use Rattle.words.specs.Agree.{Agrees}
use Rattle.words.specs.laws.Agree.{agrees_lt}
use Rattle.boxes.specs.declared.Set.{Set}
use Rattle.boxes.specs.inner.Boxes.{Solves, SomeAgreeing}
use Rattle.picking.specs.inner.Asks.{joint, side_of, part_of, Joined}
use Rattle.picking.proofs.BitwiseLaws.{cut_not}
use Rattle.boxes.specs.laws.Solves.{solves_by}

-- ---- concat: each part of t stands at its position

module _ (i a b : ℕ) (two : i < 2) where
  join_parts : (v s t : ℕ) → v < 2 ^ side_of i a b → s < 2 ^ side_of (1 - i) a b → (joint i v s).a * 2 ^ b + (joint i v s).b ≡ t
      → (v ≡ part_of i b t) × (part_of (1 - i) b t ≡ s)
  join_parts v s t = go i two
    where
      go : (i : ℕ) → i < 2 → v < 2 ^ side_of i a b → s < 2 ^ side_of (1 - i) a b → (joint i v s).a * 2 ^ b + (joint i v s).b ≡ t
          → (v ≡ part_of i b t) × (part_of (1 - i) b t ≡ s)
      go zero h hv hs e = (sym (high v b hs) ∙ ap (λ (n : ℕ). n / 2 ^ b) e, ap (λ (n : ℕ). n % 2 ^ b) (sym e) ∙ low v b hs)
      go (suc zero) h hv hs e = (sym (low s b hv) ∙ ap (λ (n : ℕ). n % 2 ^ b) e, ap (λ (n : ℕ). n / 2 ^ b) (sym e) ∙ high s b hv)
      go (suc (suc i)) h hv hs e = absurd (omega arith)

  parts_join : (v s t : ℕ) → v ≡ part_of i b t → part_of (1 - i) b t ≡ s → (joint i v s).a * 2 ^ b + (joint i v s).b ≡ t
  parts_join v s t = go i two
    where
      go : (i : ℕ) → i < 2 → v ≡ part_of i b t → part_of (1 - i) b t ≡ s → (joint i v s).a * 2 ^ b + (joint i v s).b ≡ t
      go zero h e f = rw (e, ← f) (split t b)
      go (suc zero) h e f = rw (e, ← f) (split t b)
      go (suc (suc i)) h e f = absurd (omega arith)

side_wide : {i a b t : ℕ} → Joined i a b t → side_of i a b ≤ 64
side_wide {i} {a} {b} j = go i
  where
    go : (i : ℕ) → side_of i a b ≤ 64
    go zero = omega (arith, j.wide)
    go (suc i) = omega (arith, j.wide)

pub concat_by : {i a b t : ℕ} {r : Set} (s x y : ℕ) → Joined i a b t → s < 2 ^ side_of (1 - i) a b → x ≡ part_of i b t → y ≡ part_of (1 - i) b t
    → Solves 64 (λ v. (v ≡ x) × (y ≡ s)) r → Solves (side_of i a b) (λ v. (joint i v s).a * 2 ^ b + (joint i v s).b ≡ t) r
concat_by {i} {a} {b} {t} s x y j hs ex ey m =
    solves_by (side_wide j) m (λ v l e. parts_join i a b j.position v s t (e.0 ∙ ex) (sym ey ∙ e.1))
    (λ v l e. let p = join_parts i a b j.position v s t l hs e in (p.0 ∙ sym ex, ey ∙ p.1))

pub some_concat_by : {i a b l h t : ℕ} {r : Set} (x y : ℕ) → Joined i a b t → h < 2 ^ side_of (1 - i) a b → x ≡ part_of i b t → y ≡ part_of (1 - i) b t
    → Solves 64 (λ v. (v ≡ x) × Agrees l h y) r → Solves (side_of i a b) (λ v. SomeAgreeing l h (λ s. (joint i v s).a * 2 ^ b + (joint i v s).b ≡ t)) r
some_concat_by {i} {a} {b} {l} {h} {t} x y j short ex ey m =
    solves_by (side_wide j) m (λ v k e. record { by = y; fits = e.1; gives = parts_join i a b j.position v y t (e.0 ∙ ex) (sym ey) })
    (λ v k e.
    let p = join_parts i a b j.position v e.by t k (agrees_lt (side_of (1 - i) a b) short e.fits) e.gives in
    (p.0 ∙ sym ex, rw (ey ∙ p.1) e.fits))

-- ---- extract: the w bits from k on are t, those below and above are free
module _ (w k t : ℕ) (kw : k + w ≤ 64) (ht : t < 2 ^ w) where
  -- the bits that t lacks
  abbrev n : ℕ
  n = (2 ^ w - 1) - t

  n_lt : n < 2 ^ w
  n_lt = ones_sub-lt w t

  m_lt : n * 2 ^ k < 2 ^ 64
  m_lt = lt_of_lt_of_le (shl_lt w k n_lt) (pow_mono {j = 64} (omega arith))

  abbrev top : ℕ
  top = (2 ^ 64 - 1) - n * 2 ^ k

  at : (j : ℕ) → j < w → bit (k + j) top ≡ bit j t
  at j h = bit_not (k + j) 64 (n * 2 ^ k) m_lt (omega arith) ∙ ap (λ (b : ℕ). 1 - b) (bit_shl j n k ∙ bit_not j w t ht h) ∙ omega (arith, bit_lt j t)

  above : (j : ℕ) → w ≤ j → k + j < 64 → bit (k + j) top ≡ 1
  above j h l = bit_not (k + j) 64 (n * 2 ^ k) m_lt l ∙ ap (λ (b : ℕ). 1 - b) (bit_shl j n k ∙ bit_high j n w n_lt h)

  under : (j : ℕ) → j < k → bit j top ≡ 1
  under j h = bit_not j 64 (n * 2 ^ k) m_lt (omega arith) ∙ ap (λ (b : ℕ). 1 - b) (bit_shl_low j n k h)

  to : (v : ℕ) → Agrees (t * 2 ^ k) top v → v / 2 ^ k % 2 ^ w ≡ t
  to v g = bit_ext (v / 2 ^ k % 2 ^ w) t go
    where
      go : (j : ℕ) → bit j (v / 2 ^ k % 2 ^ w) ≡ bit j t
      go j =
          ⊎_elim
          (λ (l : j < w).
          let lo = g.over (k + j) in
          let hi = g.under (k + j) in
          bit_cut j (v / 2 ^ k) w l ∙ bit_shr j v k ∙ omega (arith, lo, hi, at j l, bit_shl j t k))
          (λ (l : w ≤ j). bit_cut_high j (v / 2 ^ k) w l ∙ sym (bit_high j t w ht l)) (lt_or_ge j w)

  back : (v : ℕ) → v < 2 ^ 64 → v / 2 ^ k % 2 ^ w ≡ t → Agrees (t * 2 ^ k) top v
  back v hv e = record { over = lo; under = hi }
    where
      same : (j : ℕ) → j < w → bit (k + j) v ≡ bit j t
      same j h = sym (bit_shr j v k) ∙ sym (bit_cut j (v / 2 ^ k) w h) ∙ ap (bit j) e

      lo : (j : ℕ) → bit j (t * 2 ^ k) ≤ bit j v
      lo =
          split_at (λ (j : ℕ). bit j (t * 2 ^ k) ≤ bit j v) k (λ j l. rw (bit_shl_low j t k l) zero-le)
          (λ j. rw (bit_shl j t k) (⊎_elim (λ (l : j < w). le_of_eq (sym (same j l))) (λ (l : w ≤ j). rw (bit_high j t w ht l) zero-le) (lt_or_ge j w)))

      hi : (j : ℕ) → bit j v ≤ bit j top
      hi =
          split_at (λ (j : ℕ). bit j v ≤ bit j top) k (λ j l. rw (under j l) (omega (arith, bit_lt j v)))
          (λ j. ⊎_elim (λ (l : j < w). le_of_eq (same j l ∙ sym (at j l)))
          (λ (l : w ≤ j).
          ⊎_elim (λ (q : k + j < 64). rw (above j l q) (omega (arith, bit_lt (k + j) v))) (λ (q : 64 ≤ k + j). rw (bit_high (k + j) v 64 hv q) zero-le) (lt_or_ge (k + j) 64))
          (lt_or_ge j w))

  -- as code makes it
  pub extract_by : {r : Set} (c : ℕ) → c ≡ ((2 ^ 64 - 1) - t) % 2 ^ w → Solves 64 (Agrees (t * 2 ^ k % 2 ^ 64) ((2 ^ 64 - 1) - (c * 2 ^ k % 2 ^ 64))) r
      → Solves 64 (λ v. v / 2 ^ k % 2 ^ w ≡ t) r
  extract_by c ec m =
      let e : c ≡ n = ec ∙ cut_not (record { wide = omega arith; fits = ht }) in
      let f : t * 2 ^ k % 2 ^ 64 ≡ t * 2 ^ k = shl_exact w k 64 ht (omega arith) in
      let g : (2 ^ 64 - 1) - (c * 2 ^ k % 2 ^ 64) ≡ top = ap (λ (a : ℕ). (2 ^ 64 - 1) - (a * 2 ^ k % 2 ^ 64)) e ∙ ap (λ (a : ℕ). (2 ^ 64 - 1) - a) (mod-eq_of_lt m_lt) in
      let s : Solves 64 (Agrees (t * 2 ^ k) top) _ = rw (f, g) at m in
      solves_by (le_refl 64) s (λ v l a. to v a) back
