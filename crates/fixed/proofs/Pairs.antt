-- The pairs that the code makes are those of the definitions, from what it was told of their parts.
use Rattle.std.proofs.Common.{◌≡◌, ap, ◌∙◌, ℕ, ◌+◌, ◌-◌, ◌%◌, ◌^◌, ◌≤◌, ◌<◌, min, le_trans, arith, pow_mono}
use lib.Count.{count_trailing_zeros}
use Rattle.words.specs.laws.Zeros.{trailing_min}
use Rattle.operators.specs.inner.Ready.{Used}
use Rattle.operators.specs.laws.Cuts.{recut}
use Rattle.fixed.specs.declared.Pair.{Pair}
use Rattle.fixed.specs.Fixed.{pair, up_to, lowest}
use Rattle.fixed.specs.inner.Pairs.{Ordered}
use Rattle.fixed.specs.laws.Sound.{lowest_le, lo_lt}

-- the zeros among w digits, from those among W
pub fewer : (w W f : ℕ) → w ≤ W → count_trailing_zeros w f ≡ min w (count_trailing_zeros W f)
fewer w W f h =
    let e : w + (W - w) ≡ W = omega arith in
    trailing_min w (W - w) f ∙ ap (λ (n : ℕ). min w (count_trailing_zeros n f)) e

-- low bits l of a word under the ones from k to w: n and m are w and k ones
module _ (w k v l n m : ℕ) (h : k ≤ w) (el : l ≡ v % 2 ^ k) (en : n ≡ 2 ^ w - 1) (em : m ≡ 2 ^ k - 1) where
  pub above_fits : m ≤ n
  above_fits = omega (arith, pow_mono h)

-- a product taken modulo 2^64 has the same low bits
pub low_is : (w : ℕ) (p q r : Pair) (u v : ℕ) → r ≡ up_to w (lowest w p q) u → u ≡ v % 2 ^ 64 → w ≤ 64 → r ≡ up_to w (lowest w p q) v
low_is w p q r u v e f h =
    let k = lowest w p q in
    e ∙ ap (λ (x : ℕ). pair x (x + (2 ^ w - 2 ^ k))) (recut u v 64 k f (le_trans (lowest_le w p q) h))

-- concat's width rule, at lo
pub low_fits : {p q r : Pair} (w wa wb : ℕ) → Used 2 (Ordered p) (Ordered q) (Ordered r) → (wa + wb ≡ w) × (1 ≤ wa) × (p.hi < 2 ^ wa) × (q.hi < 2 ^ wb)
    → (wa + wb ≡ w) × (1 ≤ wa) × (p.lo < 2 ^ wa) × (q.lo < 2 ^ wb)
low_fits w wa wb u f = (f.0, f.1, lo_lt (u.a (omega arith)) f.2, lo_lt (u.b (omega arith)) f.3)
