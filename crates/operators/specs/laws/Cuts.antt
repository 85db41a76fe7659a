-- What the word operations come to, over the width w of the node and the width W of a machine word.
use Rattle.std.specs.Prelude.{◌≡◌, ℕ, ◌+◌, ◌-◌, ◌%◌, ◌^◌, ◌<◌, ◌≤◌}
use Rattle.std.proofs.Common.{sym, ap, ◌∙◌, arith, pow_pos}
use Rattle.std.proofs.Math.Nat.{sub-zero}
use Rattle.std.proofs.Math.Pow.{not_mod}
use Rattle.words.specs.laws.Modular.{cut_cut}

-- a word that was computed modulo 2^W, cut to fewer bits
pub recut : (r n W w : ℕ) → r ≡ n % 2 ^ W → w ≤ W → r % 2 ^ w ≡ n % 2 ^ w
recut r n W w e h = ap (λ (x : ℕ). x % 2 ^ w) e ∙ cut_cut n W w h

-- the complement of a word, cut to fewer bits
pub flipped : (a w W : ℕ) → w ≤ W → a < 2 ^ w → ((2 ^ W - 1) - a) % 2 ^ w ≡ (2 ^ w - 1) - a
flipped a w W h l =
    let e : (W - w) + w ≡ W = omega arith in
    ap (λ (n : ℕ). ((2 ^ n - 1) - a) % 2 ^ w) (sym e) ∙ not_mod (W - w) w l

pub ones_cut : (w W : ℕ) → w ≤ W → (2 ^ W - 1) % 2 ^ w ≡ 2 ^ w - 1
ones_cut w W h = ap (λ (n : ℕ). n % 2 ^ w) (sym (sub-zero (2 ^ W - 1))) ∙ flipped 0 w W h (pow_pos w) ∙ sub-zero (2 ^ w - 1)
