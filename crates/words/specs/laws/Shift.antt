-- Words shifted within a word of W bits: what is kept, what is lost, and words joined by a shift. All at any width.
use Rattle.std.specs.Prelude.{◌≡◌, ℕ, ◌+◌, ◌-◌, ◌*◌, ◌/◌, ◌%◌, ◌^◌, ◌<◌, ◌≤◌, bit_or}
use Rattle.std.proofs.Common.{sym, ap, ◌∙◌, mod-eq_of_lt, one-mul, mul_assoc, lt_of_lt_of_le, arith, pow-add, pow_mono, shl_exact}
use Rattle.std.proofs.Math.Nat.{mul-mod_left, div-eq_of_lt}
use Rattle.std.proofs.lemmas.Nat.{or_shifted, shl-shr}
use Rattle.std.proofs.Math.Pow.{pow-lt, field}

pub one_shl : (k w : ℕ) → k < w → 1 * 2 ^ k % 2 ^ w ≡ 2 ^ k
one_shl k w h = ap (λ (n : ℕ). n % 2 ^ w) (one-mul (2 ^ k)) ∙ mod-eq_of_lt (pow-lt h)

-- shifted to the left and back, a word of W bits keeps its w low bits
pub there_and_back : (x W w : ℕ) → w ≤ W → x * 2 ^ (W - w) % 2 ^ W / 2 ^ (W - w) ≡ x % 2 ^ w
there_and_back x W w h =
    let e : W ≡ w + (W - w) = omega arith in
    ap (λ (n : ℕ). x * 2 ^ (W - w) % 2 ^ n / 2 ^ (W - w)) e ∙ field (x * 2 ^ (W - w)) w (W - w)
    ∙ ap (λ (n : ℕ). n % 2 ^ w) (shl-shr x (W - w))

-- all is shifted out to the left
pub out_left : (a b w : ℕ) → w ≤ b → 0 ≡ (a * 2 ^ b) % 2 ^ w
out_left a b w h =
    let e : b ≡ (b - w) + w = omega arith in
    sym (ap (λ (n : ℕ). (a * 2 ^ n) % 2 ^ w) e ∙ ap (λ (x : ℕ). (a * x) % 2 ^ w) (pow-add 2 (b - w) w)
    ∙ ap (λ (x : ℕ). x % 2 ^ w) (sym (mul_assoc a (2 ^ (b - w)) (2 ^ w))) ∙ mul-mod_left (a * 2 ^ (b - w)) (2 ^ w))

-- all is shifted out to the right
pub out_right : (a b w : ℕ) → a < 2 ^ w → w ≤ b → 0 ≡ a / 2 ^ b
out_right a b w ha h = sym (div-eq_of_lt (lt_of_lt_of_le ha (pow_mono h)))

-- high bits over k low ones, in a word of W
pub join_law : (a b k W : ℕ) → k ≤ W → b < 2 ^ k → a < 2 ^ (W - k) → bit_or ((a * 2 ^ k) % 2 ^ W) b ≡ a * 2 ^ k + b
join_law a b k W hk hb ha =
    let e : (W - k) + k ≤ W = omega arith in
    ap (λ (x : ℕ). bit_or x b) (shl_exact (W - k) k W ha e) ∙ or_shifted a k b hb
