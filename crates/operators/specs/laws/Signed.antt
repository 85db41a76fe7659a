-- Laws of signed words: the signed order is that of the words with their signs turned over; an arithmetic shift keeps the sign and goes with the
-- complement. All at any width of at least 1.
use Rattle.std.specs.Prelude.{◌≡◌, ℕ, zero, suc, ◌+◌, ◌-◌, ◌*◌, ◌/◌, ◌%◌, ◌^◌, ◌<◌, ◌≤◌, ◌⊎◌, nat_lt}
use Rattle.std.proofs.Common.{sym, ap, ap₂, ◌∙◌, inl, inr, ⊎_elim, le_refl, le_trans, lt_of_le_of_lt, lt_of_lt_of_le, mod-eq_of_lt, one-mul, zero-mul, pow-suc, arith, pow_mono, lt-ltb, le-ltb}
use Rattle.std.proofs.Math.Nat.{add-mod_right, div-eq_of_lt-le}
use Rattle.std.proofs.Math.Arith.{sub-sub_self}
use Rattle.std.proofs.lemmas.Nat.{shr_le}
use Rattle.std.proofs.Math.Pow.{high_ones, le_ones, ones_sub-lt}
use Rattle.words.specs.Bits.{bit}
use Rattle.words.specs.laws.Bits.{bit_high, lt_or_ge}
use Rattle.operators.specs.Meaning.{choose, sign, by_signs, signed_less, signed_shift, extended}

-- ---- the sign

-- the words of w bits are twice those of a bit less
pub halves : (w : ℕ) → 1 ≤ w → 2 ^ w ≡ 2 ^ (w - 1) * 2
halves w h = let e : w ≡ suc (w - 1) = omega arith in ap (λ (n : ℕ). 2 ^ n) e ∙ pow-suc 2 (w - 1)

pub sign_clear : (w : ℕ) {x : ℕ} → x < 2 ^ (w - 1) → sign w x ≡ 0
sign_clear w {x} h = bit_high (w - 1) x (w - 1) h (le_refl (w - 1))

-- what is above the other bits
pub top_one : (w : ℕ) {x : ℕ} → 1 ≤ w → 2 ^ (w - 1) ≤ x → x < 2 ^ w → x / 2 ^ (w - 1) ≡ 1
top_one w {x} h l u = let e = halves w h in div-eq_of_lt-le {k = 1} (2 ^ (w - 1)) (omega arith) (omega arith)

pub sign_set : (w : ℕ) {x : ℕ} → 1 ≤ w → 2 ^ (w - 1) ≤ x → x < 2 ^ w → sign w x ≡ 1
unfolding bit
sign_set w h l u = ap (λ (n : ℕ). n % 2) (top_one w h l u)

-- ---- the order

-- x with its sign turned over: as code has the order
abbrev pub turned : ℕ → ℕ → ℕ
turned w x = (x + 2 ^ (w - 1)) % 2 ^ w

-- a word and itself turned over, where its sign is clear or set
pub record Low (w x : ℕ) : Type 0 where
  pub small : x < 2 ^ (w - 1)
  pub is : turned w x ≡ x + 2 ^ (w - 1)

pub record High (w x : ℕ) : Type 0 where
  pub large : 2 ^ (w - 1) ≤ x
  pub is : turned w x + 2 ^ (w - 1) ≡ x

pub low_of : (w : ℕ) {x : ℕ} → 1 ≤ w → x < 2 ^ (w - 1) → Low w x
low_of w {x} h l = record { small = l; is = mod-eq_of_lt (let e = halves w h in omega arith) }

pub high_of : (w : ℕ) {x : ℕ} → 1 ≤ w → 2 ^ (w - 1) ≤ x → x < 2 ^ w → High w x
high_of w {x} h l u =
    let e = halves w h in
    let d : x + 2 ^ (w - 1) ≡ x - 2 ^ (w - 1) + 2 ^ w = omega arith in
    let f : turned w x ≡ x - 2 ^ (w - 1) = ap (λ (n : ℕ). n % 2 ^ w) d ∙ add-mod_right (x - 2 ^ (w - 1)) (2 ^ w) ∙ mod-eq_of_lt (omega arith) in
    record { large = l; is = omega arith }

pub low_or_high : (w : ℕ) {x : ℕ} → 1 ≤ w → x < 2 ^ w → Low w x ⊎ High w x
low_or_high w {x} h u = ⊎_elim (λ l. inl (low_of w h l)) (λ l. inr (high_of w h l u)) (lt_or_ge x (2 ^ (w - 1)))

-- the test, by the signs
signed_is : (w x y : ℕ) {p q : ℕ} → sign w x ≡ p → sign w y ≡ q → signed_less w x y ≡ by_signs p q (nat_lt x y)
signed_is w x y e f = ap₂ (λ (p q : ℕ). by_signs p q (nat_lt x y)) e f

same_test : (a b c d : ℕ) → (a < b → c < d) → (b ≤ a → d ≤ c) → nat_lt a b ≡ nat_lt c d
same_test a b c d f g = ⊎_elim (λ (h : a < b). lt-ltb a b h ∙ sym (lt-ltb c d (f h))) (λ (h : b ≤ a). le-ltb a b h ∙ sym (le-ltb c d (g h))) (lt_or_ge a b)

pub signed_order : (w x y : ℕ) → 1 ≤ w → x < 2 ^ w → y < 2 ^ w → signed_less w x y ≡ nat_lt (turned w x) (turned w y)
signed_order w x y h hx hy = go (low_or_high w h hx) (low_or_high w h hy)
  where
    e : 2 ^ w ≡ 2 ^ (w - 1) * 2
    e = halves w h

    go : Low w x ⊎ High w x → Low w y ⊎ High w y → signed_less w x y ≡ nat_lt (turned w x) (turned w y)
    go (inl a) (inl b) =
        signed_is w x y (sign_clear w a.small) (sign_clear w b.small) ∙ same_test x y (turned w x) (turned w y) (λ l. omega (arith, a.is, b.is)) (λ l. omega (arith, a.is, b.is))
    go (inl a) (inr b) =
        signed_is w x y (sign_clear w a.small) (sign_set w h b.large hy) ∙ sym (le-ltb (turned w x) (turned w y) (omega (arith, a.is, b.is, e)))
    go (inr a) (inl b) =
        signed_is w x y (sign_set w h a.large hx) (sign_clear w b.small) ∙ sym (lt-ltb (turned w x) (turned w y) (omega (arith, a.is, b.is, e)))
    go (inr a) (inr b) =
        signed_is w x y (sign_set w h a.large hx) (sign_set w h b.large hy) ∙ same_test x y (turned w x) (turned w y) (λ l. omega (arith, a.is, b.is)) (λ l. omega (arith, a.is, b.is))

-- ---- arithmetic shifts

pub ashr_low : (w y : ℕ) {x : ℕ} → x < 2 ^ (w - 1) → signed_shift w x y ≡ x / 2 ^ y
ashr_low w y {x} l = ap (λ (s : ℕ). choose s ((2 ^ w - 1) - ((2 ^ w - 1) - x) / 2 ^ y) (x / 2 ^ y)) (sign_clear w l)

pub ashr_high : (w y : ℕ) {x : ℕ} → 1 ≤ w → 2 ^ (w - 1) ≤ x → x < 2 ^ w → signed_shift w x y ≡ (2 ^ w - 1) - ((2 ^ w - 1) - x) / 2 ^ y
ashr_high w y {x} h l u = ap (λ (s : ℕ). choose s ((2 ^ w - 1) - ((2 ^ w - 1) - x) / 2 ^ y) (x / 2 ^ y)) (sign_set w h l u)

-- the complement of a word with a clear sign has it set, and the other way round
pub not_low : (w : ℕ) {x : ℕ} → 1 ≤ w → x < 2 ^ (w - 1) → 2 ^ (w - 1) ≤ (2 ^ w - 1) - x
not_low w h l = let e = halves w h in omega arith

pub not_high : (w : ℕ) {x : ℕ} → 1 ≤ w → 2 ^ (w - 1) ≤ x → x < 2 ^ w → (2 ^ w - 1) - x < 2 ^ (w - 1)
not_high w h l u = let e = halves w h in omega arith

-- the shift of a complement is the complement of the shift
pub ashr_not : (w x y : ℕ) → 1 ≤ w → x < 2 ^ w → signed_shift w ((2 ^ w - 1) - x) y ≡ (2 ^ w - 1) - signed_shift w x y
ashr_not w x y h u =
    ⊎_elim
    (λ (l : x < 2 ^ (w - 1)).
    ashr_high w y h (not_low w h l) (ones_sub-lt w x) ∙ ap (λ (n : ℕ). (2 ^ w - 1) - n / 2 ^ y) (sub-sub_self (le_ones w u))
    ∙ ap (λ (n : ℕ). (2 ^ w - 1) - n) (sym (ashr_low w y l)))
    (λ (l : 2 ^ (w - 1) ≤ x).
    ashr_low w y (not_high w h l u)
    ∙ sym (ap (λ (n : ℕ). (2 ^ w - 1) - n) (ashr_high w y h l u) ∙ sub-sub_self (le_trans (shr_le ((2 ^ w - 1) - x) y) (le_ones w (ones_sub-lt w x)))))
    (lt_or_ge x (2 ^ (w - 1)))

-- it keeps the sign
pub ashr_keeps : (w y : ℕ) {x : ℕ} → 1 ≤ w → x < 2 ^ w → signed_shift w x y < 2 ^ (w - 1) → x < 2 ^ (w - 1)
ashr_keeps w y {x} h u s =
    ⊎_elim (λ (l : x < 2 ^ (w - 1)). l)
    (λ (l : 2 ^ (w - 1) ≤ x).
    let k : ((2 ^ w - 1) - x) / 2 ^ y < 2 ^ (w - 1) = lt_of_le_of_lt (shr_le ((2 ^ w - 1) - x) y) (not_high w h l u) in
    absurd (over (signed_shift w x y) (((2 ^ w - 1) - x) / 2 ^ y) (ashr_high w y h l u) k s))
    (lt_or_ge x (2 ^ (w - 1)))
  where
    over : (a q : ℕ) → a ≡ (2 ^ w - 1) - q → q < 2 ^ (w - 1) → a < 2 ^ (w - 1) → ⊥
    over a q e k s = let d = halves w h in omega arith

-- a word with its sign set has a bit
pub some_bit : (w : ℕ) {x : ℕ} → 2 ^ (w - 1) ≤ x → x < 2 ^ w → 1 ≤ w
some_bit zero l u = absurd (omega arith)
some_bit (suc w) l u = omega arith

pub ashr_lt : (w x y : ℕ) → x < 2 ^ w → signed_shift w x y < 2 ^ w
ashr_lt w x y u =
    ⊎_elim (λ (l : x < 2 ^ (w - 1)). rw (ashr_low w y l) (lt_of_le_of_lt (shr_le x y) u)) (λ (l : 2 ^ (w - 1) ≤ x). rw (ashr_high w y (some_bit w l u) l u) (ones_sub-lt w (((2 ^ w - 1) - x) / 2 ^ y)))
    (lt_or_ge x (2 ^ (w - 1)))

-- ---- sign extension

pub extended_low : (wa w : ℕ) {x : ℕ} → x < 2 ^ (wa - 1) → extended wa w x ≡ x
extended_low wa w {x} l =
    ap (λ (s : ℕ). s * (2 ^ (w - wa) - 1) * 2 ^ wa + x) (sign_clear wa l)
    ∙ ap (λ (n : ℕ). n * 2 ^ wa + x) (zero-mul (2 ^ (w - wa) - 1)) ∙ ap (λ (n : ℕ). n + x) (zero-mul (2 ^ wa)) ∙ omega arith

-- ones from wa to w
pub extended_high : (wa w : ℕ) {x : ℕ} → 1 ≤ wa → wa ≤ w → 2 ^ (wa - 1) ≤ x → x < 2 ^ wa → extended wa w x ≡ x + (2 ^ w - 2 ^ wa)
extended_high wa w {x} h k l u =
    let e : w - wa + wa ≡ w = omega arith in
    let o : (2 ^ (w - wa) - 1) * 2 ^ wa ≡ 2 ^ w - 2 ^ wa = sym (high_ones (w - wa) wa) ∙ ap (λ (n : ℕ). 2 ^ n - 2 ^ wa) e in
    ap (λ (s : ℕ). s * (2 ^ (w - wa) - 1) * 2 ^ wa + x) (sign_set wa h l u)
    ∙ ap (λ (n : ℕ). n * 2 ^ wa + x) (one-mul (2 ^ (w - wa) - 1)) ∙ ap (λ (n : ℕ). n + x) o ∙ omega arith

pub extended_lt : (wa w : ℕ) {x : ℕ} → 1 ≤ wa → wa ≤ w → x < 2 ^ wa → extended wa w x < 2 ^ w
extended_lt wa w {x} h k u =
    ⊎_elim (λ (l : x < 2 ^ (wa - 1)). rw (extended_low wa w l) (lt_of_lt_of_le u (pow_mono k)))
    (λ (l : 2 ^ (wa - 1) ≤ x). rw (extended_high wa w h k l u) (omega (arith, pow_mono k))) (lt_or_ge x (2 ^ (wa - 1)))
