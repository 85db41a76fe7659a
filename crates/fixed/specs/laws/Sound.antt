-- "For every assignment that agrees with the variables' pairs, every node's value agrees with its own pair", at one node: where the operands'
-- values agree with their pairs, the operator's value agrees with the pair worked out for it. And that pair is a ternary word of the node's width.
use Rattle.std.specs.Prelude.{◌≡◌, refl, Bool, true, false, ◌⊎◌, ℕ, zero, suc, ◌+◌, ◌-◌, ◌*◌, ◌/◌, ◌%◌, ◌^◌, ◌≤◌, ◌<◌, min, max, eqb, leb, ltb}
use Rattle.std.proofs.Common.{sym, ap, ap₂, ◌∙◌, inl, inr, ⊎_elim, zero-le, le_refl, le_trans, le_of_lt, lt_of_lt_of_le, lt_of_le_of_lt, not-le_of_lt, mod-lt, mul-le-mul_right, zero-mul, one-mul, arith, pow_pos, pow_mono, ltb-true, ltb-false, leb-true, eqb-true, lt-ltb, le-ltb, ne_eqb, eq-eqb}
use Rattle.std.proofs.Math.Nat.{div-eq_of_lt}
use Rattle.std.specs.Int.Bits.{bit_and, bit_or, bit_xor, and_lt, xor_self}
use Rattle.std.proofs.lemmas.Nat.{or_lt, xor_lt, trailing_le, shr_le}
use Rattle.std.proofs.Math.Pow.{split, high_ones, ones_lt, ones_sub-lt}
use Rattle.words.specs.Agree.{Within}
use Rattle.words.specs.laws.Agree.{within_of_bits, bits_of_within, agrees_of_within, lo_within, within_hi, within_le, within_refl, within_trans, within_antisym, within_zero, within_ones, within_div, within_mod, within_over, within_shl, within_and_both, within_not, agrees_lt}
use Rattle.words.specs.Bits.{bit}
use Rattle.words.specs.laws.Bits.{bit_lt, bit_of_and, bit_of_or, bit_of_xor, bit_not, bit_shr, bit_high, bit_cut, bit_cut_high, bit_over_low, bit_over_high, ones_bit, same_low, split_at, lt_or_ge, xor_none}
use Rattle.words.specs.laws.Carry.{carry, carry_lt, carry_mono, bit_sum}
use Rattle.words.specs.laws.Modular.{cut_cut, mul_cuts}
use Rattle.words.specs.laws.Narrow.{over_div, over_mod, over_lt}
use Rattle.words.specs.laws.Zeros.{trailing_bit}
use Rattle.operators.specs.Table.{Kind, variable, constant, inv, conj, xor, add, mul, shl, lshr, eq, below, ite, concat, extract, slt, ashr, sext, udiv, shape}
use Rattle.operators.specs.Meaning.{flag, choose, sign, signed_less, signed_shift, extended, quotient, meaning, Fit}
use Rattle.operators.specs.laws.Meaning.{joined_lt}
use Rattle.operators.specs.laws.Division.{quotient_lt}
use Rattle.operators.specs.laws.Signed.{halves, top_one, turned, Low, High, low_or_high, signed_order, ashr_low, ashr_high, some_bit, ashr_lt, extended_lt}
use Rattle.operators.specs.inner.Ready.{Used}
use Rattle.fixed.specs.declared.Pair.{Pair}
use Rattle.fixed.specs.Fixed.{pair, either, branch, free_of, fixed, any_of, known, lowest, up_to, free_in, carries, unlike, sum_pair, apart, told, sign_over, signed_least, signed_most, slt_pair, ashr_pair, sext_pair, udiv_pair, pair_of}
use Rattle.fixed.specs.inner.Pairs.{Ordered, Ternary, Agreeing}

-- lo is no greater than hi, so what bounds hi bounds lo
pub lo_lt : {p : Pair} {m : ℕ} → Ordered p → p.hi < m → p.lo < m
lo_lt o h = lt_of_le_of_lt (within_le o) h

-- ---- everything fixed, and nothing

pub agrees_self : (v : ℕ) → Agreeing (pair v v) v
agrees_self v = agrees_of_within (within_refl v) (within_refl v)

pub agrees_fixed : (p : Pair) (v : ℕ) → fixed p ≡ true → Agreeing p v → v ≡ p.lo
agrees_fixed p v e a = within_antisym (rw (eqb-true p.lo p.hi e) (within_hi a)) (lo_within a)

pub agrees_any : (w v : ℕ) → v < 2 ^ w → Agreeing (any_of w) v
agrees_any w v h = agrees_of_within (within_zero v) (within_ones w h)

agrees_flag : (t : Bool) → Agreeing (pair 0 1) (flag t)
agrees_flag true = agrees_any 1 1 (omega arith)
agrees_flag false = agrees_any 1 0 (omega arith)

agrees_either : (t : Bool) (p q : Pair) (v : ℕ) → (t ≡ true → Agreeing p v) → (t ≡ false → Agreeing q v) → Agreeing (either t p q) v
agrees_either true p q v f g = f refl
agrees_either false p q v f g = g refl

-- ---- some positions free

-- where p is not free, a value that agrees has p's bit
tight : (p : Pair) (x j : ℕ) → Agreeing p x → bit j (free_of p) ≡ 0 → bit j p.lo ≡ bit j x
tight p x j a e = same (bit j p.lo) (bit j x) (bit j p.hi) (a.over j) (a.under j) (bit_lt j p.hi) (sym (bit_of_xor j p.lo p.hi) ∙ e)
  where
    same : (l v h : ℕ) → l ≤ v → v ≤ h → h < 2 → (l + h) % 2 ≡ 0 → l ≡ v
    same l v h a b c e = omega arith

-- a position that is free in neither
pub none_free : (p q : Pair) (j : ℕ) → bit j (bit_or (free_of p) (free_of q)) ≡ 0 → (bit j (free_of p) ≡ 0) × (bit j (free_of q) ≡ 0)
none_free p q j e =
    let f : max (bit j (free_of p)) (bit j (free_of q)) ≡ 0 = sym (bit_of_or j (free_of p) (free_of q)) ∙ e in
    (omega arith, omega arith)

-- known's lo has a bit where v has it and f has not
pub known_lo : (v f j : ℕ) → bit j (known v f).lo ≡ (bit j v + min (bit j v) (bit j f)) % 2
known_lo v f j = bit_of_xor j v (bit_and v f) ∙ ap (λ (n : ℕ). (bit j v + n) % 2) (bit_of_and j v f)

-- a value that has u's bits where f is clear
agrees_known : (u f v : ℕ) → ((j : ℕ) → bit j f ≡ 0 → bit j u ≡ bit j v) → Agreeing (known u f) v
agrees_known u f v h = record { over = λ j. rw (known_lo u f j) (low j); under = λ j. rw (bit_of_or j u f) (high j) }
  where
    low : (j : ℕ) → (bit j u + min (bit j u) (bit j f)) % 2 ≤ bit j v
    low j =
        ⊎_elim (λ (e : bit j f < 1). let s : bit j u ≡ bit j v = h j (omega arith) in omega (arith, bit_lt j u))
        (λ (e : 1 ≤ bit j f). omega (arith, bit_lt j u, bit_lt j f)) (lt_or_ge (bit j f) 1)

    high : (j : ℕ) → bit j v ≤ max (bit j u) (bit j f)
    high j =
        ⊎_elim (λ (e : bit j f < 1). let s : bit j u ≡ bit j v = h j (omega arith) in omega arith)
        (λ (e : 1 ≤ bit j f). omega (arith, bit_lt j v)) (lt_or_ge (bit j f) 1)

pub agrees_apart : (p q : Pair) (x y : ℕ) → Agreeing p x → Agreeing q y → Agreeing (apart p q) (bit_xor x y)
agrees_apart p q x y a b =
    agrees_known (bit_xor p.lo q.lo) (bit_or (free_of p) (free_of q)) (bit_xor x y)
    (λ j e. let n = none_free p q j e in
    bit_of_xor j p.lo q.lo ∙ ap₂ (λ (s t : ℕ). (s + t) % 2) (tight p x j a n.0) (tight q y j b n.1) ∙ sym (bit_of_xor j x y))

-- ---- sums: both operands' bits fixed, and the same carried by the least and the greatest sum

pub bit_carries : (i w x y : ℕ) → i < w → bit i (carries w x y) ≡ carry i x y
bit_carries i w x y h =
    bit_of_xor i ((x + y) % 2 ^ w) (bit_xor x y)
    ∙ ap₂ (λ (a b : ℕ). (a + b) % 2) (bit_cut i (x + y) w h ∙ bit_sum i x y) (bit_of_xor i x y)
    ∙ alone (bit i x) (bit i y) (carry i x y) (carry_lt i x y)
  where
    alone : (a b c : ℕ) → c < 2 → ((a + b + c) % 2 + (a + b) % 2) % 2 ≡ c
    alone a b c h = omega arith

module _ (w : ℕ) (p q : Pair) (x y : ℕ) (a : Agreeing p x) (b : Agreeing q y) where
  -- agreeing values carry what lies between, so the same where the two are the same
  same_carry : (j : ℕ) → j < w → bit j (unlike w p q) ≡ 0 → carry j p.lo q.lo ≡ carry j x y
  same_carry j h e =
      between (carry j p.lo q.lo) (carry j x y) (carry j p.hi q.hi) (carry_lt j p.hi q.hi)
      (carry_mono j (lo_within a) (lo_within b)) (carry_mono j (within_hi a) (within_hi b))
      (sym
      (bit_of_xor j (carries w p.lo q.lo) (carries w p.hi q.hi)
      ∙ ap₂ (λ (s t : ℕ). (s + t) % 2) (bit_carries j w p.lo q.lo h) (bit_carries j w p.hi q.hi h))
      ∙ e)
    where
      between : (l v h : ℕ) → h < 2 → l ≤ v → v ≤ h → (l + h) % 2 ≡ 0 → l ≡ v
      between l v h k m n e = omega arith

  agrees_sum : Agreeing (sum_pair w p q) ((x + y) % 2 ^ w)
  agrees_sum =
      agrees_known ((p.lo + q.lo) % 2 ^ w) (bit_or (free_in p q) (unlike w p q)) ((x + y) % 2 ^ w)
      (λ j e. ⊎_elim (λ (h : j < w). bit_cut j (p.lo + q.lo) w h ∙ settled j h (rw (bit_of_or j (free_in p q) (unlike w p q)) at e) ∙ sym (bit_cut j (x + y) w h))
      (λ (h : w ≤ j). bit_cut_high j (p.lo + q.lo) w h ∙ sym (bit_cut_high j (x + y) w h)) (lt_or_ge j w))
    where
      settled : (j : ℕ) → j < w → max (bit j (free_in p q)) (bit j (unlike w p q)) ≡ 0 → bit j (p.lo + q.lo) ≡ bit j (x + y)
      settled j h e =
          let n = none_free p q j (omega arith) in
          let c = same_carry j h (omega arith) in
          bit_sum j p.lo q.lo ∙ ap₂ (λ (s t : ℕ). (s + t) % 2) (ap₂ (λ (s t : ℕ). s + t) (tight p x j a n.0) (tight q y j b n.1)) c ∙ sym (bit_sum j x y)

-- ---- the low bits fixed

-- up_to's hi: ones over the low k bits
pub up_to_hi : (w k v : ℕ) → k ≤ w → v % 2 ^ k + (2 ^ w - 2 ^ k) ≡ (2 ^ (w - k) - 1) * 2 ^ k + v % 2 ^ k
up_to_hi w k v h =
    let f : w ≡ (w - k) + k = omega arith in
    let g : 2 ^ w - 2 ^ k ≡ (2 ^ (w - k) - 1) * 2 ^ k = ap (λ (m : ℕ). 2 ^ m - 2 ^ k) f ∙ high_ones (w - k) k in
    omega arith

agrees_up_to : (w k u v : ℕ) → k ≤ w → v < 2 ^ w → v % 2 ^ k ≡ u % 2 ^ k → Agreeing (up_to w k u) v
agrees_up_to w k u v l h e = record { over = low; under = rw (up_to_hi w k u l) high }
  where
    low : (j : ℕ) → bit j (u % 2 ^ k) ≤ bit j v
    low j =
        ⊎_elim (λ (i : j < k). rw (← e, bit_cut j v k i) (le_refl (bit j v))) (λ (i : k ≤ j). rw (bit_cut_high j u k i) zero-le) (lt_or_ge j k)

    high : (j : ℕ) → bit j v ≤ bit j ((2 ^ (w - k) - 1) * 2 ^ k + u % 2 ^ k)
    high =
        split_at (λ (j : ℕ). bit j v ≤ bit j ((2 ^ (w - k) - 1) * 2 ^ k + u % 2 ^ k)) k
        (λ j i. rw (bit_over_low j (2 ^ (w - k) - 1) (u % 2 ^ k) k (mod-lt u (pow_pos k)) i, ← e, bit_cut j v k i) (le_refl (bit j v)))
        (λ j. rw (bit_over_high j (2 ^ (w - k) - 1) (u % 2 ^ k) k (mod-lt u (pow_pos k)))
        (⊎_elim (λ (i : j < w - k). rw (ones_bit j (w - k) i) (omega (arith, bit_lt (k + j) v)))
        (λ (i : w - k ≤ j). rw (bit_high (k + j) v w h (omega arith)) zero-le) (lt_or_ge j (w - k))))

pub lowest_le : (w : ℕ) (p q : Pair) → lowest w p q ≤ w
lowest_le w p q = trailing_le w (bit_or (free_of p) (free_of q))

-- below the lowest free position neither operand is free
pub lowest_none : (w : ℕ) (p q : Pair) (j : ℕ) → j < lowest w p q → (bit j (free_of p) ≡ 0) × (bit j (free_of q) ≡ 0)
lowest_none w p q j h = none_free p q j (trailing_bit j w (bit_or (free_of p) (free_of q)) h)

-- for an operation whose low k bits come from its operands' low k bits
agrees_low : (f : ℕ → ℕ → ℕ) → ((a b m : ℕ) → f a b % m ≡ f (a % m) (b % m) % m)
    → (w : ℕ) (p q : Pair) (x y : ℕ) → Agreeing p x → Agreeing q y → Agreeing (up_to w (lowest w p q) (f p.lo q.lo)) (f x y % 2 ^ w)
agrees_low f cuts w p q x y a b =
    let k = lowest w p q in
    let s : x % 2 ^ k ≡ p.lo % 2 ^ k = same_low x p.lo k (λ j h. sym (tight p x j a (lowest_none w p q j h).0)) in
    let t : y % 2 ^ k ≡ q.lo % 2 ^ k = same_low y q.lo k (λ j h. sym (tight q y j b (lowest_none w p q j h).1)) in
    agrees_up_to w k (f p.lo q.lo) (f x y % 2 ^ w) (lowest_le w p q) (mod-lt (f x y) (pow_pos w))
    (cut_cut (f x y) w k (lowest_le w p q) ∙ cuts x y (2 ^ k) ∙ ap₂ (λ (m n : ℕ). f m n % 2 ^ k) s t ∙ sym (cuts p.lo q.lo (2 ^ k)))

-- ---- shifts: an operation that keeps the order of words as sets of bits, by a fixed amount

agrees_shifted : (f : ℕ → ℕ → ℕ) → ((a b s : ℕ) → Within a b → Within (f a s) (f b s))
    → (w : ℕ) (p q : Pair) (x y : ℕ) → Agreeing p x → Agreeing q y → f x y < 2 ^ w
    → Agreeing (either (fixed q) (pair (f p.lo q.lo) (f p.hi q.lo)) (any_of w)) (f x y)
agrees_shifted f keeps w p q x y a b h =
    agrees_either (fixed q) (pair (f p.lo q.lo) (f p.hi q.lo)) (any_of w) (f x y)
    (λ t. rw (agrees_fixed q y t b) (agrees_of_within (keeps p.lo x q.lo (lo_within a)) (keeps x p.hi q.lo (within_hi a))))
    (λ t. agrees_any w (f x y) h)

-- ---- eq, below, if

agrees_eq : (p q : Pair) (x y : ℕ) → Agreeing p x → Agreeing q y → Agreeing (told (apart p q)) (flag (eqb x y))
agrees_eq p q x y a b =
    let s : Agreeing (apart p q) (bit_xor x y) = agrees_apart p q x y a b in
    let lo≤ : (apart p q).lo ≤ bit_xor x y = within_le (lo_within s) in
    let ≤hi : bit_xor x y ≤ (apart p q).hi = within_le (within_hi s) in
    agrees_either (ltb 0 (apart p q).lo) (pair 0 0) (either (eqb (apart p q).hi 0) (pair 1 1) (pair 0 1)) (flag (eqb x y))
    (λ t. let l : 0 < (apart p q).lo = ltb-true 0 (apart p q).lo t in
    rw (ne_eqb x y (λ e. let z : bit_xor x y ≡ 0 = ap (λ (n : ℕ). bit_xor n y) e ∙ xor_self y in omega arith)) (agrees_self 0))
    (λ t. agrees_either (eqb (apart p q).hi 0) (pair 1 1) (pair 0 1) (flag (eqb x y))
    (λ u. let z : (apart p q).hi ≡ 0 = eqb-true (apart p q).hi 0 u in rw (eq-eqb x y (xor_none x y (omega arith))) (agrees_self 1))
    (λ u. agrees_flag (eqb x y)))

agrees_below : (p q : Pair) (x y : ℕ) → Agreeing p x → Agreeing q y
    → Agreeing (either (ltb p.hi q.lo) (pair 1 1) (either (leb q.hi p.lo) (pair 0 0) (pair 0 1))) (flag (ltb x y))
agrees_below p q x y a b =
    let xl : p.lo ≤ x = within_le (lo_within a) in
    let xh : x ≤ p.hi = within_le (within_hi a) in
    let yl : q.lo ≤ y = within_le (lo_within b) in
    let yh : y ≤ q.hi = within_le (within_hi b) in
    agrees_either (ltb p.hi q.lo) (pair 1 1) (either (leb q.hi p.lo) (pair 0 0) (pair 0 1)) (flag (ltb x y))
    (λ t. let l : p.hi < q.lo = ltb-true p.hi q.lo t in rw (lt-ltb x y (omega arith)) (agrees_self 1))
    (λ t. agrees_either (leb q.hi p.lo) (pair 0 0) (pair 0 1) (flag (ltb x y))
    (λ u. let l : q.hi ≤ p.lo = leb-true q.hi p.lo u in rw (le-ltb x y (omega arith)) (agrees_self 0))
    (λ u. agrees_flag (ltb x y)))

agrees_branch : (c : ℕ) (q r : Pair) (y z : ℕ) → Agreeing q y → Agreeing r z → Agreeing (branch c q r) (choose c y z)
agrees_branch zero q r y z b c = c
agrees_branch (suc n) q r y z b c = b

-- a value that agrees with one branch or the other agrees with the bits fixed alike in both
agrees_alike : (c : ℕ) (q r : Pair) (y z : ℕ) → Agreeing q y → Agreeing r z → Agreeing (pair (bit_and q.lo r.lo) (bit_or q.hi r.hi)) (choose c y z)
agrees_alike c q r y z b d = record {
  over = λ j. rw (bit_of_and j q.lo r.lo) (one_of c (λ (v : ℕ). min (bit j q.lo) (bit j r.lo) ≤ bit j v) (omega (arith, b.over j)) (omega (arith, d.over j)));
  under = λ j. rw (bit_of_or j q.hi r.hi) (one_of c (λ (v : ℕ). bit j v ≤ max (bit j q.hi) (bit j r.hi)) (omega (arith, b.under j)) (omega (arith, d.under j)));
}
  where
    one_of : (n : ℕ) (P : ℕ → Type 0) → P y → P z → P (choose n y z)
    one_of zero P f g = g
    one_of (suc n) P f g = f

-- ---- signed below

-- a word turned over, by its sign and its other bits
turned_parts : (w y : ℕ) → 1 ≤ w → y < 2 ^ w → turned w y + y / 2 ^ (w - 1) * 2 ^ (w - 1) ≡ y % 2 ^ (w - 1) + 2 ^ (w - 1)
turned_parts w y h l =
    let e = halves w h in
    let p = split y (w - 1) in
    ⊎_elim (λ (a : Low w y). let q : y / 2 ^ (w - 1) * 2 ^ (w - 1) ≡ 0 = ap (λ (n : ℕ). n * 2 ^ (w - 1)) (div-eq_of_lt a.small) ∙ zero-mul (2 ^ (w - 1)) in omega arith)
    (λ (a : High w y). let q : y / 2 ^ (w - 1) * 2 ^ (w - 1) ≡ 2 ^ (w - 1) = ap (λ (n : ℕ). n * 2 ^ (w - 1)) (top_one w h a.large l) ∙ one-mul (2 ^ (w - 1)) in omega arith)
    (low_or_high w h l)

-- the order by signs and other bits
turned_mono : (w x y : ℕ) → 1 ≤ w → x < 2 ^ w → y < 2 ^ w → y / 2 ^ (w - 1) ≤ x / 2 ^ (w - 1) → x % 2 ^ (w - 1) ≤ y % 2 ^ (w - 1) → turned w x ≤ turned w y
turned_mono w x y h hx hy s l = omega (arith, turned_parts w x h hx, turned_parts w y h hy, mul-le-mul_right (2 ^ (w - 1)) s)

low_lt : (w c : ℕ) → c % 2 ^ (w - 1) < 2 ^ (w - 1)
low_lt w c = mod-lt c (pow_pos (w - 1))

pub sign_over_lt : (w a b : ℕ) → 1 ≤ w → a < 2 ^ w → sign_over w a b < 2 ^ w
sign_over_lt w a b h l = over_lt w (w - 1) a (b % 2 ^ (w - 1)) (omega arith) l (low_lt w b)

module _ (w : ℕ) (p : Pair) (some : 1 ≤ w) (short : p.hi < 2 ^ w) where
  pub least_lt : signed_least w p < 2 ^ w
  least_lt = sign_over_lt w p.hi p.lo some short

  pub most_lt : Ordered p → signed_most w p < 2 ^ w
  most_lt o = sign_over_lt w p.lo p.hi some (lo_lt o short)

  module _ (x : ℕ) (a : Agreeing p x) where
    hx : x < 2 ^ w
    hx = agrees_lt w short a

    pub from_least : turned w (signed_least w p) ≤ turned w x
    from_least =
        turned_mono w (signed_least w p) x some least_lt hx
        (rw (over_div (w - 1) p.hi (p.lo % 2 ^ (w - 1)) (low_lt w p.lo)) (within_le (within_div (w - 1) (within_hi a))))
        (rw (over_mod (w - 1) p.hi (p.lo % 2 ^ (w - 1)) (low_lt w p.lo)) (within_le (within_mod (w - 1) (lo_within a))))

    pub upto_most : Ordered p → turned w x ≤ turned w (signed_most w p)
    upto_most o =
        turned_mono w x (signed_most w p) some hx (most_lt o)
        (rw (over_div (w - 1) p.lo (p.hi % 2 ^ (w - 1)) (low_lt w p.hi)) (within_le (within_div (w - 1) (lo_within a))))
        (rw (over_mod (w - 1) p.lo (p.hi % 2 ^ (w - 1)) (low_lt w p.hi)) (within_le (within_mod (w - 1) (within_hi a))))

pub agrees_slt : (w : ℕ) (p q : Pair) (x y : ℕ) → 1 ≤ w → p.hi < 2 ^ w → q.hi < 2 ^ w → Ordered p → Ordered q → Agreeing p x → Agreeing q y
    → Agreeing (slt_pair w p q) (flag (signed_less w x y))
agrees_slt w p q x y h hp hq o n a b =
    agrees_either (signed_less w (signed_most w p) (signed_least w q)) (pair 1 1) (either (signed_less w (signed_least w p) (signed_most w q)) (pair 0 1) (pair 0 0)) (flag (signed_less w x y))
    (λ t. let l = ltb-true _ _ (sym (signed_order w (signed_most w p) (signed_least w q) h (most_lt w p h hp o) (least_lt w q h hq)) ∙ t) in
    rw (is (lt-ltb _ _ (lt_of_le_of_lt (upto_most w p h hp x a o) (lt_of_lt_of_le l (from_least w q h hq y b))))) (agrees_self 1))
    (λ t. agrees_either (signed_less w (signed_least w p) (signed_most w q)) (pair 0 1) (pair 0 0) (flag (signed_less w x y)) (λ u. agrees_flag (signed_less w x y))
    (λ u. let l = ltb-false _ _ (sym (signed_order w (signed_least w p) (signed_most w q) h (least_lt w p h hp) (most_lt w q h hq n)) ∙ u) in
    rw (is (le-ltb _ _ (le_trans (upto_most w q h hq y b n) (le_trans l (from_least w p h hp x a))))) (agrees_self 0)))
  where
    is : {t : Bool} → ltb (turned w x) (turned w y) ≡ t → signed_less w x y ≡ t
    is e = signed_order w x y h (agrees_lt w hp a) (agrees_lt w hq b) ∙ e

-- ---- arithmetic shifts, which keep the order of words as sets of bits

module _ (w s : ℕ) where
  -- what is filled is at least what lshr fills
  filled : {a : ℕ} → a < 2 ^ w → Within (a / 2 ^ s) ((2 ^ w - 1) - ((2 ^ w - 1) - a) / 2 ^ s)
  filled {a} ha =
      within_of_bits (a / 2 ^ s) ((2 ^ w - 1) - n / 2 ^ s)
      (λ j. ⊎_elim (λ (l : j < w). rw (bit_not j w (n / 2 ^ s) (lt_of_le_of_lt (shr_le n s) (ones_sub-lt w a)) l, bit_shr j n s, bit_shr j a s) (apart (s + j)))
      (λ (l : w ≤ j). rw (bit_shr j a s, bit_high (s + j) a w ha (omega arith)) zero-le) (lt_or_ge j w))
    where
      n : ℕ
      n = (2 ^ w - 1) - a

      apart : (i : ℕ) → bit i a ≤ 1 - bit i n
      apart i =
          ⊎_elim (λ (l : i < w). rw (bit_not i w a ha l) (omega (arith, bit_lt i a))) (λ (l : w ≤ i). rw (bit_high i a w ha l) zero-le) (lt_or_ge i w)

  high_within : {a b : ℕ} → a < 2 ^ w → b < 2 ^ w → Within a b → Within ((2 ^ w - 1) - ((2 ^ w - 1) - a) / 2 ^ s) ((2 ^ w - 1) - ((2 ^ w - 1) - b) / 2 ^ s)
  high_within {a} {b} ha hb h = within_not w (lt b) (lt a) (within_div s (within_not w ha hb h))
    where
      lt : (x : ℕ) → ((2 ^ w - 1) - x) / 2 ^ s < 2 ^ w
      lt x = lt_of_le_of_lt (shr_le ((2 ^ w - 1) - x) s) (ones_sub-lt w x)

  ashr_within : {a b : ℕ} → a < 2 ^ w → b < 2 ^ w → Within a b → Within (signed_shift w a s) (signed_shift w b s)
  ashr_within {a} {b} ha hb h = go (lt_or_ge a (2 ^ (w - 1))) (lt_or_ge b (2 ^ (w - 1)))
    where
      go : (a < 2 ^ (w - 1)) ⊎ (2 ^ (w - 1) ≤ a) → (b < 2 ^ (w - 1)) ⊎ (2 ^ (w - 1) ≤ b) → Within (signed_shift w a s) (signed_shift w b s)
      go (inl l) (inl k) = rw (ashr_low w s l, ashr_low w s k) (within_div s h)
      go (inl l) (inr k) = rw (ashr_low w s l, ashr_high w s (some_bit w k hb) k hb) (within_trans (filled ha) (high_within ha hb h))
      go (inr l) (inl k) = absurd (not-le_of_lt k (le_trans l (within_le h)))
      go (inr l) (inr k) = rw (ashr_high w s (some_bit w l ha) l ha, ashr_high w s (some_bit w k hb) k hb) (high_within ha hb h)

pub agrees_ashr : (w : ℕ) (p q : Pair) (x y : ℕ) → p.hi < 2 ^ w → Agreeing p x → Agreeing q y → Agreeing (ashr_pair w p q) (signed_shift w x y)
agrees_ashr w p q x y hp a b =
    let hx = agrees_lt w hp a in
    agrees_either (fixed q) (pair (signed_shift w p.lo q.lo) (signed_shift w p.hi q.lo)) (any_of w) (signed_shift w x y)
    (λ t. rw (agrees_fixed q y t b) (agrees_of_within (ashr_within w q.lo (lt_of_le_of_lt (within_le (lo_within a)) hx) hx (lo_within a)) (ashr_within w q.lo hx hp (within_hi a))))
    (λ t. agrees_any w (signed_shift w x y) (ashr_lt w x y hx))

-- ---- sign extension

extended_within : (wa w : ℕ) {a b : ℕ} → 1 ≤ wa → a < 2 ^ wa → b < 2 ^ wa → Within a b → Within (extended wa w a) (extended wa w b)
extended_within wa w {a} {b} h ha hb l = within_over wa ha hb (repeated (sign wa a) (sign wa b) (bits_of_within l (wa - 1)) (bit_lt (wa - 1) b)) l
  where
    repeated : (s t : ℕ) → s ≤ t → t < 2 → Within (s * (2 ^ (w - wa) - 1)) (t * (2 ^ (w - wa) - 1))
    repeated zero t k m = rw (zero-mul (2 ^ (w - wa) - 1)) (within_zero (t * (2 ^ (w - wa) - 1)))
    repeated (suc s) t k m = let e : suc s ≡ t = omega arith in rw e (within_refl (t * (2 ^ (w - wa) - 1)))

pub agrees_sext : (wa w : ℕ) (p : Pair) (x : ℕ) → 1 ≤ wa → p.hi < 2 ^ wa → Agreeing p x → Agreeing (sext_pair wa w p) (extended wa w x)
agrees_sext wa w p x h hp a =
    let hx = agrees_lt wa hp a in
    agrees_of_within (extended_within wa w h (lt_of_le_of_lt (within_le (lo_within a)) hx) hx (lo_within a)) (extended_within wa w h hx hp (within_hi a))

-- ---- division

pub agrees_udiv : (w : ℕ) (p q : Pair) (x y : ℕ) → p.hi < 2 ^ w → Agreeing p x → Agreeing q y → Agreeing (udiv_pair w p q) (quotient w x y)
agrees_udiv w p q x y hp a b =
    let v = quotient w p.lo q.lo in
    let free = agrees_any w (quotient w x y) (quotient_lt w x y (agrees_lt w hp a)) in
    agrees_either (fixed p) (either (fixed q) (pair v v) (any_of w)) (any_of w) (quotient w x y)
    (λ t. agrees_either (fixed q) (pair v v) (any_of w) (quotient w x y) (λ u. rw (agrees_fixed p x t a, agrees_fixed q y u b) (agrees_self v)) (λ u. free)) (λ t. free)

-- ---- the law, for every operator

pub sound : (o : Kind) (w wa wb low : ℕ) (p q r : Pair) (x y z : ℕ) → Fit (shape o).rule w wa wb low p.hi q.hi r.hi
    → Used (shape o).operands (Agreeing p x) (Agreeing q y) (Agreeing r z) → Agreeing (pair_of o w wa wb low p q r) (meaning o w wa wb low x y z)
sound variable w wa wb low p q r x y z f u = agrees_self 0
sound constant w wa wb low p q r x y z f u = agrees_self 0
sound inv w wa wb low p q r x y z f u =
    let a = u.a (omega arith) in
    let hx : x < 2 ^ w = agrees_lt w f a in
    agrees_of_within (within_not w hx f (within_hi a)) (within_not w (lt_of_le_of_lt (within_le (lo_within a)) hx) hx (lo_within a))
sound conj w wa wb low p q r x y z f u =
    let a = u.a (omega arith) in
    let b = u.b (omega arith) in
    agrees_of_within (within_and_both (lo_within a) (lo_within b)) (within_and_both (within_hi a) (within_hi b))
sound xor w wa wb low p q r x y z f u = agrees_apart p q x y (u.a (omega arith)) (u.b (omega arith))
sound add w wa wb low p q r x y z f u = agrees_sum w p q x y (u.a (omega arith)) (u.b (omega arith))
sound mul w wa wb low p q r x y z f u = agrees_low (λ a b. a * b) mul_cuts w p q x y (u.a (omega arith)) (u.b (omega arith))
sound shl w wa wb low p q r x y z f u =
    agrees_shifted (λ a s. a * 2 ^ s % 2 ^ w) (λ a b s h. within_mod w (within_shl s h)) w p q x y (u.a (omega arith)) (u.b (omega arith))
    (mod-lt (x * 2 ^ y) (pow_pos w))
sound lshr w wa wb low p q r x y z f u =
    let a = u.a (omega arith) in
    agrees_shifted (λ a s. a / 2 ^ s) (λ a b s h. within_div s h) w p q x y a (u.b (omega arith))
    (lt_of_le_of_lt (shr_le x y) (agrees_lt w f.0 a))
sound eq w wa wb low p q r x y z f u = agrees_eq p q x y (u.a (omega arith)) (u.b (omega arith))
sound below w wa wb low p q r x y z f u = agrees_below p q x y (u.a (omega arith)) (u.b (omega arith))
sound ite w wa wb low p q r x y z f u =
    let b = u.b (omega arith) in
    let c = u.c (omega arith) in
    agrees_either (fixed p) (branch p.lo q r) (pair (bit_and q.lo r.lo) (bit_or q.hi r.hi)) (choose x y z)
    (λ t. rw (agrees_fixed p x t (u.a (omega arith))) (agrees_branch p.lo q r y z b c))
    (λ t. agrees_alike x q r y z b c)
sound concat w wa wb low p q r x y z f u =
    let a = u.a (omega arith) in
    let b = u.b (omega arith) in
    let hy : y < 2 ^ wb = agrees_lt wb f.3 b in
    agrees_of_within (within_over wb (lt_of_le_of_lt (within_le (lo_within b)) hy) hy (lo_within a) (lo_within b)) (within_over wb hy f.3 (within_hi a) (within_hi b))
sound extract w wa wb low p q r x y z f u =
    let a = u.a (omega arith) in
    agrees_of_within (within_mod w (within_div low (lo_within a))) (within_mod w (within_div low (within_hi a)))
sound slt w wa wb low p q r x y z f u =
    let a = u.a (omega arith) in
    let b = u.b (omega arith) in
    agrees_slt wa p q x y f.0 f.2 f.3 (within_trans (lo_within a) (within_hi a)) (within_trans (lo_within b) (within_hi b)) a b
sound ashr w wa wb low p q r x y z f u = agrees_ashr w p q x y f.0 (u.a (omega arith)) (u.b (omega arith))
sound sext w wa wb low p q r x y z f u = agrees_sext wa w p x f.0 f.2 (u.a (omega arith))
sound udiv w wa wb low p q r x y z f u = agrees_udiv w p q x y f.0 (u.a (omega arith)) (u.b (omega arith))

-- ---- the pair worked out is a ternary word of w bits

either_short : (t : Bool) (p q : Pair) (m : ℕ) → p.hi < m → q.hi < m → (either t p q).hi < m
either_short true p q m h l = h
either_short false p q m h l = l

branch_short : (c : ℕ) (p q : Pair) (m : ℕ) → p.hi < m → q.hi < m → (branch c p q).hi < m
branch_short zero p q m h l = l
branch_short (suc c) p q m h l = h

up_to_short : (w k v : ℕ) → k ≤ w → (up_to w k v).hi < 2 ^ w
up_to_short w k v h = omega (arith, mod-lt v (pow_pos k), pow_mono h)

-- one bit: fixed at 0 or 1 by two tests, or free
bit_short : (s t : Bool) (u v w : ℕ) → u ≤ 1 → v ≤ 1 → 1 ≤ w → (either s (pair u u) (either t (pair v v) (pair 0 1))).hi < 2 ^ w
bit_short s t u v w hu hv h =
    let m : 1 < 2 ^ w = pow_mono h in
    either_short s (pair u u) (either t (pair v v) (pair 0 1)) (2 ^ w) (lt_of_le_of_lt hu m)
    (either_short t (pair v v) (pair 0 1) (2 ^ w) (lt_of_le_of_lt hv m) m)

free_lt : (w : ℕ) (p : Pair) → Ordered p → p.hi < 2 ^ w → free_of p < 2 ^ w
free_lt w p o h = xor_lt w p.lo p.hi (lo_lt o h) h

free_in_lt : (w : ℕ) (p q : Pair) → Ordered p → Ordered q → p.hi < 2 ^ w → q.hi < 2 ^ w → free_in p q < 2 ^ w
free_in_lt w p q a b h k = or_lt w (free_of p) (free_of q) (free_lt w p a h) (free_lt w q b k)

pub free_in_sum_lt : (w : ℕ) (p q : Pair) → Ordered p → Ordered q → p.hi < 2 ^ w → q.hi < 2 ^ w → bit_or (free_in p q) (unlike w p q) < 2 ^ w
free_in_sum_lt w p q a b h k =
    or_lt w (free_in p q) (unlike w p q) (free_in_lt w p q a b h k)
    (xor_lt w (carries w p.lo q.lo) (carries w p.hi q.hi) (carries_lt p.lo q.lo (lo_lt a h) (lo_lt b k)) (carries_lt p.hi q.hi h k))
  where
    carries_lt : (x y : ℕ) → x < 2 ^ w → y < 2 ^ w → carries w x y < 2 ^ w
    carries_lt x y hx hy = xor_lt w ((x + y) % 2 ^ w) (bit_xor x y) (mod-lt (x + y) (pow_pos w)) (xor_lt w x y hx hy)

pair_short : (o : Kind) (w wa wb low : ℕ) (p q r : Pair) → 1 ≤ w → Fit (shape o).rule w wa wb low p.hi q.hi r.hi
    → Used (shape o).operands (Ordered p) (Ordered q) (Ordered r) → (pair_of o w wa wb low p q r).hi < 2 ^ w
pair_short variable w wa wb low p q r h f u = pow_pos w
pair_short constant w wa wb low p q r h f u = pow_pos w
pair_short inv w wa wb low p q r h f u = ones_sub-lt w p.lo
pair_short conj w wa wb low p q r h f u = and_lt w p.hi q.hi f.0 f.1
pair_short xor w wa wb low p q r h f u =
    let a = u.a (omega arith) in
    let b = u.b (omega arith) in
    or_lt w (bit_xor p.lo q.lo) (bit_or (free_of p) (free_of q))
    (xor_lt w p.lo q.lo (lo_lt a f.0) (lo_lt b f.1))
    (free_in_lt w p q a b f.0 f.1)
pair_short add w wa wb low p q r h f u =
    or_lt w ((p.lo + q.lo) % 2 ^ w) (bit_or (free_in p q) (unlike w p q)) (mod-lt (p.lo + q.lo) (pow_pos w))
    (free_in_sum_lt w p q (u.a (omega arith)) (u.b (omega arith)) f.0 f.1)
pair_short mul w wa wb low p q r h f u = up_to_short w (lowest w p q) (p.lo * q.lo) (lowest_le w p q)
pair_short shl w wa wb low p q r h f u =
    either_short (fixed q) (pair (p.lo * 2 ^ q.lo % 2 ^ w) (p.hi * 2 ^ q.lo % 2 ^ w)) (any_of w) (2 ^ w) (mod-lt (p.hi * 2 ^ q.lo) (pow_pos w)) (ones_lt w)
pair_short lshr w wa wb low p q r h f u =
    either_short (fixed q) (pair (p.lo / 2 ^ q.lo) (p.hi / 2 ^ q.lo)) (any_of w) (2 ^ w) (lt_of_le_of_lt (shr_le p.hi q.lo) f.0) (ones_lt w)
pair_short eq w wa wb low p q r h f u = bit_short (ltb 0 (apart p q).lo) (eqb (apart p q).hi 0) 0 1 w (omega arith) (omega arith) h
pair_short below w wa wb low p q r h f u = bit_short (ltb p.hi q.lo) (leb q.hi p.lo) 1 0 w (omega arith) (omega arith) h
pair_short ite w wa wb low p q r h f u =
    either_short (fixed p) (branch p.lo q r) (pair (bit_and q.lo r.lo) (bit_or q.hi r.hi)) (2 ^ w)
    (branch_short p.lo q r (2 ^ w) f.1 f.2) (or_lt w q.hi r.hi f.1 f.2)
pair_short concat w wa wb low p q r h f u = joined_lt w wa wb p.hi q.hi f.0 f.2 f.3
pair_short extract w wa wb low p q r h f u = mod-lt (p.hi / 2 ^ low) (pow_pos w)
pair_short slt w wa wb low p q r h f u =
    let m : 1 < 2 ^ w = pow_mono h in
    let t = signed_less wa (signed_least wa p) (signed_most wa q) in
    either_short (signed_less wa (signed_most wa p) (signed_least wa q)) (pair 1 1) (either t (pair 0 1) (pair 0 0)) (2 ^ w) m (either_short t (pair 0 1) (pair 0 0) (2 ^ w) m (pow_pos w))
pair_short ashr w wa wb low p q r h f u =
    either_short (fixed q) (pair (signed_shift w p.lo q.lo) (signed_shift w p.hi q.lo)) (any_of w) (2 ^ w) (ashr_lt w p.hi q.lo f.0) (ones_lt w)
pair_short sext w wa wb low p q r h f u = extended_lt wa w f.0 (le_of_lt f.1) f.2
pair_short udiv w wa wb low p q r h f u =
    let v = quotient w p.lo q.lo in
    either_short (fixed p) (either (fixed q) (pair v v) (any_of w)) (any_of w) (2 ^ w)
    (either_short (fixed q) (pair v v) (any_of w) (2 ^ w) (quotient_lt w p.lo q.lo (lo_lt (u.a (omega arith)) f.0)) (ones_lt w)) (ones_lt w)

-- lo and hi are values that agree
pub lo_agrees : {p : Pair} → Ordered p → Agreeing p p.lo
lo_agrees {p} o = agrees_of_within (within_refl p.lo) o

pub hi_agrees : {p : Pair} → Ordered p → Agreeing p p.hi
hi_agrees {p} o = agrees_of_within o (within_refl p.hi)

pub used_to : {n : ℕ} {A B C A' B' C' : Type 0} → (A → A') → (B → B') → (C → C') → Used n A B C → Used n A' B' C'
used_to f g h u = record { a = λ n. f (u.a n); b = λ n. g (u.b n); c = λ n. h (u.c n) }

-- the value at the operands' los agrees, so lo is within it and it is within hi
pub pair_whole : (o : Kind) (w wa wb low : ℕ) (p q r : Pair) → 1 ≤ w → Fit (shape o).rule w wa wb low p.hi q.hi r.hi
    → Used (shape o).operands (Ordered p) (Ordered q) (Ordered r) → Ternary w (pair_of o w wa wb low p q r)
pair_whole o w wa wb low p q r h f u =
    let s = sound o w wa wb low p q r p.lo q.lo r.lo f (used_to lo_agrees lo_agrees lo_agrees u) in
    record { ordered = within_trans (lo_within s) (within_hi s); short = pair_short o w wa wb low p q r h f u }
