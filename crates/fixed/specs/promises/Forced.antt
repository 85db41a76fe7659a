-- The definition of the fixed bits, held against the sentences of documents 01 and 02 (R-1, R-9, R-11): for not, and, xor, add, concat, extract, signed
-- below and sign extension exactly the bits that the operator forces are fixed; for the others each sentence is a theorem, but for below and division,
-- whose definitions are the sentences.
use Rattle.std.specs.Prelude.{◌≡◌, refl, Bool, true, false, ◌⊎◌, ◌↔◌, ℕ, zero, suc, ◌+◌, ◌-◌, ◌*◌, ◌/◌, ◌%◌, ◌^◌, ◌≤◌, ◌<◌, min, max}
use Rattle.std.proofs.Common.{sym, ap, ap₂, ◌∙◌, inl, inr, ⊎_elim, le_antisymm, le_of_eq, le_trans, mod-lt, not-suc-le-zero, le_of_suc-le-suc, arith, pow_pos, lt-ltb, le-ltb, eq-eqb, ne_eqb}
use Rattle.std.proofs.Math.Arith.{bin_ind}
use Rattle.std.specs.Int.Bits.{bit_and, bit_or, bit_xor, xor_self}
use Rattle.std.specs.Int.Count.{count_trailing_zeros, under}
use Rattle.words.specs.laws.Agree.{bits_of_within, agrees_lt}
use Rattle.words.specs.Bits.{bit}
use Rattle.words.specs.laws.Bits.{bit_lt, bit_zero, bit_of_zero, bit_half, bit_of_and, bit_of_or, bit_of_xor, bit_cut, bit_cut_high, bit_high, bit_shr, bit_shl_low, bit_over_low, bit_over_high, ones_bit, bit_ext, xor_none, lt_or_ge}
use Rattle.words.specs.laws.Less.{or_zero}
use Rattle.operators.specs.Table.{Kind, inv, conj, xor, add, concat, extract, slt, sext, shape}
use Rattle.operators.specs.Meaning.{flag, signed_less, meaning, Fit}
use Rattle.operators.specs.inner.Ready.{Used}
use Rattle.operators.specs.laws.Signed.{signed_order}
use Rattle.fixed.specs.declared.Pair.{Pair}
use Rattle.fixed.specs.Fixed.{pair, free_of, fixed, known, lowest, up_to, FixedAt, SameForAll, SumOf, free_in, unlike, sum_pair, apart, told, eq_pair, shl_pair, lshr_pair, ite_pair, signed_least, signed_most, slt_pair, ashr_pair, sext_pair, pair_of, either}
use Rattle.fixed.specs.inner.Pairs.{Ordered, Ternary, Agreeing}
use Rattle.fixed.specs.laws.Signed.{ashr_kept, ashr_filled, extended_kept, extended_filled}
use Rattle.fixed.specs.laws.Sound.{least_lt, most_lt, from_least, upto_most, sound, used_to, lo_agrees, hi_agrees, lo_lt, known_lo, none_free, free_in_sum_lt, lowest_le, lowest_none, up_to_hi, pair_whole}
use Rattle.fixed.specs.laws.Sums.{xor_same, mixed_agrees, settled}

-- "A bit is fixed where lo and hi agree."
abbrev pub FixedIn : Pair → ℕ → Type 0
FixedIn p j = bit j p.lo ≡ bit j p.hi

-- ---- "not, and, xor, concat, extract: a bit is fixed exactly if the operator forces it from the fixed bits at its positions, the operands taken as
-- independent"; so it is for signed below and sign extension, and of add by 02's R-9

pub data Exactly : Kind → Type 0 where
  of_not : Exactly inv
  of_and : Exactly conj
  of_xor : Exactly xor
  of_add : Exactly add
  of_concat : Exactly concat
  of_extract : Exactly extract
  of_slt : Exactly slt
  of_sext : Exactly sext

-- the operator forces bit j to b: any values of the operands, each agreeing with its pair, give b there
abbrev pub Forced : Kind → ℕ → ℕ → ℕ → ℕ → Pair → Pair → Pair → ℕ → ℕ → Type 0
Forced o w wa wb low p q r j b =
    (x y z : ℕ) → Used (shape o).operands (Agreeing p x) (Agreeing q y) (Agreeing r z) → bit j (meaning o w wa wb low x y z) ≡ b

-- what is fixed is forced, for every operator
pub fixed_forced : (o : Kind) (w wa wb low : ℕ) (p q r : Pair) → Fit (shape o).rule w wa wb low p.hi q.hi r.hi
    → (j b : ℕ) → FixedAt (pair_of o w wa wb low p q r) j b → Forced o w wa wb low p q r j b
fixed_forced o w wa wb low p q r f j b g x y z u =
    let s = sound o w wa wb low p q r x y z f u in
    le_antisymm (le_trans (s.under j) (le_of_eq g.high)) (le_trans (le_of_eq (sym g.low)) (s.over j))

known_fixed : (v f j b : ℕ) → bit j f ≡ 0 → bit j v ≡ b → FixedAt (known v f) j b
known_fixed v f j b z e = record {
  low = known_lo v f j ∙ omega (arith, bit_lt j v);
  high = bit_of_or j v f ∙ omega arith;
}

least_agrees : (w : ℕ) (p : Pair) → Ordered p → Agreeing p (signed_least w p)
least_agrees w p o = mixed_agrees (w - 1) (hi_agrees o) (lo_agrees o)

most_agrees : (w : ℕ) (p : Pair) → Ordered p → Agreeing p (signed_most w p)
most_agrees w p o = mixed_agrees (w - 1) (lo_agrees o) (hi_agrees o)

module _ (w wa wb low : ℕ) (p q r : Pair) (j b : ℕ) where
  -- xor: with the other operand held, neither operand's bit can change
  xor_fixed : Used 2 (Ordered p) (Ordered q) (Ordered r) → Forced xor w wa wb low p q r j b → FixedAt (apart p q) j b
  xor_fixed u f =
      let s = settled (bit j p.lo) (bit j p.hi) (bit j q.lo) (bit j q.hi) (bit_lt j p.lo) (bit_lt j p.hi) (bit_lt j q.lo) (bit_lt j q.hi)
      (at p.lo q.lo (used_to lo_agrees lo_agrees lo_agrees u)) (at p.hi q.lo (used_to hi_agrees lo_agrees lo_agrees u))
      (at p.lo q.hi (used_to lo_agrees hi_agrees lo_agrees u)) in
      let g : bit j (bit_or (free_of p) (free_of q)) ≡ 0 =
      bit_of_or j (free_of p) (free_of q) ∙ ap₂ max (bit_of_xor j p.lo p.hi ∙ s.0) (bit_of_xor j q.lo q.hi ∙ s.1) in
      let v : bit j (bit_xor p.lo q.lo) ≡ b = f p.lo q.lo r.lo (used_to lo_agrees lo_agrees lo_agrees u) in
      known_fixed (bit_xor p.lo q.lo) (bit_or (free_of p) (free_of q)) j b g v
    where
      at : (x y : ℕ) → Used 2 (Agreeing p x) (Agreeing q y) (Agreeing r r.lo) → (bit j x + bit j y) % 2 ≡ b
      at x y u = sym (bit_of_xor j x y) ∙ f x y r.lo u

      settled : (a a' c c' : ℕ) → a < 2 → a' < 2 → c < 2 → c' < 2 → (a + c) % 2 ≡ b → (a' + c) % 2 ≡ b → (a + c') % 2 ≡ b
          → ((a + a') % 2 ≡ 0) × ((c + c') % 2 ≡ 0)
      settled a a' c c' ha ha' hc hc' d e g = (omega arith, omega arith)

  -- add: below w no operand's bit can change, nor what is carried; from w on all is 0
  sum_fixed : Used 2 (Ordered p) (Ordered q) (Ordered r) → (p.hi < 2 ^ w) × (q.hi < 2 ^ w) → SameForAll w p q j b → FixedAt (sum_pair w p q) j b
  sum_fixed u f same =
      let o = u.a (omega arith) in
      let n = u.b (omega arith) in
      let s = bit_or (free_in p q) (unlike w p q) in
      let z : bit j s ≡ 0 = ⊎_elim (λ (h : j < w). settled w p q j b o n h same)
      (λ (h : w ≤ j). bit_high j s w (free_in_sum_lt w p q o n f.0 f.1) h) (lt_or_ge j w) in
      known_fixed ((p.lo + q.lo) % 2 ^ w) s j b z (same p.lo q.lo (lo_agrees o) (lo_agrees n))

  -- what add forces is what is the same for all
  same_forced : SameForAll w p q j b ↔ Forced add w wa wb low p q r j b
  same_forced = (
    λ s x y z u. s x y (u.a (omega arith)) (u.b (omega arith)),
    λ f x y a c. f x y r.lo (record { a = λ _. a; b = λ _. c; c = λ h. absurd (omega arith) }),
  )

  -- signed below: the two tests are values of the operator, at the signed extremes
  slt_fixed : Used 2 (Ordered p) (Ordered q) (Ordered r) → Forced slt w wa wb low p q r j b → FixedAt (slt_pair wa p q) j b
  slt_fixed u f =
      go (signed_less wa (signed_most wa p) (signed_least wa q)) (signed_less wa (signed_least wa p) (signed_most wa q))
      (f (signed_most wa p) (signed_least wa q) r.lo (used_to (most_agrees wa p) (least_agrees wa q) lo_agrees u))
      (f (signed_least wa p) (signed_most wa q) r.lo (used_to (least_agrees wa p) (most_agrees wa q) lo_agrees u))
    where
      go : (s t : Bool) → bit j (flag s) ≡ b → bit j (flag t) ≡ b → FixedAt (either s (pair 1 1) (either t (pair 0 1) (pair 0 0))) j b
      go true t d e = record { low = d; high = d }
      go false true d e = record { low = d; high = e }
      go false false d e = record { low = d; high = d }

  -- the others: lo and hi are themselves values of the operator, at the operands' los and his
  forced_fixed : (o : Kind) → Exactly o → Fit (shape o).rule w wa wb low p.hi q.hi r.hi → Used (shape o).operands (Ordered p) (Ordered q) (Ordered r)
      → Forced o w wa wb low p q r j b → FixedAt (pair_of o w wa wb low p q r) j b
  forced_fixed o k t u f = go k t u (f p.lo q.lo r.lo (used_to lo_agrees lo_agrees lo_agrees u)) (f p.hi q.hi r.hi (used_to hi_agrees hi_agrees hi_agrees u)) f
    where
      go : {o : Kind} → Exactly o → Fit (shape o).rule w wa wb low p.hi q.hi r.hi → Used (shape o).operands (Ordered p) (Ordered q) (Ordered r)
          → bit j (meaning o w wa wb low p.lo q.lo r.lo) ≡ b → bit j (meaning o w wa wb low p.hi q.hi r.hi) ≡ b
          → Forced o w wa wb low p q r j b → FixedAt (pair_of o w wa wb low p q r) j b
      go of_not t u d e f = record { low = e; high = d }
      go of_and t u d e f = record { low = d; high = e }
      go of_xor t u d e f = xor_fixed u f
      go of_add t u d e f = sum_fixed u t (same_forced.1 f)
      go of_concat t u d e f = record { low = d; high = e }
      go of_extract t u d e f = record { low = d; high = e }
      go of_slt t u d e f = slt_fixed u f
      go of_sext t u d e f = record { low = d; high = e }

pub forced : (o : Kind) → Exactly o → (w wa wb low : ℕ) (p q r : Pair) → Fit (shape o).rule w wa wb low p.hi q.hi r.hi
    → Used (shape o).operands (Ordered p) (Ordered q) (Ordered r) → (j b : ℕ) → FixedAt (pair_of o w wa wb low p q r) j b ↔ Forced o w wa wb low p q r j b
forced o k w wa wb low p q r f u j b = (fixed_forced o w wa wb low p q r f j b, forced_fixed w wa wb low p q r j b o k f u)

-- ---- add (02, R-9): "a result bit is fixed exactly if it is the same for every pair of agreeing operand values, the two operands taken as independent"

-- ternary words whose bits are fixed alike are the same
fixed_alike : (s t : Pair) → Ordered s → Ordered t → ((j b : ℕ) → FixedAt s j b → FixedAt t j b) → ((j b : ℕ) → FixedAt t j b → FixedAt s j b) → s ≡ t
fixed_alike s t o n f g = ap₂ pair (bit_ext s.lo t.lo (λ j. (alike j).0)) (bit_ext s.hi t.hi (λ j. (alike j).1))
  where
    fixed_of : (p : Pair) (j : ℕ) → bit j p.hi ≤ bit j p.lo → Ordered p → FixedAt p j (bit j p.lo)
    fixed_of p j l o = record { low = refl; high = le_antisymm l (bits_of_within o j) }

    both_free : (l h l' h' : ℕ) → l < h → h < 2 → l' < h' → h' < 2 → (l ≡ l') × (h ≡ h')
    both_free l h l' h' a b c d = (omega arith, omega arith)

    one_free : (l h v : ℕ) → l < h → l ≡ v → h ≡ v → ⊥
    one_free l h v a b c = omega arith

    alike : (j : ℕ) → (bit j s.lo ≡ bit j t.lo) × (bit j s.hi ≡ bit j t.hi)
    alike j = go (lt_or_ge (bit j s.lo) (bit j s.hi)) (lt_or_ge (bit j t.lo) (bit j t.hi))
      where
        go : (bit j s.lo < bit j s.hi) ⊎ (bit j s.hi ≤ bit j s.lo) → (bit j t.lo < bit j t.hi) ⊎ (bit j t.hi ≤ bit j t.lo)
            → (bit j s.lo ≡ bit j t.lo) × (bit j s.hi ≡ bit j t.hi)
        go (inl a) (inl c) = both_free (bit j s.lo) (bit j s.hi) (bit j t.lo) (bit j t.hi) a (bit_lt j s.hi) c (bit_lt j t.hi)
        go (inl a) (inr c) = let e = g j (bit j t.lo) (fixed_of t j c n) in absurd (one_free (bit j s.lo) (bit j s.hi) (bit j t.lo) a e.low e.high)
        go (inr a) c = let e = f j (bit j s.lo) (fixed_of s j a o) in (sym e.low, (fixed_of s j a o).high ∙ sym e.high)

-- the pair of a sum is the one that the sentence describes, and there is no other
pub sum_exactly : (w wa wb low : ℕ) (p q r s : Pair) → 1 ≤ w → Ternary w p → Ternary w q → (s ≡ pair_of add w wa wb low p q r) ↔ SumOf w p q s
sum_exactly w wa wb low p q r s h tp tq = (to, back)
  where
    fits : (p.hi < 2 ^ w) × (q.hi < 2 ^ w)
    fits = (tp.short, tq.short)

    ordered : Used 2 (Ordered p) (Ordered q) (Ordered r)
    ordered = record { a = λ _. tp.ordered; b = λ _. tq.ordered; c = λ n. absurd (omega arith) }

    exactly : (j b : ℕ) → FixedAt (sum_pair w p q) j b ↔ SameForAll w p q j b
    exactly j b =
        let e = forced add of_add w wa wb low p q r fits ordered j b in
        let f = same_forced w wa wb low p q r j b in
        (λ g. f.1 (e.0 g), λ g. e.1 (f.0 g))

    whole : Ternary w (sum_pair w p q)
    whole = pair_whole add w wa wb low p q r h fits ordered

    to : s ≡ sum_pair w p q → SumOf w p q s
    to e = rw e (record { ternary = whole.ordered; exactly = exactly })

    back : SumOf w p q s → s ≡ sum_pair w p q
    back o =
        fixed_alike s (sum_pair w p q) o.ternary whole.ordered
        (λ j b f. (exactly j b).1 ((o.exactly j b).0 f)) (λ j b f. (o.exactly j b).1 ((exactly j b).0 f))

-- "4 bits, x with low bits 01 and top two free, plus 3: fixed low bits 00, top two free."
pub plus_three : pair_of add 4 4 4 0 (pair 1 13) (pair 3 3) (pair 0 0) ≡ pair 0 12
plus_three = refl

-- and where what was fixed above the lowest free bit is kept: 4 bits, x with top bits 00, then one free and a 1, plus 4: 01, free, 1
pub plus_four : pair_of add 4 4 4 0 (pair 1 3) (pair 4 4) (pair 0 0) ≡ pair 5 7
plus_four = refl

-- ---- "mul: let k be the lowest position free in either operand (w if none). The low k bits are fixed, as computed; the others are free."

free_bit : (p : Pair) (j : ℕ) → bit j (free_of p) ≡ 0 → FixedIn p j
free_bit p j e = same (bit j p.lo) (bit j p.hi) (bit_lt j p.lo) (bit_lt j p.hi) (sym (bit_of_xor j p.lo p.hi) ∙ e)
  where
    same : (a b : ℕ) → a < 2 → b < 2 → (a + b) % 2 ≡ 0 → a ≡ b
    same a b h k e = omega arith

fixed_bit : (p : Pair) (j : ℕ) → FixedIn p j → bit j (free_of p) ≡ 0
fixed_bit p j e = xor_same j p.lo p.hi e

-- the bit at the count of zeros is set, where the count ends before the digits do
trailing_set : (k n : ℕ) → count_trailing_zeros k n < k → bit (count_trailing_zeros k n) n ≡ 1
unfolding count_trailing_zeros
trailing_set zero n h = absurd (not-suc-le-zero h)
trailing_set (suc k) n h = go (n % 2) refl (trailing_set k (n / 2)) h
  where
    go : (d : ℕ) → n % 2 ≡ d → (count_trailing_zeros k (n / 2) < k → bit (count_trailing_zeros k (n / 2)) (n / 2) ≡ 1)
        → under d (count_trailing_zeros k (n / 2)) < suc k → bit (under d (count_trailing_zeros k (n / 2))) n ≡ 1
    go zero e ih l = sym (bit_half (count_trailing_zeros k (n / 2)) n) ∙ ih (le_of_suc-le-suc l)
    go (suc d) e ih l = bit_zero n ∙ omega (arith, e)

pub record LowestFree (w : ℕ) (p q : Pair) (k : ℕ) : Type 0 where
  pub within : k ≤ w
  pub below : (j : ℕ) → j < k → FixedIn p j × FixedIn q j
  pub free : k < w → (FixedIn p k → ⊥) ⊎ (FixedIn q k → ⊥)

pub lowest_free : (w : ℕ) (p q : Pair) → LowestFree w p q (lowest w p q)
lowest_free w p q = record {
  within = lowest_le w p q;
  below = λ j h. let n = lowest_none w p q j h in (free_bit p j n.0, free_bit q j n.1);
  free = λ h. one_free (lowest w p q) (trailing_set w (bit_or (free_of p) (free_of q)) h);
}
  where
    one_free : (k : ℕ) → bit k (bit_or (free_of p) (free_of q)) ≡ 1 → (FixedIn p k → ⊥) ⊎ (FixedIn q k → ⊥)
    one_free k e =
        let m : max (bit k (free_of p)) (bit k (free_of q)) ≡ 1 = sym (bit_of_or k (free_of p) (free_of q)) ∙ e in
        ⊎_elim (λ (l : bit k (free_of p) < 1). inr (λ f. let z = fixed_bit q k f in omega arith))
        (λ (l : 1 ≤ bit k (free_of p)). inl (λ f. let z = fixed_bit p k f in omega arith)) (lt_or_ge (bit k (free_of p)) 1)

pub up_to_fixed : (w k v j : ℕ) → k ≤ w → j < k → FixedAt (up_to w k v) j (bit j v)
up_to_fixed w k v j h l = record {
  low = bit_cut j v k l;
  high = ap (bit j) (up_to_hi w k v h) ∙ bit_over_low j (2 ^ (w - k) - 1) (v % 2 ^ k) k (mod-lt v (pow_pos k)) l ∙ bit_cut j v k l;
}

pub up_to_free : (w k v j : ℕ) → k ≤ w → k ≤ j → j < w → FixedIn (up_to w k v) j → ⊥
up_to_free w k v j h l m f = zero_one (bit j (up_to w k v).lo) (bit_cut_high j v k l) (f ∙ high)
  where
    zero_one : (b : ℕ) → b ≡ 0 → b ≡ 1 → ⊥
    zero_one b d e = omega arith

    high : bit j (up_to w k v).hi ≡ 1
    high =
        let e : k + (j - k) ≡ j = omega arith in
        ap₂ bit (sym e) (up_to_hi w k v h) ∙ bit_over_high (j - k) (2 ^ (w - k) - 1) (v % 2 ^ k) k (mod-lt v (pow_pos k)) ∙ ones_bit (j - k) (w - k) (omega arith)

-- ---- "shl, lshr: with a fully fixed amount, the shifted pair (filled places fixed at 0)"

pub shl_filled : (w j : ℕ) (p q : Pair) → fixed q ≡ true → j < q.lo → j < w → FixedAt (shl_pair w p q) j 0
shl_filled w j p q e l h = rw e (record { low = clear p.lo; high = clear p.hi })
  where
    clear : (a : ℕ) → bit j (a * 2 ^ q.lo % 2 ^ w) ≡ 0
    clear a = bit_cut j (a * 2 ^ q.lo) w h ∙ bit_shl_low j a q.lo l

pub lshr_filled : (w j : ℕ) (p q : Pair) → Ordered p → p.hi < 2 ^ w → fixed q ≡ true → w ≤ q.lo + j → FixedAt (lshr_pair w p q) j 0
lshr_filled w j p q o h e l = rw e (record { low = clear p.lo (lo_lt o h); high = clear p.hi h })
  where
    clear : (a : ℕ) → a < 2 ^ w → bit j (a / 2 ^ q.lo) ≡ 0
    clear a g = bit_shr j a q.lo ∙ bit_high (q.lo + j) a w g l

-- ---- "eq: 0 if some position is fixed both sides and differs; 1 if both are fully fixed and equal; else free."

-- a position that is fixed both sides and differs
pub record Differs (p q : Pair) : Type 0 where
  pub place : ℕ
  pub fixed_p : FixedIn p place
  pub fixed_q : FixedIn q place
  pub differs : bit place p.lo ≡ bit place q.lo → ⊥

-- what is told of a pair x, by the two tests
pub told_apart : (x : Pair) → 0 < x.lo → told x ≡ pair 0 0
told_apart x h = simp (lt-ltb 0 x.lo h)

pub told_same : (x : Pair) → x.lo ≤ 0 → x.hi ≡ 0 → told x ≡ pair 1 1
told_same x h e = simp (le-ltb 0 x.lo h, eq-eqb x.hi 0 e)

pub told_free : (x : Pair) → x.lo ≤ 0 → (x.hi ≡ 0 → ⊥) → told x ≡ pair 0 1
told_free x h e = simp (le-ltb 0 x.lo h, ne_eqb x.hi 0 e)

told_zero : (x : Pair) → told x ≡ pair 0 0 → 0 < x.lo
told_zero x e =
    ⊎_elim (λ (h : 0 < x.lo). h)
    (λ (h : x.lo ≤ 0). absurd
    (⊎_elim (λ (g : 0 < x.hi). high 0 (sym (told_free x h (λ z. omega arith)) ∙ e)) (λ (g : x.hi ≤ 0). high 1 (sym (told_same x h (omega arith)) ∙ e)) (lt_or_ge 0 x.hi)))
    (lt_or_ge 0 x.lo)
  where
    high : (l : ℕ) → pair l 1 ≡ pair 0 0 → ⊥
    high l f = let z = ap (λ (p : Pair). p.hi) f in omega arith

told_one : (x : Pair) → told x ≡ pair 1 1 → x.hi ≡ 0
told_one x e =
    ⊎_elim (λ (h : 0 < x.lo). absurd (low 0 (sym (told_apart x h) ∙ e)))
    (λ (h : x.lo ≤ 0). ⊎_elim (λ (g : 0 < x.hi). absurd (low 1 (sym (told_free x h (λ z. omega arith)) ∙ e))) (λ (g : x.hi ≤ 0). omega arith) (lt_or_ge 0 x.hi))
    (lt_or_ge 0 x.lo)
  where
    low : (h : ℕ) → pair 0 h ≡ pair 1 1 → ⊥
    low h f = let z = ap (λ (p : Pair). p.lo) f in omega arith

-- a number that is not 0 has a bit
some_bit : (n : ℕ) → 0 < n → (j : ℕ) × (bit j n ≡ 1)
some_bit =
    bin_ind (λ (n : ℕ). 0 < n → (j : ℕ) × (bit j n ≡ 1)) (λ h. absurd (not-suc-le-zero h))
    (λ n ih h. ⊎_elim (λ (l : n % 2 < 1). let r = ih (omega arith) in (suc r.0, sym (bit_half r.0 n) ∙ r.1))
    (λ (l : 1 ≤ n % 2). (0, bit_zero n ∙ omega arith)) (lt_or_ge (n % 2) 1))

pub eq_differs : (p q : Pair) → (eq_pair p q ≡ pair 0 0) ↔ Differs p q
eq_differs p q = (to, back)
  where
    to : eq_pair p q ≡ pair 0 0 → Differs p q
    to e =
        let s = some_bit (apart p q).lo (told_zero (apart p q) e) in
        let j = s.0 in
        let v = bit_xor p.lo q.lo in
        let f = bit_or (free_of p) (free_of q) in
        let c = set (bit j v) (bit j f) (bit_lt j v) (bit_lt j f) (sym (known_lo v f j) ∙ s.1) in
        let n = none_free p q j c.1 in
        record { place = j; fixed_p = free_bit p j n.0; fixed_q = free_bit q j n.1; differs = λ g. unlike (bit j p.lo) (bit j q.lo) (sym (bit_of_xor j p.lo q.lo) ∙ c.0) g }
      where
        set : (v f : ℕ) → v < 2 → f < 2 → (v + min v f) % 2 ≡ 1 → (v ≡ 1) × (f ≡ 0)
        set v f a b e = (omega arith, omega arith)

        unlike : (a b : ℕ) → (a + b) % 2 ≡ 1 → a ≡ b → ⊥
        unlike a b e f = omega arith

    back : Differs p q → eq_pair p q ≡ pair 0 0
    back d =
        let j = d.place in
        let f : bit j (bit_or (free_of p) (free_of q)) ≡ 0 = bit_of_or j (free_of p) (free_of q) ∙ ap₂ max (fixed_bit p j d.fixed_p) (fixed_bit q j d.fixed_q) in
        let v : bit j (bit_xor p.lo q.lo) ≡ 1 = bit_of_xor j p.lo q.lo ∙ odd (bit j p.lo) (bit j q.lo) (bit_lt j p.lo) (bit_lt j q.lo) d.differs in
        told_apart (apart p q) (positive (apart p q).lo j (known_lo (bit_xor p.lo q.lo) (bit_or (free_of p) (free_of q)) j ∙ ap₂ (λ (a b : ℕ). (a + min a b) % 2) v f))
      where
        odd : (a b : ℕ) → a < 2 → b < 2 → (a ≡ b → ⊥) → (a + b) % 2 ≡ 1
        odd a b g h n = omega arith

        positive : (n j : ℕ) → bit j n ≡ 1 → 0 < n
        positive zero j e = let z = bit_of_zero j in omega arith
        positive (suc n) j e = omega arith

pub eq_same : (p q : Pair) → (eq_pair p q ≡ pair 1 1) ↔ ((p.lo ≡ p.hi) × (q.lo ≡ q.hi) × (p.lo ≡ q.lo))
eq_same p q = (to, back)
  where
    to : eq_pair p q ≡ pair 1 1 → (p.lo ≡ p.hi) × (q.lo ≡ q.hi) × (p.lo ≡ q.lo)
    to e =
        let o = or_zero (bit_xor p.lo q.lo) (bit_or (free_of p) (free_of q)) (told_one (apart p q) e) in
        let f = or_zero (free_of p) (free_of q) o.1 in
        (xor_none p.lo p.hi f.0, xor_none q.lo q.hi f.1, xor_none p.lo q.lo o.0)

    none : (a b : ℕ) → a ≡ b → bit_xor a b ≡ 0
    none a b e = ap (λ (n : ℕ). bit_xor n b) e ∙ xor_self b

    back : (p.lo ≡ p.hi) × (q.lo ≡ q.hi) × (p.lo ≡ q.lo) → eq_pair p q ≡ pair 1 1
    back e = ap₂ (λ (v f : ℕ). told (known v f)) (none p.lo q.lo e.2) (ap₂ bit_or (none p.lo p.hi e.0) (none q.lo q.hi e.1))

-- ---- "if: the chosen branch if the condition is fixed; else the bits fixed alike in both branches."

pub if_alike : (p q r : Pair) → fixed p ≡ false → Ordered q → Ordered r → (j b : ℕ) → FixedAt (ite_pair p q r) j b ↔ (FixedAt q j b × FixedAt r j b)
if_alike p q r e oq or j b = rw e (to, back)
  where
    ql : bit j q.lo ≤ bit j q.hi
    ql = bits_of_within oq j

    rl : bit j r.lo ≤ bit j r.hi
    rl = bits_of_within or j

    alike : (l h l' h' : ℕ) → l ≤ h → l' ≤ h' → min l l' ≡ b → max h h' ≡ b → (l ≡ b) × (h ≡ b) × (l' ≡ b) × (h' ≡ b)
    alike l h l' h' d d' e g = (omega arith, omega arith, omega arith, omega arith)

    to : FixedAt (pair (bit_and q.lo r.lo) (bit_or q.hi r.hi)) j b → FixedAt q j b × FixedAt r j b
    to f =
        let a = alike (bit j q.lo) (bit j q.hi) (bit j r.lo) (bit j r.hi) ql rl (sym (bit_of_and j q.lo r.lo) ∙ f.low) (sym (bit_of_or j q.hi r.hi) ∙ f.high) in
        (record { low = a.0; high = a.1 }, record { low = a.2; high = a.3 })

    back : FixedAt q j b × FixedAt r j b → FixedAt (pair (bit_and q.lo r.lo) (bit_or q.hi r.hi)) j b
    back f = record {
      low = bit_of_and j q.lo r.lo ∙ omega (arith, f.0.low, f.1.low);
      high = bit_of_or j q.hi r.hi ∙ omega (arith, f.0.high, f.1.high);
    }

-- ---- 02, R-1, signed below: "decided when the signed least and greatest values of the pairs decide it, else free", by the two values that its
-- definition names

-- v is the signed least, or the signed greatest, of the values that agree with p
pub record LeastOf (w : ℕ) (p : Pair) (v : ℕ) : Type 0 where
  pub agrees : Agreeing p v
  pub least : (x : ℕ) → Agreeing p x → signed_less w x v ≡ false

pub record MostOf (w : ℕ) (p : Pair) (v : ℕ) : Type 0 where
  pub agrees : Agreeing p v
  pub most : (x : ℕ) → Agreeing p x → signed_less w v x ≡ false

module _ (w : ℕ) (p : Pair) (h : 1 ≤ w) (t : Ternary w p) where
  pub signed_least_lem : LeastOf w p (signed_least w p)
  signed_least_lem = record {
    agrees = least_agrees w p t.ordered;
    least = λ x a. signed_order w x (signed_least w p) h (agrees_lt w t.short a) (least_lt w p h t.short) ∙ le-ltb _ _ (from_least w p h t.short x a);
  }

  pub signed_most_lem : MostOf w p (signed_most w p)
  signed_most_lem = record {
    agrees = most_agrees w p t.ordered;
    most = λ x a. signed_order w (signed_most w p) x h (most_lt w p h t.short t.ordered) (agrees_lt w t.short a) ∙ le-ltb _ _ (upto_most w p h t.short x a t.ordered);
  }

-- ---- arithmetic shift: "as lshr with the sign's ternary bit filling"; sign extension: "the top bit's state is copied"

-- bit j of q has the state of bit i of p: fixed at 0 or at 1, or free
pub record Copied (p : Pair) (i : ℕ) (q : Pair) (j : ℕ) : Type 0 where
  pub low : bit j q.lo ≡ bit i p.lo
  pub high : bit j q.hi ≡ bit i p.hi

module _ (w j : ℕ) (p q : Pair) (h : 1 ≤ w) (t : Ternary w p) (e : fixed q ≡ true) (l : j < w) where
  pub ashr_shifted : q.lo + j < w → Copied p (q.lo + j) (ashr_pair w p q) j
  ashr_shifted i = rw e (record { low = ashr_kept w p.lo q.lo j h (lo_lt t.ordered t.short) l i; high = ashr_kept w p.hi q.lo j h t.short l i })

  pub ashr_signed : w ≤ q.lo + j → Copied p (w - 1) (ashr_pair w p q) j
  ashr_signed i = rw e (record { low = ashr_filled w p.lo q.lo j h (lo_lt t.ordered t.short) l i; high = ashr_filled w p.hi q.lo j h t.short l i })

module _ (wa w j : ℕ) (p : Pair) (t : Ternary wa p) where
  pub sext_kept : j < wa → Copied p j (sext_pair wa w p) j
  sext_kept l = record { low = extended_kept wa w p.lo j (lo_lt t.ordered t.short) l; high = extended_kept wa w p.hi j t.short l }

  pub sext_copied : j < w - wa → Copied p (wa - 1) (sext_pair wa w p) (wa + j)
  sext_copied l = record { low = extended_filled wa w p.lo j (lo_lt t.ordered t.short) l; high = extended_filled wa w p.hi j t.short l }
