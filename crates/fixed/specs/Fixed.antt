-- Document 01, "Fixed bits of inner nodes", and the same of 02's R-1, R-9 and R-11: the pair of a node, from its operands' pairs.
use Rattle.std.specs.Prelude.{◌≡◌, Bool, true, false, ◌↔◌, ℕ, zero, suc, ◌+◌, ◌-◌, ◌*◌, ◌/◌, ◌%◌, ◌^◌, eqb, leb, ltb}
use Rattle.std.specs.Int.Bits.{bit_and, bit_or, bit_xor}
use Rattle.std.specs.Int.Count.{count_trailing_zeros}
use Rattle.words.specs.Agree.{Agrees, Within}
use Rattle.words.specs.Bits.{bit}
use Rattle.words.specs.inner.Words.{over}
use Rattle.operators.specs.Table.{Kind, variable, constant, inv, conj, xor, add, mul, shl, lshr, eq, below, ite, concat, extract, slt, ashr, sext, udiv}
use Rattle.operators.specs.Meaning.{signed_less, signed_shift, extended, quotient}
use Rattle.fixed.specs.declared.Pair.{Pair}

abbrev pub pair : ℕ → ℕ → Pair
pair l h = record { lo = l; hi = h }

abbrev pub either : Bool → Pair → Pair → Pair
either true p q = p
either false p q = q

abbrev pub branch : ℕ → Pair → Pair → Pair
branch zero p q = q
branch (suc c) p q = p

-- "A bit is fixed where lo and hi agree": the others, as a number
abbrev pub free_of : Pair → ℕ
free_of p = bit_xor p.lo p.hi

-- those free in one of two
abbrev pub free_in : Pair → Pair → ℕ
free_in p q = bit_or (free_of p) (free_of q)

-- fully fixed
abbrev pub fixed : Pair → Bool
fixed p = eqb p.lo p.hi

-- all w bits free
abbrev pub any_of : ℕ → Pair
any_of w = pair 0 (2 ^ w - 1)

-- v, with the positions of f free
abbrev pub known : ℕ → ℕ → Pair
known v f = pair (bit_xor v (bit_and v f)) (bit_or v f)

-- mul: "let k be the lowest position free in either operand (w if none)"
abbrev pub lowest : ℕ → Pair → Pair → ℕ
lowest w p q = count_trailing_zeros w (free_in p q)

-- "The low k bits are fixed, as computed; the others are free."
abbrev pub up_to : ℕ → ℕ → ℕ → Pair
up_to w k v = pair (v % 2 ^ k) (v % 2 ^ k + (2 ^ w - 2 ^ k))

-- ---- add (02, R-9)

-- bit j is fixed at b
pub record FixedAt (p : Pair) (j b : ℕ) : Type 0 where
  pub low : bit j p.lo ≡ b
  pub high : bit j p.hi ≡ b

-- bit j of the sum is b "for every pair of agreeing operand values, the two operands taken as independent"
abbrev pub SameForAll : ℕ → Pair → Pair → ℕ → ℕ → Type 0
SameForAll w p q j b = (x y : ℕ) → Agrees p.lo p.hi x → Agrees q.lo q.hi y → bit j ((x + y) % 2 ^ w) ≡ b

-- "a result bit is fixed exactly if it is the same for every pair of agreeing operand values": what is to be believed of the pair s of a sum
pub record SumOf (w : ℕ) (p q s : Pair) : Type 0 where
  pub ternary : Within s.lo s.hi
  pub exactly : (j b : ℕ) → FixedAt s j b ↔ SameForAll w p q j b

-- ---- that pair in word operations. They need not be believed: by `sum_exactly` (promises/Forced) SumOf holds of this pair and of no other.

-- the places that a sum of w bits carries into
abbrev pub carries : ℕ → ℕ → ℕ → ℕ
carries w x y = bit_xor ((x + y) % 2 ^ w) (bit_xor x y)

-- where the least and the greatest sum carry differently
abbrev pub unlike : ℕ → Pair → Pair → ℕ
unlike w p q = bit_xor (carries w p.lo q.lo) (carries w p.hi q.hi)

abbrev pub sum_pair : ℕ → Pair → Pair → Pair
sum_pair w p q = known ((p.lo + q.lo) % 2 ^ w) (bit_or (free_in p q) (unlike w p q))

-- ---- the other kinds

-- xor: a bit is forced exactly where both operands' bits are fixed
abbrev pub apart : Pair → Pair → Pair
apart p q = known (bit_xor p.lo q.lo) (free_in p q)

-- eq: "0 if some position is fixed both sides and differs" (the xor has a bit fixed at 1); "1 if both are fully fixed and
-- equal" (the xor is fixed at 0); "else free"
abbrev pub told : Pair → Pair
told x = either (ltb 0 x.lo) (pair 0 0) (either (eqb x.hi 0) (pair 1 1) (pair 0 1))

abbrev pub eq_pair : Pair → Pair → Pair
eq_pair p q = told (apart p q)

-- below: "1 if a's hi is below b's lo; 0 if a's lo is at least b's hi; else free"
abbrev pub below_pair : Pair → Pair → Pair
below_pair p q = either (ltb p.hi q.lo) (pair 1 1) (either (leb q.hi p.lo) (pair 0 0) (pair 0 1))

-- shl, lshr: "with a fully fixed amount, the shifted pair (filled places fixed at 0); else all free"
abbrev pub shl_pair : ℕ → Pair → Pair → Pair
shl_pair w p q = either (fixed q) (pair (p.lo * 2 ^ q.lo % 2 ^ w) (p.hi * 2 ^ q.lo % 2 ^ w)) (any_of w)

abbrev pub lshr_pair : ℕ → Pair → Pair → Pair
lshr_pair w p q = either (fixed q) (pair (p.lo / 2 ^ q.lo) (p.hi / 2 ^ q.lo)) (any_of w)

-- if: "the chosen branch if the condition is fixed; else the bits fixed alike in both branches"
abbrev pub ite_pair : Pair → Pair → Pair → Pair
ite_pair p q r = either (fixed p) (branch p.lo q r) (pair (bit_and q.lo r.lo) (bit_or q.hi r.hi))

-- ---- signed words (02, R-1)

-- the sign of a over the other bits of b
abbrev pub sign_over : ℕ → ℕ → ℕ → ℕ
sign_over w a b = over (w - 1) a (b % 2 ^ (w - 1))

-- the signed least value of a pair has its sign set if it can be, and every other bit clear if it can be; the greatest the other way round
abbrev pub signed_least : ℕ → Pair → ℕ
signed_least w p = sign_over w p.hi p.lo

abbrev pub signed_most : ℕ → Pair → ℕ
signed_most w p = sign_over w p.lo p.hi

-- signed below, of operands of w bits: "decided when the signed least and greatest values of the pairs decide it, else free"
abbrev pub slt_pair : ℕ → Pair → Pair → Pair
slt_pair w p q =
    either (signed_less w (signed_most w p) (signed_least w q)) (pair 1 1) (either (signed_less w (signed_least w p) (signed_most w q)) (pair 0 1) (pair 0 0))

-- arithmetic shift: "as lshr with the sign's ternary bit filling"
abbrev pub ashr_pair : ℕ → Pair → Pair → Pair
ashr_pair w p q = either (fixed q) (pair (signed_shift w p.lo q.lo) (signed_shift w p.hi q.lo)) (any_of w)

-- sign extension: "the top bit's state is copied"
abbrev pub sext_pair : ℕ → ℕ → Pair → Pair
sext_pair wa w p = pair (extended wa w p.lo) (extended wa w p.hi)

-- division (02, R-11): "the quotient if both sides are fully fixed, else free"
abbrev pub udiv_pair : ℕ → Pair → Pair → Pair
udiv_pair w p q = either (fixed p) (either (fixed q) (pair (quotient w p.lo q.lo) (quotient w p.lo q.lo)) (any_of w)) (any_of w)

-- the pair of an inner node whose operands have the pairs p, q, r
abbrev pub pair_of : Kind → ℕ → ℕ → ℕ → ℕ → Pair → Pair → Pair → Pair
pair_of variable w wa wb low p q r = pair 0 0
pair_of constant w wa wb low p q r = pair 0 0
pair_of inv w wa wb low p q r = pair ((2 ^ w - 1) - p.hi) ((2 ^ w - 1) - p.lo)
pair_of conj w wa wb low p q r = pair (bit_and p.lo q.lo) (bit_and p.hi q.hi)
pair_of xor w wa wb low p q r = apart p q
pair_of add w wa wb low p q r = sum_pair w p q
pair_of mul w wa wb low p q r = up_to w (lowest w p q) (p.lo * q.lo)
pair_of shl w wa wb low p q r = shl_pair w p q
pair_of lshr w wa wb low p q r = lshr_pair w p q
pair_of eq w wa wb low p q r = eq_pair p q
pair_of below w wa wb low p q r = below_pair p q
pair_of ite w wa wb low p q r = ite_pair p q r
pair_of concat w wa wb low p q r = pair (p.lo * 2 ^ wb + q.lo) (p.hi * 2 ^ wb + q.hi)
pair_of extract w wa wb low p q r = pair (p.lo / 2 ^ low % 2 ^ w) (p.hi / 2 ^ low % 2 ^ w)
pair_of slt w wa wb low p q r = slt_pair wa p q
pair_of ashr w wa wb low p q r = ashr_pair w p q
pair_of sext w wa wb low p q r = sext_pair wa w p
pair_of udiv w wa wb low p q r = udiv_pair w p q
