-- Document 01, "Numbers to test by": those marked P, of the definitions, as one table; and rows like these for the kinds that 02 adds.
use Rattle.std.specs.Prelude.{◌≡◌, ℕ, zero, suc, ◌-◌, ◌*◌, ◌%◌, ◌^◌, ◌<◌, ◌≤◌, Bool, true, false, ◌&&◌, ◌||◌, T, ◌⊎◌, List, [], ◌∷◌, ◌==◌, ◌≢◌, nat_lt, refl}
use Rattle.std.proofs.Common.{sym, subst, ◌∙◌, inl, inr, ⊎_elim, le_of_eq, mod-eq_of_lt, arith, eqb→eq, ltb→lt, ltb-true}
use Rattle.std.specs.Float.Ieee.Fits.{and_l, and_r}
use Rattle.words.specs.Bits.{bit}
use Rattle.words.specs.laws.Bits.{lt_or_ge}
use Rattle.words.specs.Agree.{Agrees}
use Rattle.words.specs.laws.Agree.{agrees_lt, agrees_of_within, within_zero, within_ones, within_hi, within_le}
use Rattle.words.specs.laws.Cases.{every, every_at, Passes, pick_is, pick_of}
use Rattle.words.specs.laws.Mul.{solve}
use Rattle.words.specs.inner.Words.{over}
use Rattle.words.specs.Pick.{Pick, above}
use Rattle.words.specs.laws.Pick.{pick_same}
use Rattle.fixed.specs.declared.Pair.{Pair}
use Rattle.operators.specs.Table.{add, slt, ashr, sext, udiv}
use Rattle.operators.specs.Meaning.{flag}
use Rattle.fixed.specs.Fixed.{pair, pair_of}
use Rattle.picking.specs.declared.spot.Spot.{Spot}
use Rattle.picking.specs.Spot.{at, positions, Inverse, Consistent, Essential}
use Rattle.picking.specs.laws.Tests.{agrees_to, inverse_b, inverse_to, inverse_back, consistent_b, consistent_to, consistent_back}

-- ---- the statement

-- v is one of a list
abbrev pub Listed : List ℕ → ℕ → Type 0
Listed [] v = ⊥
Listed (x ∷ xs) v = (v ≡ x) ⊎ Listed xs v

-- the members of A are those of a list, and nothing else
pub record Exactly (A : ℕ → Type 0) (vs : List ℕ) : Type 0 where
  pub only : (v : ℕ) → A v → Listed vs v
  pub all : (v : ℕ) → Listed vs v → A v

-- an operand: its width, its pair and its current value; one whose bits are all free, and a number
pub record Operand : Type 0 where
  pub wide : ℕ
  pub lo : ℕ
  pub hi : ℕ
  pub now : ℕ

abbrev pub operand : ℕ → ℕ → ℕ → ℕ → Operand
operand w l h v = record { wide = w; lo = l; hi = h; now = v }

abbrev pub free : ℕ → Operand
free w = operand w 0 (2 ^ w - 1) 0

abbrev pub number : ℕ → ℕ → Operand
number w v = operand w v v v

-- a node of a kind and a width with the operands x and y
abbrev pub node : ℕ → ℕ → Operand → Operand → Spot
node k w x y = record {
  kind = k;
  width = w;
  low = 0;
  widths = record { a = x.wide; b = y.wide; c = 0 };
  los = record { a = x.lo; b = y.lo; c = 0 };
  his = record { a = x.hi; b = y.hi; c = 0 };
  current = record { a = x.now; b = y.now; c = 0 };
}

-- the kinds by their numbers: 3 and, 4 xor, 5 add, 6 mul, 7 shl, 8 lshr, 9 eq, 10 below, 12 concat, 14 signed below, 15 arithmetic shift,
-- 16 sign extension, 17 division; x stands at position 0 but where an amount or a divisor is asked for
pub record PaperNumbers : Type 0 where
  -- "4 bits, x · 6 = 2: inverse set 3, 11. Proposal 4 gives 11; 12 gives 3."
  pub product : Exactly (Inverse (node 6 4 (free 4) (number 4 6)) 2 0) (3 ∷ 11 ∷ [])
  pub product_4 : Pick (Inverse (node 6 4 (free 4) (number 4 6)) 2 0) 4 11
  pub product_12 : Pick (Inverse (node 6 4 (free 4) (number 4 6)) 2 0) 12 3
  -- "2 bits, x fixed to 1 on top, x · 3 = 1: 3 only. x · 0 = 1: no inverse; consistent: 3."
  pub top : Exactly (Inverse (node 6 2 (operand 2 2 3 2) (number 2 3)) 1 0) (3 ∷ [])
  pub by_zero : Exactly (Inverse (node 6 2 (operand 2 2 3 2) (number 2 0)) 1 0) []
  pub by_some : Exactly (Consistent (node 6 2 (operand 2 2 3 2) (number 2 0)) 1 0) (3 ∷ [])
  -- "64 bits, x · 2 = 0: 0 and 2^63; proposal 1 gives 2^63."
  pub wide : Exactly (Inverse (node 6 64 (free 64) (number 64 2)) 0 0) (0 ∷ 2 ^ 63 ∷ [])
  pub wide_1 : Pick (Inverse (node 6 64 (free 64) (number 64 2)) 0 0) 1 (2 ^ 63)
  -- "8 bits, x + 200 = 44: 100."
  pub sum : Exactly (Inverse (node 5 8 (free 8) (number 8 200)) 44 0) (100 ∷ [])
  -- "4 bits, x & 14: target 1 has no inverse; target 2 has 2 and 3."
  pub mask_1 : Exactly (Inverse (node 3 4 (free 4) (number 4 14)) 1 0) []
  pub mask_2 : Exactly (Inverse (node 3 4 (free 4) (number 4 14)) 2 0) (2 ∷ 3 ∷ [])
  -- "4 bits, 6 shl x = 0: 3 to 15; with the top two bits of x fixed at 0, only 3."
  pub amount : Exactly (Inverse (node 7 4 (number 4 6) (free 4)) 0 1) (3 ∷ 4 ∷ 5 ∷ 6 ∷ 7 ∷ 8 ∷ 9 ∷ 10 ∷ 11 ∷ 12 ∷ 13 ∷ 14 ∷ 15 ∷ [])
  pub amount_low : Exactly (Inverse (node 7 4 (number 4 6) (operand 4 0 3 0)) 0 1) (3 ∷ [])
  -- "4 bits, x lshr s = 6, consistent: 6, 12, 13; proposal 7 gives 12."
  pub shifted : Exactly (Consistent (node 8 4 (free 4) (free 4)) 6 0) (6 ∷ 12 ∷ 13 ∷ [])
  pub shifted_7 : Pick (Consistent (node 8 4 (free 4) (free 4)) 6 0) 7 12
  -- "4 bits, x below s, target 1, x now 11, s now 8 with pair 8, 9: x is essential, s is not."
  pub x_essential : Essential (node 10 1 (operand 4 0 15 11) (operand 4 8 9 8)) 1 0
  pub s_not_essential : Essential (node 10 1 (operand 4 0 15 11) (operand 4 8 9 8)) 1 1 → ⊥
  -- "1 bit, (x eq 1), target 0: 0; with x fixed at 1, nothing."
  pub equal : Exactly (Inverse (node 9 1 (free 1) (number 1 1)) 0 0) (0 ∷ [])
  pub equal_fixed : Exactly (Inverse (node 9 1 (number 1 1) (number 1 1)) 0 0) []
  -- "4 bits, x with low bits 01 and top two free, plus 3: fixed low bits 00, top two free."
  pub fixed_sum : (r : Pair) → pair_of add 4 4 4 0 (pair 1 13) (pair 3 3) r ≡ pair 0 12
  -- R-1. 4 bits, x signed below 2: 0, 1 and the negative ones; proposal 3 gives 8. With x's sign fixed at 0, x signed below 9 (that is -7): nothing.
  pub signed : Exactly (Inverse (node 14 1 (free 4) (number 4 2)) 1 0) (0 ∷ 1 ∷ 8 ∷ 9 ∷ 10 ∷ 11 ∷ 12 ∷ 13 ∷ 14 ∷ 15 ∷ [])
  pub signed_3 : Pick (Inverse (node 14 1 (free 4) (number 4 2)) 1 0) 3 8
  pub signed_fixed : Exactly (Inverse (node 14 1 (operand 4 0 7 0) (number 4 9)) 1 0) []
  -- x signed below s, consistent: all but 7, the greatest.
  pub signed_some : Exactly (Consistent (node 14 1 (free 4) (free 4)) 1 0) (0 ∷ 1 ∷ 2 ∷ 3 ∷ 4 ∷ 5 ∷ 6 ∷ 8 ∷ 9 ∷ 10 ∷ 11 ∷ 12 ∷ 13 ∷ 14 ∷ 15 ∷ [])
  -- 1*** is signed below 0***; *000 and 0000 leave it open.
  pub signed_pair : (r : Pair) → pair_of slt 1 4 4 0 (pair 8 15) (pair 0 7) r ≡ pair 1 1
  pub signed_open : (r : Pair) → pair_of slt 1 4 4 0 (pair 0 8) (pair 0 0) r ≡ pair 0 1
  -- 4 bits, x ashr 1 = 12: 8 and 9; x ashr 1 = 4: nothing. 9 ashr x = 15: 3 to 15.
  pub filled : Exactly (Inverse (node 15 4 (free 4) (number 4 1)) 12 0) (8 ∷ 9 ∷ [])
  pub unfilled : Exactly (Inverse (node 15 4 (free 4) (number 4 1)) 4 0) []
  pub filled_amount : Exactly (Inverse (node 15 4 (number 4 9) (free 4)) 15 1) (3 ∷ 4 ∷ 5 ∷ 6 ∷ 7 ∷ 8 ∷ 9 ∷ 10 ∷ 11 ∷ 12 ∷ 13 ∷ 14 ∷ 15 ∷ [])
  -- x ashr s = 13, consistent: 10, 11, 13; proposal 12 gives 13.
  pub filled_some : Exactly (Consistent (node 15 4 (free 4) (free 4)) 13 0) (10 ∷ 11 ∷ 13 ∷ [])
  pub filled_some_12 : Pick (Consistent (node 15 4 (free 4) (free 4)) 13 0) 12 13
  -- 1*00 shifted by 1 is 11*0.
  pub filled_pair : (r : Pair) → pair_of ashr 4 4 4 0 (pair 8 12) (pair 1 1) r ≡ pair 12 14
  -- x of 4 bits extended to 8 is 249: 9; is 9: nothing. *001 extended to 6 bits is ***001.
  pub extended : Exactly (Inverse (node 16 8 (free 4) (number 0 0)) 249 0) (9 ∷ [])
  pub unextended : Exactly (Inverse (node 16 8 (free 4) (number 0 0)) 9 0) []
  pub extended_pair : (q r : Pair) → pair_of sext 6 4 0 0 (pair 1 9) q r ≡ pair 1 57
  -- R-11. 4 bits, x div 3 = 4: 12, 13, 14. x div 0 = 15: everything; x div 0 = 3: nothing.
  pub quotient : Exactly (Inverse (node 17 4 (free 4) (number 4 3)) 4 0) (12 ∷ 13 ∷ 14 ∷ [])
  pub zero_divisor : Exactly (Inverse (node 17 4 (free 4) (number 4 0)) 15 0) (0 ∷ 1 ∷ 2 ∷ 3 ∷ 4 ∷ 5 ∷ 6 ∷ 7 ∷ 8 ∷ 9 ∷ 10 ∷ 11 ∷ 12 ∷ 13 ∷ 14 ∷ 15 ∷ [])
  pub no_dividend : Exactly (Inverse (node 17 4 (free 4) (number 4 0)) 3 0) []
  -- 13 div x = 3: 4; 13 div x = 15: 0. x div s = 6, consistent: 6, 12, 13; proposal 7 gives 12.
  pub divisor : Exactly (Inverse (node 17 4 (number 4 13) (free 4)) 3 1) (4 ∷ [])
  pub divisor_zero : Exactly (Inverse (node 17 4 (number 4 13) (free 4)) 15 1) (0 ∷ [])
  pub dividend : Exactly (Consistent (node 17 4 (free 4) (free 4)) 6 0) (6 ∷ 12 ∷ 13 ∷ [])
  pub dividend_7 : Pick (Consistent (node 17 4 (free 4) (free 4)) 6 0) 7 12
  -- 13 by 0 is 1111; 13 by 0*** is open.
  pub quotient_pair : (r : Pair) → pair_of udiv 4 4 4 0 (pair 13 13) (pair 0 0) r ≡ pair 15 15
  pub quotient_open : (r : Pair) → pair_of udiv 4 4 4 0 (pair 13 13) (pair 0 7) r ≡ pair 0 15
  -- R-4, consistent: s has fixed bits too. 4 bits, x & s = 2 with s of pair 1, 15: 2, 6, 10, 14; of pair 0, 13, which lacks the bit: nothing.
  pub held_mask : Exactly (Consistent (node 3 4 (free 4) (operand 4 1 15 1)) 2 0) (2 ∷ 6 ∷ 10 ∷ 14 ∷ [])
  pub held_none : Exactly (Consistent (node 3 4 (free 4) (operand 4 0 13 0)) 2 0) []
  -- x xor s = 3 with s of pair 5, 7: 4 and 6. x eq s, target 1: 5 and 7; target 0 with s fixed at 5: all but 5.
  pub held_xor : Exactly (Consistent (node 4 4 (free 4) (operand 4 5 7 5)) 3 0) (4 ∷ 6 ∷ [])
  pub held_equal : Exactly (Consistent (node 9 1 (free 4) (operand 4 5 7 5)) 1 0) (5 ∷ 7 ∷ [])
  pub held_apart : Exactly (Consistent (node 9 1 (free 3) (number 3 5)) 0 0) (0 ∷ 1 ∷ 2 ∷ 3 ∷ 4 ∷ 6 ∷ 7 ∷ [])
  -- x below s with s of pair 0, 2: 0 and 1. x signed below s with s of pair 8, 9 (-8 or -7): 8.
  pub held_below : Exactly (Consistent (node 10 1 (free 4) (operand 4 0 2 0)) 1 0) (0 ∷ 1 ∷ [])
  pub held_signed : Exactly (Consistent (node 14 1 (free 4) (operand 4 8 9 8)) 1 0) (8 ∷ [])
  -- x above the 2 bits of s is 9: 2, if s may be 1; with s of pair 2, 3 nothing.
  pub held_joined : Exactly (Consistent (node 12 4 (free 2) (operand 2 0 1 0)) 9 0) (2 ∷ [])
  pub held_apart_joined : Exactly (Consistent (node 12 4 (free 2) (operand 2 2 3 2)) 9 0) []
  -- of a kind that stays, s is any at all: x lshr s = 6 with s fixed at 1: 6, 12, 13 as before.
  pub stayed : Exactly (Consistent (node 8 4 (free 4) (number 4 1)) 6 0) (6 ∷ 12 ∷ 13 ∷ [])

-- ---- its proof: small widths by a test of every value, 64 bits by law

abbrev listed_b : List ℕ → ℕ → Bool
listed_b [] v = false
listed_b (x ∷ xs) v = v == x || listed_b xs v

abbrev same_b : Bool → Bool → Bool
same_b true b = b
same_b false true = false
same_b false false = true

abbrev all_b : (ℕ → Bool) → List ℕ → Bool
all_b f [] = true
all_b f (x ∷ xs) = f x && all_b f xs

-- the list has the numbers below n that pass the test, and no other
abbrev exactly_b : ℕ → (ℕ → Bool) → List ℕ → Bool
exactly_b n f vs = every n (λ v. same_b (f v) (listed_b vs v)) && all_b (λ v. nat_lt v n && f v) vs

listed_to : (vs : List ℕ) (v : ℕ) → T (listed_b vs v) → Listed vs v
listed_to [] v k = k
listed_to (x ∷ xs) v k = go (v == x) refl k (listed_to xs v)
  where
    go : (b : Bool) → (v == x) ≡ b → T (b || listed_b xs v) → (T (listed_b xs v) → Listed xs v) → (v ≡ x) ⊎ Listed xs v
    go true e q ih = inl (eqb→eq v x (subst T (sym e) tt))
    go false e q ih = inr (ih q)

all_at : (f : ℕ → Bool) (vs : List ℕ) → T (all_b f vs) → (v : ℕ) → Listed vs v → T (f v)
all_at f [] k v m = absurd m
all_at f (x ∷ xs) k v (inl e) = subst (λ (n : ℕ). T (f n)) (sym e) (and_l (f x) (all_b f xs) k)
all_at f (x ∷ xs) k v (inr m) = all_at f xs (and_r (f x) (all_b f xs) k) v m

same_to : (a b : Bool) → T (same_b a b) → T a → T b
same_to true b k h = k
same_to false b k h = absurd h

module _ (A : ℕ → Type 0) (n : ℕ) (f : ℕ → Bool) (to : (v : ℕ) → Passes n f v → A v) (back : (v : ℕ) → A v → Passes n f v) where
  exactly_of : (vs : List ℕ) → T (exactly_b n f vs) → Exactly A vs
  exactly_of vs k = record {
    only = λ v m. let p = back v m in listed_to vs v (same_to (f v) (listed_b vs v) (every_at n told here v p.below) p.passes);
    all = λ v m. let q = all_at kept vs there v m in to v (record { below = ltb→lt v n (and_l (nat_lt v n) (f v) q); passes = and_r (nat_lt v n) (f v) q });
  }
    where
      told : ℕ → Bool
      told = λ v. same_b (f v) (listed_b vs v)

      kept : ℕ → Bool
      kept = λ v. nat_lt v n && f v

      here : T (every n told)
      here = and_l (every n told) (all_b kept vs) k

      there : T (all_b kept vs)
      there = and_r (every n told) (all_b kept vs) k

  pick_at : (p v : ℕ) → T (pick_is n f p v) → Pick A p v
  pick_at p v k = pick_same (Passes n f) A to back p v (pick_of n f p v k)

module _ (S : Spot) (t i : ℕ) (under : at S.his i < 2 ^ at S.widths i) where
  inverses : (vs : List ℕ) → T (exactly_b (2 ^ at S.widths i) (inverse_b S t i) vs) → Exactly (Inverse S t i) vs
  inverses = exactly_of (Inverse S t i) (2 ^ at S.widths i) (inverse_b S t i) (inverse_to S t i under) (inverse_back S t i under)

  inverse_pick : (p v : ℕ) → T (pick_is (2 ^ at S.widths i) (inverse_b S t i) p v) → Pick (Inverse S t i) p v
  inverse_pick = pick_at (Inverse S t i) (2 ^ at S.widths i) (inverse_b S t i) (inverse_to S t i under) (inverse_back S t i under)

  module _ (here : i < positions S) where
    consistents : (vs : List ℕ) → T (exactly_b (2 ^ at S.widths i) (consistent_b S t i) vs) → Exactly (Consistent S t i) vs
    consistents = exactly_of (Consistent S t i) (2 ^ at S.widths i) (consistent_b S t i) (consistent_to S t i under here) (consistent_back S t i under here)

    consistent_pick : (p v : ℕ) → T (pick_is (2 ^ at S.widths i) (consistent_b S t i) p v) → Pick (Consistent S t i) p v
    consistent_pick = pick_at (Consistent S t i) (2 ^ at S.widths i) (consistent_b S t i) (consistent_to S t i under here) (consistent_back S t i under here)

-- 64 bits: the low 63 bits are settled at 0, and the top bit is free
wide_set : Exactly (Inverse (node 6 64 (free 64) (number 64 2)) 0 0) (0 ∷ 2 ^ 63 ∷ [])
wide_set = record { only = λ v m. low v (agrees_lt 64 (omega arith) m.agrees) (solve 63 1 1 1 (record { one = refl }) v 0 m.gives).1; all = back }
  where
    low : (v : ℕ) → v < 2 ^ 64 → v % 2 ^ 63 ≡ 0 → (v ≡ 0) ⊎ (v ≡ 2 ^ 63) ⊎ ⊥
    low v h e = ⊎_elim (λ (l : v < 2 ^ 63). inl (sym (mod-eq_of_lt l) ∙ e)) (λ (l : 2 ^ 63 ≤ v). inr (inl (omega arith))) (lt_or_ge v (2 ^ 63))

    at_top : (v : ℕ) → v < 2 ^ 64 → v * 2 % 2 ^ 64 ≡ 0 → Inverse (node 6 64 (free 64) (number 64 2)) 0 0 v
    at_top v h e = record { agrees = agrees_of_within (within_zero v) (within_ones 64 h); gives = e }

    back : (v : ℕ) → Listed (0 ∷ 2 ^ 63 ∷ []) v → Inverse (node 6 64 (free 64) (number 64 2)) 0 0 v
    back v (inl e) = at_top v (omega arith) (rw e)
    back v (inr (inl e)) = at_top v (omega arith) (rw e)
    back v (inr (inr e)) = absurd e

wide_pick : Pick (Inverse (node 6 64 (free 64) (number 64 2)) 0 0) 1 (2 ^ 63)
wide_pick = above (record { member = wide_set.all (2 ^ 63) (inr (inl refl)); from = omega arith; least = λ u m l. go u (wide_set.only u m) l })
  where
    go : (u : ℕ) → (u ≡ 0) ⊎ (u ≡ 2 ^ 63) ⊎ ⊥ → 1 ≤ u → 2 ^ 63 ≤ u
    go u (inl e) l = absurd (omega arith)
    go u (inr (inl e)) l = le_of_eq (sym e)
    go u (inr (inr e)) l = absurd e

-- 11 is below no value of s, which is 8 or 9; 8 has a value of x below it
abbrev order : Spot
order = node 10 1 (operand 4 0 15 11) (operand 4 8 9 8)

x_must : Essential order 1 0
unfolding Essential
x_must o g m =
    let l = ltb-true 11 o.b (told (nat_lt 11 o.b) m) in
    let u = within_le (within_hi (g 1 (record { below = omega arith; apart = λ e. omega arith }))) in
    omega arith
  where
    told : (b : Bool) → flag b ≡ 1 → b ≡ true
    told true e = refl
    told false e = absurd (omega arith)

s_may : Essential order 1 1 → ⊥
unfolding Essential
s_may E = E (record { a = 0; b = 8; c = 0 }) (λ j q. agrees j q.below q.apart) refl
  where
    agrees : (j : ℕ) → j < 2 → (j ≢ 1) → Agrees (at order.los j) (at order.his j) (at (record { a = 0; b = 8; c = 0 }) j)
    agrees zero l f = agrees_to 0 15 0 tt
    agrees (suc zero) l f = absurd (f refl)
    agrees (suc (suc j)) l f = absurd (omega arith)

pair_of_sum : (r : Pair) → pair_of add 4 4 4 0 (pair 1 13) (pair 3 3) r ≡ pair 0 12
pair_of_sum r = refl

-- signed words, whose signs are bits
module _ (q r : Pair) where
  pairs_signed : (pair_of slt 1 4 4 0 (pair 8 15) (pair 0 7) r ≡ pair 1 1) × (pair_of slt 1 4 4 0 (pair 0 8) (pair 0 0) r ≡ pair 0 1)
  unfolding bit over
  pairs_signed = (refl, refl)

  pairs_filled : (pair_of ashr 4 4 4 0 (pair 8 12) (pair 1 1) r ≡ pair 12 14) × (pair_of sext 6 4 0 0 (pair 1 9) q r ≡ pair 1 57)
  unfolding bit
  pairs_filled = (refl, refl)

pub paper_numbers : PaperNumbers
unfolding bit
paper_numbers = record {
  product = inverses (node 6 4 (free 4) (number 4 6)) 2 0 (omega arith) (3 ∷ 11 ∷ []) tt;
  product_4 = inverse_pick (node 6 4 (free 4) (number 4 6)) 2 0 (omega arith) 4 11 tt;
  product_12 = inverse_pick (node 6 4 (free 4) (number 4 6)) 2 0 (omega arith) 12 3 tt;
  top = inverses (node 6 2 (operand 2 2 3 2) (number 2 3)) 1 0 (omega arith) (3 ∷ []) tt;
  by_zero = inverses (node 6 2 (operand 2 2 3 2) (number 2 0)) 1 0 (omega arith) [] tt;
  by_some = consistents (node 6 2 (operand 2 2 3 2) (number 2 0)) 1 0 (omega arith) (omega arith) (3 ∷ []) tt;
  wide = wide_set;
  wide_1 = wide_pick;
  sum = inverses (node 5 8 (free 8) (number 8 200)) 44 0 (omega arith) (100 ∷ []) tt;
  mask_1 = inverses (node 3 4 (free 4) (number 4 14)) 1 0 (omega arith) [] tt;
  mask_2 = inverses (node 3 4 (free 4) (number 4 14)) 2 0 (omega arith) (2 ∷ 3 ∷ []) tt;
  amount = inverses (node 7 4 (number 4 6) (free 4)) 0 1 (omega arith) (3 ∷ 4 ∷ 5 ∷ 6 ∷ 7 ∷ 8 ∷ 9 ∷ 10 ∷ 11 ∷ 12 ∷ 13 ∷ 14 ∷ 15 ∷ []) tt;
  amount_low = inverses (node 7 4 (number 4 6) (operand 4 0 3 0)) 0 1 (omega arith) (3 ∷ []) tt;
  shifted = consistents (node 8 4 (free 4) (free 4)) 6 0 (omega arith) (omega arith) (6 ∷ 12 ∷ 13 ∷ []) tt;
  shifted_7 = consistent_pick (node 8 4 (free 4) (free 4)) 6 0 (omega arith) (omega arith) 7 12 tt;
  x_essential = x_must;
  s_not_essential = s_may;
  equal = inverses (node 9 1 (free 1) (number 1 1)) 0 0 (omega arith) (0 ∷ []) tt;
  equal_fixed = inverses (node 9 1 (number 1 1) (number 1 1)) 0 0 (omega arith) [] tt;
  fixed_sum = pair_of_sum;
  signed = inverses (node 14 1 (free 4) (number 4 2)) 1 0 (omega arith) (0 ∷ 1 ∷ 8 ∷ 9 ∷ 10 ∷ 11 ∷ 12 ∷ 13 ∷ 14 ∷ 15 ∷ []) tt;
  signed_3 = inverse_pick (node 14 1 (free 4) (number 4 2)) 1 0 (omega arith) 3 8 tt;
  signed_fixed = inverses (node 14 1 (operand 4 0 7 0) (number 4 9)) 1 0 (omega arith) [] tt;
  signed_some = consistents (node 14 1 (free 4) (free 4)) 1 0 (omega arith) (omega arith) (0 ∷ 1 ∷ 2 ∷ 3 ∷ 4 ∷ 5 ∷ 6 ∷ 8 ∷ 9 ∷ 10 ∷ 11 ∷ 12 ∷ 13 ∷ 14 ∷ 15 ∷ []) tt;
  signed_pair = λ r. (pairs_signed r r).0;
  signed_open = λ r. (pairs_signed r r).1;
  filled = inverses (node 15 4 (free 4) (number 4 1)) 12 0 (omega arith) (8 ∷ 9 ∷ []) tt;
  unfilled = inverses (node 15 4 (free 4) (number 4 1)) 4 0 (omega arith) [] tt;
  filled_amount = inverses (node 15 4 (number 4 9) (free 4)) 15 1 (omega arith) (3 ∷ 4 ∷ 5 ∷ 6 ∷ 7 ∷ 8 ∷ 9 ∷ 10 ∷ 11 ∷ 12 ∷ 13 ∷ 14 ∷ 15 ∷ []) tt;
  filled_some = consistents (node 15 4 (free 4) (free 4)) 13 0 (omega arith) (omega arith) (10 ∷ 11 ∷ 13 ∷ []) tt;
  filled_some_12 = consistent_pick (node 15 4 (free 4) (free 4)) 13 0 (omega arith) (omega arith) 12 13 tt;
  filled_pair = λ r. (pairs_filled r r).0;
  extended = inverses (node 16 8 (free 4) (number 0 0)) 249 0 (omega arith) (9 ∷ []) tt;
  unextended = inverses (node 16 8 (free 4) (number 0 0)) 9 0 (omega arith) [] tt;
  extended_pair = λ q r. (pairs_filled q r).1;
  quotient = inverses (node 17 4 (free 4) (number 4 3)) 4 0 (omega arith) (12 ∷ 13 ∷ 14 ∷ []) tt;
  zero_divisor = inverses (node 17 4 (free 4) (number 4 0)) 15 0 (omega arith) (0 ∷ 1 ∷ 2 ∷ 3 ∷ 4 ∷ 5 ∷ 6 ∷ 7 ∷ 8 ∷ 9 ∷ 10 ∷ 11 ∷ 12 ∷ 13 ∷ 14 ∷ 15 ∷ []) tt;
  no_dividend = inverses (node 17 4 (free 4) (number 4 0)) 3 0 (omega arith) [] tt;
  divisor = inverses (node 17 4 (number 4 13) (free 4)) 3 1 (omega arith) (4 ∷ []) tt;
  divisor_zero = inverses (node 17 4 (number 4 13) (free 4)) 15 1 (omega arith) (0 ∷ []) tt;
  dividend = consistents (node 17 4 (free 4) (free 4)) 6 0 (omega arith) (omega arith) (6 ∷ 12 ∷ 13 ∷ []) tt;
  dividend_7 = consistent_pick (node 17 4 (free 4) (free 4)) 6 0 (omega arith) (omega arith) 7 12 tt;
  quotient_pair = λ r. refl;
  quotient_open = λ r. refl;
  held_mask = consistents (node 3 4 (free 4) (operand 4 1 15 1)) 2 0 (omega arith) (omega arith) (2 ∷ 6 ∷ 10 ∷ 14 ∷ []) tt;
  held_none = consistents (node 3 4 (free 4) (operand 4 0 13 0)) 2 0 (omega arith) (omega arith) [] tt;
  held_xor = consistents (node 4 4 (free 4) (operand 4 5 7 5)) 3 0 (omega arith) (omega arith) (4 ∷ 6 ∷ []) tt;
  held_equal = consistents (node 9 1 (free 4) (operand 4 5 7 5)) 1 0 (omega arith) (omega arith) (5 ∷ 7 ∷ []) tt;
  held_apart = consistents (node 9 1 (free 3) (number 3 5)) 0 0 (omega arith) (omega arith) (0 ∷ 1 ∷ 2 ∷ 3 ∷ 4 ∷ 6 ∷ 7 ∷ []) tt;
  held_below = consistents (node 10 1 (free 4) (operand 4 0 2 0)) 1 0 (omega arith) (omega arith) (0 ∷ 1 ∷ []) tt;
  held_signed = consistents (node 14 1 (free 4) (operand 4 8 9 8)) 1 0 (omega arith) (omega arith) (8 ∷ []) tt;
  held_joined = consistents (node 12 4 (free 2) (operand 2 0 1 0)) 9 0 (omega arith) (omega arith) (2 ∷ []) tt;
  held_apart_joined = consistents (node 12 4 (free 2) (operand 2 2 3 2)) 9 0 (omega arith) (omega arith) [] tt;
  stayed = consistents (node 8 4 (free 4) (number 4 1)) 6 0 (omega arith) (omega arith) (6 ∷ 12 ∷ 13 ∷ []) tt;
}
