-- Laws of the operators' meaning, over the width: the value is of the node's width, and only the operands that the kind has bear on it.
use Rattle.std.specs.Prelude.{◌≡◌, ℕ, zero, suc, ◌+◌, ◌*◌, ◌/◌, ◌^◌, ◌<◌, ◌≤◌, Bool, true, false, ◌==◌, nat_le, nat_lt, refl}
use Rattle.std.proofs.Common.{sym, ap₂, ◌∙◌, le_of_lt, mod-lt, lt_of_le_of_lt, arith, pow_pos, pow_mono, pow-add, leb-true}
use Rattle.std.proofs.lemmas.Bool.{false≢true}
use Rattle.std.proofs.Math.Arith.{digits_lt}
use Rattle.std.specs.Int.Bits.{and_lt}
use Rattle.std.proofs.lemmas.Nat.{xor_lt, shr_le}
use Rattle.std.proofs.Math.Pow.{ones_sub-lt}
use Rattle.operators.specs.declared.table.Rule.{Rule}
use Rattle.operators.specs.declared.table.Rule.TheVariants.{Free, One, Both, Equal, Choice, Sum, Part, Longer, Narrow}
use Rattle.operators.specs.Table.{Kind, variable, constant, inv, conj, xor, add, mul, shl, lshr, eq, below, ite, concat, extract, slt, ashr, sext, udiv, shape, RuleMet}
use Rattle.operators.specs.laws.Table.{evenly}
use Rattle.operators.specs.Meaning.{flag, choose, signed_less, meaning, Fit}
use Rattle.operators.specs.laws.Signed.{ashr_lt, extended_lt}
use Rattle.operators.specs.laws.Division.{quotient_lt}
use Rattle.operators.specs.inner.Ready.{Used}

-- ---- the value of a node is of the node's width

flag_lt : (t : Bool) (w : ℕ) → 1 ≤ w → flag t < 2 ^ w
flag_lt true w h = pow_mono h
flag_lt false w h = pow_pos w

choose_lt : (x y z m : ℕ) → y < m → z < m → choose x y z < m
choose_lt zero y z m hy hz = hz
choose_lt (suc x) y z m hy hz = hy

-- wa high bits over wb low ones
pub joined_lt : (w wa wb x y : ℕ) → wa + wb ≡ w → x < 2 ^ wa → y < 2 ^ wb → x * 2 ^ wb + y < 2 ^ w
joined_lt w wa wb x y e hx hy = rw (← e, pow-add) (digits_lt hx hy)

pub meaning_lt : (o : Kind) (w wa wb low x y z : ℕ) → 1 ≤ w → Fit (shape o).rule w wa wb low x y z → meaning o w wa wb low x y z < 2 ^ w
meaning_lt variable w wa wb low x y z h f = pow_pos w
meaning_lt constant w wa wb low x y z h f = pow_pos w
meaning_lt inv w wa wb low x y z h f = ones_sub-lt w x
meaning_lt conj w wa wb low x y z h f = and_lt w x y f.0 f.1
meaning_lt xor w wa wb low x y z h f = xor_lt w x y f.0 f.1
meaning_lt add w wa wb low x y z h f = mod-lt (x + y) (pow_pos w)
meaning_lt mul w wa wb low x y z h f = mod-lt (x * y) (pow_pos w)
meaning_lt shl w wa wb low x y z h f = mod-lt (x * 2 ^ y) (pow_pos w)
meaning_lt lshr w wa wb low x y z h f = lt_of_le_of_lt (shr_le x y) f.0
meaning_lt eq w wa wb low x y z h f = flag_lt (x == y) w h
meaning_lt below w wa wb low x y z h f = flag_lt (nat_lt x y) w h
meaning_lt ite w wa wb low x y z h f = choose_lt x y z (2 ^ w) f.1 f.2
meaning_lt concat w wa wb low x y z h f = joined_lt w wa wb x y f.0 f.2 f.3
meaning_lt extract w wa wb low x y z h f = mod-lt (x / 2 ^ low) (pow_pos w)
meaning_lt slt w wa wb low x y z h f = flag_lt (signed_less wa x y) w h
meaning_lt ashr w wa wb low x y z h f = ashr_lt w x y f.0
meaning_lt sext w wa wb low x y z h f = extended_lt wa w f.0 (le_of_lt f.1) f.2
meaning_lt udiv w wa wb low x y z h f = quotient_lt w x y f.0

-- ---- the width rule, and operands of their nodes' widths, make a fit

-- the operands that a width rule speaks of: those of the kinds that have the rule
abbrev pub takes : Rule → ℕ
takes Free = 0
takes One = 1
takes Both = 2
takes Equal = 2
takes Choice = 3
takes Sum = 2
takes Part = 1
takes Longer = 1
takes Narrow = 2

pub takes_is : (o : Kind) → takes (shape o).rule ≡ (shape o).operands
takes_is variable = refl
takes_is constant = refl
takes_is inv = refl
takes_is conj = refl
takes_is xor = refl
takes_is add = refl
takes_is mul = refl
takes_is shl = refl
takes_is lshr = refl
takes_is eq = refl
takes_is below = refl
takes_is ite = refl
takes_is concat = refl
takes_is extract = refl
takes_is slt = refl
takes_is ashr = refl
takes_is sext = refl
takes_is udiv = refl

pub even_two : (o : Kind) → evenly (shape o).rule ≡ true → (shape o).operands ≡ 2
even_two o e = sym (takes_is o) ∙ two (shape o).rule e
  where
    two : (r : Rule) → evenly r ≡ true → takes r ≡ 2
    two Free e = absurd (false≢true e)
    two One e = absurd (false≢true e)
    two Both e = refl
    two Equal e = absurd (false≢true e)
    two Choice e = absurd (false≢true e)
    two Sum e = absurd (false≢true e)
    two Part e = absurd (false≢true e)
    two Longer e = absurd (false≢true e)
    two Narrow e = refl

-- a number below 2 ^ n, where n is m
sized : {m n x : ℕ} → n ≡ m → x < 2 ^ n → x < 2 ^ m
sized e h = rw (← e) h

fit_rule : (r : Rule) (w wa wb wc low x y z : ℕ) → RuleMet r w wa wb wc low → (1 ≤ takes r → (1 ≤ wa) × (wa ≤ 64))
    → Used (takes r) (x < 2 ^ wa) (y < 2 ^ wb) (z < 2 ^ wc) → Fit r w wa wb low x y z
fit_rule Free w wa wb wc low x y z m h u = tt
fit_rule One w wa wb wc low x y z m h u = sized m (u.a (omega arith))
fit_rule Both w wa wb wc low x y z m h u = (sized m.0 (u.a (omega arith)), sized m.1 (u.b (omega arith)))
fit_rule Equal w wa wb wc low x y z m h u = ((h (omega arith)).0, (h (omega arith)).1, u.a (omega arith), sized (sym m.0) (u.b (omega arith)))
fit_rule Choice w wa wb wc low x y z m h u = (sized m.0 (u.a (omega arith)), sized m.1 (u.b (omega arith)), sized m.2 (u.c (omega arith)))
fit_rule Sum w wa wb wc low x y z m h u = (m, (h (omega arith)).0, u.a (omega arith), u.b (omega arith))
fit_rule Part w wa wb wc low x y z m h u = (m, (h (omega arith)).1, u.a (omega arith))
fit_rule Longer w wa wb wc low x y z m h u = ((h (omega arith)).0, m, u.a (omega arith))
fit_rule Narrow w wa wb wc low x y z m h u = (sized m.0 (u.a (omega arith)), sized m.1 (u.b (omega arith)))

-- for operands that the kind has; nothing is asked of the other positions
pub fit_used : (o : Kind) (w wa wb wc low x y z : ℕ) → RuleMet (shape o).rule w wa wb wc low → (1 ≤ (shape o).operands → (1 ≤ wa) × (wa ≤ 64))
    → Used (shape o).operands (x < 2 ^ wa) (y < 2 ^ wb) (z < 2 ^ wc) → Fit (shape o).rule w wa wb low x y z
fit_used o w wa wb wc low x y z m h u = fit_rule (shape o).rule w wa wb wc low x y z m (rw (takes_is o) h) (rw (takes_is o) u)

-- ---- only the operands that the kind has bear on the value

-- v at a position that is among the first n, and 0 at another
abbrev kept : Bool → ℕ → ℕ
kept true v = v
kept false v = 0

kept_same : (i n v v' : ℕ) → (i ≤ n → v ≡ v') → kept (nat_le i n) v ≡ kept (nat_le i n) v'
kept_same i n v v' h = by_test (nat_le i n) (λ t. h (leb-true i n t))
  where
    by_test : (t : Bool) → (t ≡ true → v ≡ v') → kept t v ≡ kept t v'
    by_test true g = g refl
    by_test false g = refl

module _ (w wa wb low x y z : ℕ) where
  abbrev of_kept : Kind → ℕ → ℕ
  of_kept o n =
      meaning o w (kept (nat_le 1 n) wa) (kept (nat_le 2 n) wb) (kept (nat_le n 1) low) (kept (nat_le 1 n) x) (kept (nat_le 2 n) y) (kept (nat_le 3 n) z)

  trimmed : (o : Kind) → meaning o w wa wb low x y z ≡ of_kept o (shape o).operands
  trimmed variable = refl
  trimmed constant = refl
  trimmed inv = refl
  trimmed conj = refl
  trimmed xor = refl
  trimmed add = refl
  trimmed mul = refl
  trimmed shl = refl
  trimmed lshr = refl
  trimmed eq = refl
  trimmed below = refl
  trimmed ite = refl
  trimmed concat = refl
  trimmed extract = refl
  trimmed slt = refl
  trimmed ashr = refl
  trimmed sext = refl
  trimmed udiv = refl

-- their widths and values alone, and the field b where that is no operand
pub meaning_alike : (o : Kind) (w wa wb low x y z wa' wb' low' x' y' z' : ℕ)
    → Used (shape o).operands ((wa ≡ wa') × (x ≡ x')) ((wb ≡ wb') × (y ≡ y')) (z ≡ z')
    → ((shape o).operands ≤ 1 → low ≡ low')
    → meaning o w wa wb low x y z ≡ meaning o w wa' wb' low' x' y' z'
meaning_alike o w wa wb low x y z wa' wb' low' x' y' z' u l =
    let n = (shape o).operands in
    trimmed w wa wb low x y z o
    ∙ ap₂ (λ (k v : ℕ). meaning o w k (kept (nat_le 2 n) wb) (kept (nat_le n 1) low) v (kept (nat_le 2 n) y) (kept (nat_le 3 n) z)) (kept_same 1 n wa wa' (λ h. (u.a h).0)) (kept_same 1 n x x' (λ h. (u.a h).1))
    ∙ ap₂ (λ (k v : ℕ). meaning o w (kept (nat_le 1 n) wa') k (kept (nat_le n 1) low) (kept (nat_le 1 n) x') v (kept (nat_le 3 n) z)) (kept_same 2 n wb wb' (λ h. (u.b h).0)) (kept_same 2 n y y' (λ h. (u.b h).1))
    ∙ ap₂ (λ (k v : ℕ). meaning o w (kept (nat_le 1 n) wa') (kept (nat_le 2 n) wb') k (kept (nat_le 1 n) x') (kept (nat_le 2 n) y') v) (kept_same n 1 low low' l) (kept_same 3 n z z' u.c)
    ∙ sym (trimmed w wa' wb' low' x' y' z' o)

pub meaning_known : (o : Kind) (w wa wb low x y z wa' wb' x' y' z' : ℕ)
    → Used (shape o).operands ((wa ≡ wa') × (x ≡ x')) ((wb ≡ wb') × (y ≡ y')) (z ≡ z')
    → meaning o w wa wb low x y z ≡ meaning o w wa' wb' low x' y' z'
meaning_known o w wa wb low x y z wa' wb' x' y' z' u = meaning_alike o w wa wb low x y z wa' wb' low x' y' z' u (λ h. refl)

pub meaning_used : (o : Kind) (w wa wb low x y z x' y' z' : ℕ) → Used (shape o).operands (x ≡ x') (y ≡ y') (z ≡ z')
    → meaning o w wa wb low x y z ≡ meaning o w wa wb low x' y' z'
meaning_used o w wa wb low x y z x' y' z' u =
    meaning_known o w wa wb low x y z wa wb x' y' z' (record { a = λ h. (refl, u.a h); b = λ h. (refl, u.b h); c = u.c })
