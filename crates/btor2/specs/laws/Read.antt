-- That what code decides from what it has read of a line is what the definition decides: what is unknown, what fits, the nodes.
use Rattle.std.specs.Prelude.{◌≡◌, refl, Bool, true, false, cond, ◌&&◌, ◌||◌, List, [], ◌∷◌, ◌++◌, ℕ, zero, suc, ◌+◌, ◌-◌, ◌^◌, ◌≤◌, ◌<◌, T, eqb, ltb, leb, length}
use Rattle.std.proofs.Common.{sym, ◌∙◌, arith, pow_pos, ne_eqb, eqb-true, leb-true, le-leb, le-ltb, ltb-true, ltb-false}
use Rattle.std.proofs.Math.Path.{ap}
use Rattle.std.proofs.Math.Bool.{not}
use Rattle.std.proofs.lemmas.Bool.{false≢true, eqb-false, lt-leb}
use Rattle.std.proofs.Math.Pow.{le_ones}
use Rattle.words.specs.laws.Cases.{every_at}
use Rattle.texts.specs.Numbers.{value_in}
use Rattle.texts.specs.laws.Runs.{both_true}
use Rattle.lines.specs.declared.table.Makes.{Makes}
use Rattle.lines.specs.declared.table.Makes.TheVariants.{Sort, Input, Value, Root}
use Rattle.spelling.specs.declared.forms.Rule.{Rule}
use Rattle.spelling.specs.declared.forms.Rule.TheVariants as rule
use Rattle.spelling.specs.declared.forms.Form.{Form}
use Rattle.spelling.specs.declared.forms.Form.TheVariants as form
use Rattle.spelling.specs.declared.line.Operand.{Operand}
use Rattle.spelling.specs.declared.line.Line.{Line}
use Rattle.lines.specs.Lines.{Token, token}
use Rattle.lines.specs.Words.{number_of, word_of, shape}
use Rattle.lines.specs.Format.{Ref, signed, unsigned, is_constant, constant_of, ref_place, constant_place, item_of, item}
use Rattle.spelling.specs.Nodes.{constant_value, fits, own, nots}
use Rattle.btor2.specs.Conversion.{State, at, operand_of, operands, width_of, any_unknown, sort_unknown, id_fault, misfit, new_nodes, node_for}
use Rattle.lines.specs.inner.Told.{id_of}
use Rattle.btor2.specs.inner.Kept.{Named}
use Rattle.spelling.specs.inner.Spelled.{rule_of, rule_fits, short, most_of, constant_fits, form_of, placed_at, three_of, count_read, new_read, standing_for, fits_read}
use Rattle.btor2.specs.inner.Read.{blank, operand_if, Operated, Read}
use Rattle.spelling.specs.inner.Constants.{Told, Literally}
use Rattle.btor2.specs.inner.Taking.{sort_missing, operand_missing, unknown_read}
use Rattle.lines.specs.laws.Text.{small_id}
use Rattle.lines.specs.laws.Word.{few_refs}
use Rattle.spelling.specs.laws.Spell.{nots_length, new_length}
use Rattle.spelling.specs.laws.Rule.{fits_rule, told_by, field_none, Fields, own_spelled}
use Rattle.btor2.specs.laws.Operand.{missing_is, Padded, padded}
use Rattle.btor2.specs.laws.Passed.{Formed}
use Rattle.btor2.specs.laws.Sound.{AllWide, wide_at, Sound, Role, makes_sort, makes_input, makes_a_value, makes_a_root, role}

-- ---- which keywords have constants

is_const : Rule → Bool
is_const rule.Free = false
is_const rule.Sort = false
is_const rule.Constant = true
is_const rule.One = false
is_const rule.Two = false
is_const rule.Compare = false
is_const rule.If = false
is_const rule.Concat = false
is_const rule.Slice = false
is_const rule.Extend = false
is_const rule.Bit = false

is_literal : Form → Bool
is_literal form.Nothing = false
is_literal form.Variable = false
is_literal form.Constant = true
is_literal (form.Plain kind) = false
is_literal form.Slice = false
is_literal form.Or = false
is_literal form.Sub = false
is_literal form.Neq = false
is_literal form.Uext = false
is_literal form.Sext = false

in_range : (a b c : Bool) → T (not a || (b && c)) → a ≡ true → (b ≡ true) × (c ≡ true)
in_range true false c t e = elim t [ ]
in_range true true false t e = elim t [ ]
in_range true true true t e = (refl, refl)
in_range false b c t e = absurd (false≢true e)

pub const_word : (k : ℕ) → k < 28 → rule_of (word_of k) ≡ rule.Constant → (4 < k) × (k < 8)
unfolding is_const rule_of
const_word k h e =
    let p = in_range (is_const (rule_of (word_of k))) (ltb 4 k) (ltb k 8) (every_at 28 (λ x. not (is_const (rule_of (word_of x))) || (ltb 4 x && ltb x 8)) tt k h) (rw e) in
    (ltb-true 4 k p.0, ltb-true k 8 p.1)

pub form_word : (k : ℕ) → k < 28 → form_of (word_of k) ≡ form.Constant → (1 < k) × (k < 8)
unfolding is_literal form_of
form_word k h e =
    let p = in_range (is_literal (form_of (word_of k))) (ltb 1 k) (ltb k 8) (every_at 28 (λ x. not (is_literal (form_of (word_of x))) || (ltb 1 x && ltb x 8)) tt k h) (rw e) in
    (ltb-true 1 k p.0, ltb-true k 8 p.1)

-- below 2^w
below_ones : (n w : ℕ) → leb n (2 ^ w - 1) ≡ ltb n (2 ^ w)
below_ones n w = by (ltb n (2 ^ w)) refl
  where
    by : (b : Bool) → ltb n (2 ^ w) ≡ b → leb n (2 ^ w - 1) ≡ b
    by true e = le-leb n (2 ^ w - 1) (le_ones w (ltb-true n (2 ^ w) e))
    by false e = lt-leb n (2 ^ w - 1) (let h : 2 ^ w ≤ n = ltb-false n (2 ^ w) e in omega (arith, pow_pos w))

-- what holds of the three keywords with constants
constants : (P : ℕ → Type 0) → P 5 → P 6 → P 7 → (k : ℕ) → 4 < k → k < 8 → P k
constants P a b c k l h = by (eqb k 5) (eqb k 6) refl refl
  where
    seven : (k ≡ 5 → ⊥) → (k ≡ 6 → ⊥) → k ≡ 7
    seven m n = omega arith

    by : (x y : Bool) → eqb k 5 ≡ x → eqb k 6 ≡ y → P k
    by true y e f = rw (eqb-true k 5 e) a
    by false true e f = rw (eqb-true k 6 f) b
    by false false e f = rw (seven (eqb-false k 5 e) (eqb-false k 6 f)) c

-- whether a constant fits, as the definition says it
pub const_fits : (k w wa wb wc p q : ℕ) (t : Token) → 4 < k → k < 8
    → constant_fits (shape (word_of k)).base w t ≡ fits (word_of k) w wa wb wc p q (constant_of (shape (word_of k)).base t)
unfolding shape constant_fits fits constant_of most_of
const_fits k w wa wb wc p q t =
    constants (λ (j : ℕ). constant_fits (shape (word_of j)).base w t ≡ fits (word_of j) w wa wb wc p q (constant_of (shape (word_of j)).base t)) refl
    (signs (signed t) (value_in 10 (unsigned t))) (below_ones (value_in 16 (unsigned t)) w) k
  where
    signs : (s : Bool) (n : ℕ) → leb n (cond (true && s) (2 ^ (w - 1)) (2 ^ w - 1)) ≡ cond s (leb n (2 ^ (w - 1))) (ltb n (2 ^ w))
    signs true n = refl
    signs false n = below_ones n w

pub base_some : (k : ℕ) → 4 < k → k < 8 → 0 < (shape (word_of k)).base
unfolding shape
base_some = constants (λ (j : ℕ). 0 < (shape (word_of j)).base) (omega arith) (omega arith) (omega arith)

-- the value that a keyword tells
told_is : (k w : ℕ) (t : Token) (v : ℕ) → Told k w t v → 1 < k → k < 8 → 1 ≤ w → w ≤ 64
    → (4 < k → constant_fits (shape (word_of k)).base w t ≡ true) → (4 < k → is_constant (shape (word_of k)).base t ≡ true)
    → v ≡ told_by (word_of k) w (constant_value w (constant_of (shape (word_of k)).base t))
unfolding told_by
told_is k w t v O l h a c f g = by (eqb k 2) (eqb k 3) (eqb k 4) refl refl refl
  where
    far : (k ≡ 2 → ⊥) → (k ≡ 3 → ⊥) → (k ≡ 4 → ⊥) → 4 < k
    far m n o = omega arith

    plain : 4 < k → (u : ℕ) → told_by (word_of k) w u ≡ u
    plain y u = constants (λ (j : ℕ). told_by (word_of j) w u ≡ u) refl refl refl k y h

    by : (x y z : Bool) → eqb k 2 ≡ x → eqb k 3 ≡ y → eqb k 4 ≡ z
        → v ≡ told_by (word_of k) w (constant_value w (constant_of (shape (word_of k)).base t))
    by true y z p q r = let e : k ≡ 2 = eqb-true k 2 p in O.zero_is e ∙ rw e
    by false true z p q r = let e : k ≡ 3 = eqb-true k 3 q in O.one_is e ∙ rw e
    by false false true p q r = let e : k ≡ 4 = eqb-true k 4 r in O.ones_are e a c ∙ rw e
    by false false false p q r =
        let y = far (eqb-false k 2 p) (eqb-false k 3 q) (eqb-false k 4 r) in
        O.constant_is y (base_some k y h) a c (f y) (g y) ∙ sym (plain y _)

-- ---- widths of operands

pub operand_wide : (σ : State) (rs : List Ref) (k : ℕ) → AllWide σ.nodes → width_of (operands σ rs) k ≤ 64
unfolding operands operand_of
operand_wide σ [] k a = omega arith
operand_wide σ (r ∷ rs) zero a = wide_at σ.nodes (at r.line σ.named) a
operand_wide σ (r ∷ rs) (suc k) a = operand_wide σ rs k a

not_not : (b : Bool) → b ≡ not (not b)
not_not true = refl
not_not false = refl

-- a short number that fits is the number
short_back : (n : ℕ) → short n < 128 → short n ≡ n
unfolding short
short_back n h = by (ltb n 128) refl h
  where
    by : (b : Bool) → ltb n 128 ≡ b → cond b n 128 < 128 → cond b n 128 ≡ n
    by true e g = refl
    by false e g = absurd (omega arith)

extend_back : (r : Rule) (w wa wb wc p q : ℕ) (t : Bool) → rule_fits r w wa wb wc (short p) q t ≡ true → w ≤ 64 → r ≡ rule.Extend → short p ≡ p
unfolding rule_fits
extend_back r w wa wb wc p q t f h e =
    let g : eqb (wa + short p) w ≡ true = rw e at f in
    let z : wa + short p ≡ w = eqb-true (wa + short p) w g in
    short_back p (omega arith)

slice_back : (r : Rule) (w wa wb wc p q : ℕ) (t : Bool) → rule_fits r w wa wb wc (short p) (short q) t ≡ true → wa ≤ 64 → r ≡ rule.Slice → short q ≡ q
unfolding rule_fits
slice_back r w wa wb wc p q t f h e =
    let g : ((leb (short q) (short p) && ltb (short p) wa) && eqb (short p - short q + 1) w) ≡ true = rw e at f in
    let a = both_true _ _ (both_true _ _ g).0 in
    let b : short q ≤ short p = leb-true (short q) (short p) a.0 in
    let c : short p < wa = ltb-true (short p) wa a.1 in
    short_back q (omega arith)

constant_back : (r : Rule) (w wa wb wc p q : ℕ) (t : Bool) → rule_fits r w wa wb wc p q t ≡ true → r ≡ rule.Constant → t ≡ true
unfolding rule_fits
constant_back r w wa wb wc p q t f e = rw e at f

blank_zero : (o : Operand) (n : ℕ) → o ≡ blank → placed_at o n ≡ 0
unfolding placed_at
blank_zero o n e = rw e

not_wanted : (b : Bool) (σ : State) (r : Ref) (o : Operand) → o ≡ operand_if b σ r → b ≡ false → o ≡ blank
unfolding operand_if
not_wanted b σ r o e f = e ∙ rw f

-- ---- a line that is read

or_first : (a b : Bool) → (a || b) ≡ false → a ≡ false
or_first true b e = absurd (false≢true (sym e))
or_first false b e = refl

or_last : (a b : Bool) → (a || b) ≡ false → b ≡ false
or_last true b e = absurd (false≢true (sym e))
or_last false b e = e

item_makes : (ts : List Token) → (shape (word_of (number_of (token ts 1)))).makes ≡ (item ts).makes
unfolding item item_of
item_makes ts = refl

item_fits : (ts : List Token) (w wa wb wc : ℕ)
    → fits (item ts).word w wa wb wc (item ts).first (item ts).second (item ts).constant
    ≡ fits (word_of (number_of (token ts 1))) w wa wb wc (item ts).first (item ts).second
    (constant_of (shape (word_of (number_of (token ts 1)))).base (token ts (constant_place (shape (word_of (number_of (token ts 1)))))))
unfolding item item_of
item_fits ts w wa wb wc = refl

item_own : (ts : List Token) (w n a b c : ℕ)
    → own (item ts).word w n a b c (item ts).first (item ts).second (constant_value w (item ts).constant)
    ≡ own (word_of (number_of (token ts 1))) w n a b c (item ts).first (item ts).second
    (constant_value w (constant_of (shape (word_of (number_of (token ts 1)))).base (token ts (constant_place (shape (word_of (number_of (token ts 1))))))))
unfolding item item_of
item_own ts w n a b c = refl

-- the keywords 1 to 26 name a sort
named_sort : (ts : List Token) (w : ℕ) → 0 < number_of (token ts 1) → number_of (token ts 1) < 27 → sort_missing (item ts).makes w ≡ eqb w 0
unfolding item item_of
named_sort ts w l h = by (number_of (token ts 1)) _ (role (number_of (token ts 1))) l h
  where
    by : (k : ℕ) (m : Makes) → Role k m → 0 < k → k < 27 → sort_missing m w ≡ eqb w 0
    by k m makes_sort p q = absurd (omega arith)
    by k m makes_input p q = refl
    by k m (makes_a_value a b) p q = refl
    by k m (makes_a_root a) p q = absurd (omega arith)

const_rule : (k : ℕ) → 4 < k → k < 8 → rule_of (word_of k) ≡ rule.Constant
unfolding rule_of
const_rule = constants (λ (j : ℕ). rule_of (word_of j) ≡ rule.Constant) refl refl refl

module _ {σ : State} {ls : List (List ℕ)} {names : ℕ} {ids places : List ℕ} (S : Sound ls σ) (N : Named σ ls names ids places)
    (ts : List Token) (F : Formed ts) (x : Line) (R : Read σ ts x) where
  abbrev k : ℕ
  k = number_of (token ts 1)

  pub id_is : x.id ≡ (item ts).id
  unfolding item item_of id_of
  id_is = R.id_is ∙ small_id (id_of ts) F.small_id

  ops : Operated σ ts (ref_place (shape (word_of k))) (shape (word_of k)).refs x.ops
  ops = rw R.word_is at R.ops_are

  literal : Literally k x.width (token ts (constant_place (shape (word_of k)))) x.literal
  literal = rw R.word_is at R.literal_is

  sort_is : (m : Makes) → sort_missing m x.width ≡ sort_unknown m (item ts).sort σ.sorts
  sort_is Sort = refl
  sort_is Input = rw (R.width_is, S.sorted.defined (item ts).sort) (not_not _)
  sort_is Value = rw (R.width_is, S.sorted.defined (item ts).sort) (not_not _)
  sort_is Root = refl

  operands_are : operand_missing x.ops ≡ any_unknown (item ts).refs σ.named
  unfolding item item_of
  operands_are = missing_is N ts (ref_place (shape (word_of k))) (shape (word_of k)).refs x.ops (few_refs k) ops

  pub unknown_is : (last : ℕ) → last ≡ σ.last → unknown_read x last ≡ id_fault σ (item ts)
  unfolding unknown_read id_fault
  unknown_is last e = rw (id_is, e, operands_are, R.word_is, makes_is, sort_is (item ts).makes)
    where
      makes_is : (shape (word_of k)).makes ≡ (item ts).makes
      makes_is = item_makes ts

  -- where nothing is unknown
  module _ (u : id_fault σ (item ts) ≡ false) where
    refs_known : any_unknown (item ts).refs σ.named ≡ false
    unfolding id_fault
    refs_known = or_last (leb (item ts).id σ.last || sort_unknown (item ts).makes (item ts).sort σ.sorts) (any_unknown (item ts).refs σ.named) u

    sort_known : sort_unknown (item ts).makes (item ts).sort σ.sorts ≡ false
    unfolding id_fault
    sort_known =
        or_last (leb (item ts).id σ.last) (sort_unknown (item ts).makes (item ts).sort σ.sorts)
        (or_first (leb (item ts).id σ.last || sort_unknown (item ts).makes (item ts).sort σ.sorts) (any_unknown (item ts).refs σ.named) u)

    pads : Padded (operands σ (item ts).refs) x.ops
    unfolding item item_of
    pads = padded N ts (ref_place (shape (word_of k))) (shape (word_of k)).refs x.ops (few_refs k) ops refs_known

    pub width_most : x.width ≤ 64
    width_most = rw R.width_is (S.sorted.most (item ts).sort)

    a_most : x.ops.a.width ≤ 64
    a_most = rw (← pads.wa_is) (operand_wide σ (item ts).refs 0 S.nodes_wide)

    -- a constant's line has a sort
    width_some : 0 < k → k < 27 → 1 ≤ x.width
    width_some l h = by (eqb x.width 0) refl
      where
        by : (b : Bool) → eqb x.width 0 ≡ b → 1 ≤ x.width
        by true e = absurd (false≢true (sym (sym (named_sort ts x.width l h) ∙ sort_is (item ts).makes ∙ sort_known) ∙ e))
        by false e = let n : x.width ≡ 0 → ⊥ = eqb-false x.width 0 e in omega arith

    literal_fits : (wa wb wc p q : ℕ) → rule_of (word_of k) ≡ rule.Constant
        → x.literal.fits ≡ fits (word_of k) x.width wa wb wc p q (constant_of (shape (word_of k)).base (token ts (constant_place (shape (word_of k)))))
    literal_fits wa wb wc p q e =
        let c = const_word k F.listed e in
        literal.fits_is (base_some k c.0 c.1) (width_some (omega arith) (omega arith)) width_most
        ∙ const_fits k x.width wa wb wc p q _ c.0 c.1

    by_rule :
        rule_fits (rule_of (word_of k)) x.width x.ops.a.width x.ops.b.width x.ops.c.width (short (item ts).first) (short (item ts).second) x.literal.fits
        ≡ fits_read x
    unfolding fits_read
    by_rule = rw (R.first_is, R.second_is, R.word_is)

    fits_are :
        fits (item ts).word (at (item ts).sort σ.sorts) (width_of (operands σ (item ts).refs) 0) (width_of (operands σ (item ts).refs) 1)
        (width_of (operands σ (item ts).refs) 2) (item ts).first (item ts).second (item ts).constant
        ≡ fits_read x
    fits_are =
        rw (pads.wa_is, pads.wb_is, pads.wc_is, ← R.width_is)
        (item_fits ts x.width x.ops.a.width x.ops.b.width x.ops.c.width
        ∙ fits_rule (word_of k) x.width x.ops.a.width x.ops.b.width x.ops.c.width (item ts).first (item ts).second _ x.literal.fits
        width_most a_most (literal_fits _ _ _ _ _)
        ∙ by_rule)

    pub misfit_is : misfit σ (item ts) ≡ not (fits_read x)
    unfolding misfit
    misfit_is = ap not fits_are

    -- and all fits
    module _ (g : fits_read x ≡ true) where
      rules : rule_fits (rule_of (word_of k)) x.width x.ops.a.width x.ops.b.width x.ops.c.width (short (item ts).first) (short (item ts).second) x.literal.fits ≡ true
      rules = by_rule ∙ g

      constant_told : form_of (word_of k) ≡ form.Constant
          → x.literal.value ≡ told_by (word_of k) x.width (constant_value x.width (constant_of (shape (word_of k)).base (token ts (constant_place (shape (word_of k))))))
      constant_told e =
          let c = form_word k F.listed e in
          told_is k x.width _ x.literal.value literal.value_is c.0 c.1 (width_some (omega arith) (omega arith)) width_most
          (λ y. sym (literal.fits_is (base_some k y c.1) (width_some (omega arith) (omega arith)) width_most)
          ∙ constant_back _ _ _ _ _ _ _ _ rules (const_rule k y c.1))
          (λ y. F.constant (ne_eqb _ 0 (λ z. let d = base_some k y c.1 in let q : (shape (word_of k)).base ≡ 0 = z in omega arith)))

      fields : (n m : ℕ)
          → Fields (word_of k) x.width (placed_at x.ops.b n) (placed_at x.ops.c m) (item ts).first (item ts).second
          (constant_value x.width (constant_of (shape (word_of k)).base (token ts (constant_place (shape (word_of k))))))
          (placed_at x.ops.b n) (placed_at x.ops.c m) x.first x.second x.literal.value
      fields n m =
          record {
            b_is = field_none _ 1 _ (λ h. blank_zero x.ops.b n (not_wanted _ σ _ x.ops.b ops.b_is (le-ltb 1 _ h)));
            c_is = field_none _ 2 _ (λ h. blank_zero x.ops.c m (not_wanted _ σ _ x.ops.c ops.c_is (le-ltb 2 _ h)));
            by_is = λ e. R.first_is ∙ extend_back _ _ _ _ _ _ _ _ rules width_most e;
            low_is = λ e. R.second_is ∙ slice_back _ _ _ _ _ _ _ _ rules a_most e;
            told = constant_told;
          }

      pub new_is : new_nodes σ (item ts) ≡ new_read x (length σ.nodes)
      unfolding new_nodes new_read
      new_is =
          rw (pads.nots_are, pads.a_is, pads.b_is, pads.c_is, ← R.width_is, nots_length x.ops)
          (ap (λ ns. nots (three_of x.ops) ++ ns)
          (item_own ts x.width _ _ _ _
          ∙ own_spelled (word_of k) x.width _ _ _ _ _ _ _ _ _ _ _ _ (fields _ _)
          ∙ rw (← R.word_is)))

      pub standing_is : node_for σ (item ts) ≡ standing_for x (length σ.nodes) (count_read x)
      unfolding node_for standing_for
      standing_is = rw (new_is, new_length x (length σ.nodes), pads.a_is)
