-- That the keywords as code groups them are those of the definitions: what must fit, and the nodes.
use Rattle.std.specs.Prelude.{◌≡◌, refl, Bool, true, false, cond, ◌&&◌, ℕ, ◌+◌, ◌-◌, ◌^◌, ◌≤◌, ◌<◌, eqb, ltb, leb}
use Rattle.std.proofs.Common.{sym, ◌∙◌, arith, ne_eqb, lt-ltb, le-ltb, ltb-true, ltb-false}
use Rattle.std.proofs.lemmas.Bool.{lt-leb}
use Rattle.spelling.specs.declared.forms.Rule.TheVariants as rule
use Rattle.spelling.specs.declared.forms.Form.TheVariants as form
use Rattle.lines.specs.Words.{Word, sort, input, zeros, one, ones, const, constd, consth, inv, conj, disj, xor, add, sub, mul, sll, srl, sra, eq, neq, ult, slt, ite, concat, slice, uext, sext, constraint, other, shape}
use Rattle.lines.specs.Format.{Constant}
use Rattle.spelling.specs.Nodes.{fits, own}
use Rattle.spelling.specs.inner.Spelled.{rule_of, rule_fits, short, form_of, or_nodes, sub_nodes, neq_nodes, uext_nodes, spelled_by}

-- ---- short numbers

pub short_same : (n : ℕ) → n < 128 → short n ≡ n
unfolding short
short_same n h = rw (lt-ltb n 128 h)

short_most : (n : ℕ) → 128 ≤ n → short n ≡ 128
unfolding short
short_most n h = rw (le-ltb n 128 h)

false_right : (a : Bool) → (a && false) ≡ false
false_right true = refl
false_right false = refl

sort_short : (p : ℕ) → (leb 1 p && leb p 64) ≡ (leb 1 (short p) && leb (short p) 64)
sort_short p = by (ltb p 128) refl
  where
    by : (t : Bool) → ltb p 128 ≡ t → (leb 1 p && leb p 64) ≡ (leb 1 (short p) && leb (short p) 64)
    by true e = rw (short_same p (ltb-true p 128 e))
    by false e =
        let h : 128 ≤ p = ltb-false p 128 e in
        rw (short_most p h, lt-leb p 64 (omega arith)) (false_right (leb 1 p))

extend_short : (w wa p : ℕ) → w ≤ 64 → eqb (wa + p) w ≡ eqb (wa + short p) w
extend_short w wa p h = by (ltb p 128) refl
  where
    by : (t : Bool) → ltb p 128 ≡ t → eqb (wa + p) w ≡ eqb (wa + short p) w
    by true e = rw (short_same p (ltb-true p 128 e))
    by false e =
        let g : 128 ≤ p = ltb-false p 128 e in
        rw (short_most p g) (ne_eqb (wa + p) w (λ z. no z) ∙ sym (ne_eqb (wa + 128) w (λ z. no2 z)))
      where
        no : wa + p ≡ w → ⊥
        no z = let g : 128 ≤ p = ltb-false p 128 e in omega arith

        no2 : wa + 128 ≡ w → ⊥
        no2 z = omega arith

slice_none : (a : Bool) (b : Bool) → b ≡ false → (c : Bool) → (a && b && c) ≡ false
slice_none true b e c = rw e
slice_none false b e c = refl

slice_short : (w wa p q : ℕ) → wa ≤ 64
    → (leb q p && ltb p wa && eqb (p - q + 1) w) ≡ (leb (short q) (short p) && ltb (short p) wa && eqb (short p - short q + 1) w)
slice_short w wa p q h = by (ltb p 128) (ltb q 128) refl refl
  where
    by : (s t : Bool) → ltb p 128 ≡ s → ltb q 128 ≡ t
        → (leb q p && ltb p wa && eqb (p - q + 1) w) ≡ (leb (short q) (short p) && ltb (short p) wa && eqb (short p - short q + 1) w)
    by true true e f = rw (short_same p (ltb-true p 128 e), short_same q (ltb-true q 128 f))
    by true false e f =
        let g : p < 128 = ltb-true p 128 e in
        let i : 128 ≤ q = ltb-false q 128 f in
        rw (short_same p g, short_most q i, lt-leb q p (omega arith), lt-leb 128 p g)
    by false t e f =
        let g : 128 ≤ p = ltb-false p 128 e in
        rw (short_most p g)
        (slice_none (leb q p) (ltb p wa) (le-ltb p wa (omega arith)) (eqb (p - q + 1) w)
        ∙ sym (slice_none (leb (short q) 128) (ltb 128 wa) (le-ltb 128 wa (omega arith)) (eqb (128 - short q + 1) w)))

-- ---- what must fit

pub fits_rule : (k : Word) (w wa wb wc p q : ℕ) (c : Constant) (t : Bool) → w ≤ 64 → wa ≤ 64
    → (rule_of k ≡ rule.Constant → t ≡ fits k w wa wb wc p q c)
    → fits k w wa wb wc p q c ≡ rule_fits (rule_of k) w wa wb wc (short p) (short q) t
unfolding fits rule_of rule_fits
fits_rule sort w wa wb wc p q c t h g f = sort_short p
fits_rule input w wa wb wc p q c t h g f = refl
fits_rule zeros w wa wb wc p q c t h g f = refl
fits_rule one w wa wb wc p q c t h g f = refl
fits_rule ones w wa wb wc p q c t h g f = refl
fits_rule const w wa wb wc p q c t h g f = sym (f refl)
fits_rule constd w wa wb wc p q c t h g f = sym (f refl)
fits_rule consth w wa wb wc p q c t h g f = sym (f refl)
fits_rule inv w wa wb wc p q c t h g f = refl
fits_rule conj w wa wb wc p q c t h g f = refl
fits_rule disj w wa wb wc p q c t h g f = refl
fits_rule xor w wa wb wc p q c t h g f = refl
fits_rule add w wa wb wc p q c t h g f = refl
fits_rule sub w wa wb wc p q c t h g f = refl
fits_rule mul w wa wb wc p q c t h g f = refl
fits_rule sll w wa wb wc p q c t h g f = refl
fits_rule srl w wa wb wc p q c t h g f = refl
fits_rule sra w wa wb wc p q c t h g f = refl
fits_rule eq w wa wb wc p q c t h g f = refl
fits_rule neq w wa wb wc p q c t h g f = refl
fits_rule ult w wa wb wc p q c t h g f = refl
fits_rule slt w wa wb wc p q c t h g f = refl
fits_rule ite w wa wb wc p q c t h g f = refl
fits_rule concat w wa wb wc p q c t h g f = refl
fits_rule slice w wa wb wc p q c t h g f = slice_short w wa p q g
fits_rule uext w wa wb wc p q c t h g f = extend_short w wa p h
fits_rule sext w wa wb wc p q c t h g f = extend_short w wa p h
fits_rule constraint w wa wb wc p q c t h g f = refl
fits_rule other w wa wb wc p q c t h g f = refl

-- ---- nodes

-- the value that a keyword tells: that of zero, one and ones, or its constant's
unfoldable pub told_by : Word → ℕ → ℕ → ℕ
told_by sort w v = v
told_by input w v = v
told_by zeros w v = 0
told_by one w v = 1
told_by ones w v = 2 ^ w - 1
told_by const w v = v
told_by constd w v = v
told_by consth w v = v
told_by inv w v = v
told_by conj w v = v
told_by disj w v = v
told_by xor w v = v
told_by add w v = v
told_by sub w v = v
told_by mul w v = v
told_by sll w v = v
told_by srl w v = v
told_by sra w v = v
told_by eq w v = v
told_by neq w v = v
told_by ult w v = v
told_by slt w v = v
told_by ite w v = v
told_by concat w v = v
told_by slice w v = v
told_by uext w v = v
told_by sext w v = v
told_by constraint w v = v
told_by other w v = v

-- the field of operand i of so many, which is 0 where a keyword has no such operand
unfoldable pub field_of : ℕ → ℕ → ℕ → ℕ
field_of refs i x = cond (ltb i refs) x 0

pub field_none : (refs i x : ℕ) → (refs ≤ i → x ≡ 0) → x ≡ field_of refs i x
unfolding field_of
field_none refs i x f = by (ltb i refs) refl
  where
    by : (t : Bool) → ltb i refs ≡ t → x ≡ cond t x 0
    by true e = refl
    by false e = f (ltb-false i refs e)

-- the fields as code has them, where the definition has b, c, p, q and v: only what a keyword's line has bears on its nodes
pub record Fields (k : Word) (w b c p q v b' c' p' q' v' : ℕ) : Type 0 where
  pub b_is : b' ≡ field_of (shape k).refs 1 b
  pub c_is : c' ≡ field_of (shape k).refs 2 c
  pub by_is : rule_of k ≡ rule.Extend → p' ≡ p
  pub low_is : rule_of k ≡ rule.Slice → q' ≡ q
  pub told : form_of k ≡ form.Constant → v' ≡ told_by k w v

pub own_spelled : (k : Word) (w n a b c p q v b' c' p' q' v' : ℕ) → Fields k w b c p q v b' c' p' q' v'
    → own k w n a b c p q v ≡ spelled_by (form_of k) w n a b' c' p' q' v'
unfolding own form_of spelled_by or_nodes sub_nodes neq_nodes uext_nodes shape told_by rule_of field_of
own_spelled sort w n a b c p q v b' c' p' q' v' F = refl
own_spelled input w n a b c p q v b' c' p' q' v' F = refl
own_spelled zeros w n a b c p q v b' c' p' q' v' F = rw (F.told refl)
own_spelled one w n a b c p q v b' c' p' q' v' F = rw (F.told refl)
own_spelled ones w n a b c p q v b' c' p' q' v' F = rw (F.told refl)
own_spelled const w n a b c p q v b' c' p' q' v' F = rw (F.told refl)
own_spelled constd w n a b c p q v b' c' p' q' v' F = rw (F.told refl)
own_spelled consth w n a b c p q v b' c' p' q' v' F = rw (F.told refl)
own_spelled inv w n a b c p q v b' c' p' q' v' F = rw (F.b_is, F.c_is)
own_spelled conj w n a b c p q v b' c' p' q' v' F = rw (F.b_is, F.c_is)
own_spelled disj w n a b c p q v b' c' p' q' v' F = rw F.b_is
own_spelled xor w n a b c p q v b' c' p' q' v' F = rw (F.b_is, F.c_is)
own_spelled add w n a b c p q v b' c' p' q' v' F = rw (F.b_is, F.c_is)
own_spelled sub w n a b c p q v b' c' p' q' v' F = rw F.b_is
own_spelled mul w n a b c p q v b' c' p' q' v' F = rw (F.b_is, F.c_is)
own_spelled sll w n a b c p q v b' c' p' q' v' F = rw (F.b_is, F.c_is)
own_spelled srl w n a b c p q v b' c' p' q' v' F = rw (F.b_is, F.c_is)
own_spelled sra w n a b c p q v b' c' p' q' v' F = rw (F.b_is, F.c_is)
own_spelled eq w n a b c p q v b' c' p' q' v' F = rw (F.b_is, F.c_is)
own_spelled neq w n a b c p q v b' c' p' q' v' F = rw F.b_is
own_spelled ult w n a b c p q v b' c' p' q' v' F = rw (F.b_is, F.c_is)
own_spelled slt w n a b c p q v b' c' p' q' v' F = rw (F.b_is, F.c_is)
own_spelled ite w n a b c p q v b' c' p' q' v' F = rw (F.b_is, F.c_is)
own_spelled concat w n a b c p q v b' c' p' q' v' F = rw (F.b_is, F.c_is)
own_spelled slice w n a b c p q v b' c' p' q' v' F = rw (F.low_is refl)
own_spelled uext w n a b c p q v b' c' p' q' v' F = rw (F.by_is refl)
own_spelled sext w n a b c p q v b' c' p' q' v' F = rw (F.by_is refl)
own_spelled constraint w n a b c p q v b' c' p' q' v' F = refl
own_spelled other w n a b c p q v b' c' p' q' v' F = refl

-- so that what holds of every form's nodes holds of every keyword's
pub own_form : (k : Word) (w n a b c p q v : ℕ)
    → own k w n a b c p q v ≡ spelled_by (form_of k) w n a (field_of (shape k).refs 1 b) (field_of (shape k).refs 2 c) p q (told_by k w v)
own_form k w n a b c p q v =
    own_spelled k w n a b c p q v _ _ p q _ (record { b_is = refl; c_is = refl; by_is = λ e. refl; low_is = λ e. refl; told = λ e. refl })
