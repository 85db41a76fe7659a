-- Laws of a line's operands: three, of which those that the line does not have are blank, stand for the definition's list.
use Rattle.std.proofs.Math.Path.{◌≡◌, refl}
use Rattle.std.proofs.Common.{sym, ◌∙◌}
use Rattle.std.specs.Prelude.{Bool, cond, ◌||◌, List, [], ◌∷◌, get_or}
use Rattle.std.proofs.Math.Bool.{true, false, not, false≢true}
use Prim.Native.Nat.{ℕ, zero, suc, ◌+◌, ◌≤◌}
use native.Mathlib.Omega.{arith}
use Rattle.std.proofs.Math.Dec.{leb}
use Rattle.std.proofs.lemmas.Bool.{lt-leb}
use Rattle.spelling.specs.declared.line.Operand.{Operand}
use Rattle.spelling.specs.declared.line.Operands.{Operands}
use Rattle.lines.specs.Lines.{Token, token}
use Rattle.lines.specs.Format.{Ref, ref_of, refs_from}
use Rattle.spelling.specs.Nodes.{nots, placed}
use Rattle.btor2.specs.Conversion.{State, known, at, operand_of, operands, width_of, any_unknown}
use Rattle.btor2.specs.inner.Kept.{Named, looked_up}
use Rattle.btor2.specs.inner.Read.{blank, operand_if, Operated}
use Rattle.spelling.specs.inner.Spelled.{one_if, placed_at, three_of}
use Rattle.btor2.specs.inner.Taking.{operand_missing}

-- ---- which are known

or_plain : (a : Bool) → (a || false) ≡ a
or_plain true = refl
or_plain false = refl

module _ {σ : State} {ls : List (List ℕ)} {names : ℕ} {ids places : List ℕ} (N : Named σ ls names ids places) where
  -- an operand that is wanted and names nothing has node 1024
  missing : (r : Ref) → leb 1024 (looked_up σ r).node ≡ not (known r.line σ.named)
  unfolding looked_up operand_of
  missing r = by (known r.line σ.named) refl
    where
      by : (b : Bool) → known r.line σ.named ≡ b → leb 1024 (looked_up σ r).node ≡ not b
      by true e = rw e (lt-leb 1024 (at r.line σ.named) (let i = N.inside r.line e in let f = N.few in omega arith))
      by false e = rw e

  pub missing_is : (ts : List Token) (place m : ℕ) (o : Operands) → m ≤ 3 → Operated σ ts place m o
      → operand_missing o ≡ any_unknown (refs_from ts place m) σ.named
  unfolding refs_from any_unknown operand_if
  missing_is ts place zero o h O = rw (O.a_is, O.b_is, O.c_is)
  missing_is ts place (suc zero) o h O = rw (O.a_is, O.b_is, O.c_is, missing (ref_of (token ts place))) (or_plain _)
  missing_is ts place (suc (suc zero)) o h O =
      rw (O.a_is, O.b_is, O.c_is, missing (ref_of (token ts place)), missing (ref_of (token ts (place + 1))))
      (by (not (known (ref_of (token ts place)).line σ.named)) (not (known (ref_of (token ts (place + 1))).line σ.named)))
    where
      by : (x y : Bool) → ((x || y) || false) ≡ (x || (y || false))
      by true y = refl
      by false true = refl
      by false false = refl
  missing_is ts place (suc (suc (suc zero))) o h O =
      let e : (place + 1) + 1 ≡ place + 2 = omega arith in
      rw (O.a_is, O.b_is, O.c_is, e, missing (ref_of (token ts place)), missing (ref_of (token ts (place + 1))), missing (ref_of (token ts (place + 2))))
      (by (not (known (ref_of (token ts place)).line σ.named)) (not (known (ref_of (token ts (place + 1))).line σ.named))
      (not (known (ref_of (token ts (place + 2))).line σ.named)))
    where
      by : (x y z : Bool) → ((x || y) || z) ≡ (x || (y || (z || false)))
      by true y z = refl
      by false true z = refl
      by false false true = refl
      by false false false = refl
  missing_is ts place (suc (suc (suc (suc m)))) o h O = absurd (omega arith)

  -- where none is missing
  found : (r : Ref) → not (known r.line σ.named) ≡ false → looked_up σ r ≡ operand_of σ r
  unfolding looked_up
  found r e = by (known r.line σ.named) refl
    where
      by : (b : Bool) → known r.line σ.named ≡ b → looked_up σ r ≡ operand_of σ r
      by true f = rw f
      by false f = absurd (true_not (sym (rw f at e)))
        where
          true_not : ◌≡◌ {A = Bool} false true → ⊥
          true_not z = false≢true z

or_both : (a b : Bool) → (a || b) ≡ false → (a ≡ false) × (b ≡ false)
or_both true b e = absurd (false≢true (sym e))
or_both false b e = (refl, e)

-- ---- the list

-- a list of at most three, and the three with blanks at its end
pub record Padded (os : List Operand) (o : Operands) : Type 0 where
  pub nots_are : nots os ≡ nots (three_of o)
  pub a_is : (n : ℕ) → get_or (placed n os) 0 0 ≡ placed_at o.a n
  pub b_is : (n : ℕ) → get_or (placed n os) 1 0 ≡ placed_at o.b (n + one_if o.a.negative)
  pub c_is : (n : ℕ) → get_or (placed n os) 2 0 ≡ placed_at o.c (n + one_if o.a.negative + one_if o.b.negative)
  pub wa_is : width_of os 0 ≡ o.a.width
  pub wb_is : width_of os 1 ≡ o.b.width
  pub wc_is : width_of os 2 ≡ o.c.width

-- by the signs
placed_head : (n : ℕ) (a : Operand) (os : List Operand) → get_or (placed n (a ∷ os)) 0 0 ≡ placed_at a n
unfolding placed placed_at
placed_head n a os = by a.negative
  where
    by : (x : Bool) → get_or (cond x (n ∷ placed (n + 1) os) (a.node ∷ placed n os)) 0 0 ≡ cond x n a.node
    by true = refl
    by false = refl

placed_next : (n k : ℕ) (a : Operand) (os : List Operand) → get_or (placed n (a ∷ os)) (suc k) 0 ≡ get_or (placed (n + one_if a.negative) os) k 0
unfolding placed one_if
placed_next n k a os = by a.negative
  where
    by : (x : Bool) → get_or (cond x (n ∷ placed (n + 1) os) (a.node ∷ placed n os)) (suc k) 0 ≡ get_or (placed (n + cond x 1 0) os) k 0
    by true = refl
    by false = let z : n + 0 ≡ n = omega arith in rw z

nots_next : (a : Operand) (xs ys : List Operand) → nots xs ≡ nots ys → nots (a ∷ xs) ≡ nots (a ∷ ys)
unfolding nots
nots_next a xs ys e = rw e

nots_blank : (xs : List Operand) → nots xs ≡ nots (blank ∷ xs)
unfolding nots
nots_blank xs = refl

blank_placed : (n : ℕ) → 0 ≡ placed_at blank n
unfolding placed_at
blank_placed n = refl

none_placed : (n k : ℕ) → get_or (placed n []) k 0 ≡ 0
unfolding placed
none_placed n zero = refl
none_placed n (suc k) = refl

pub padded_none : Padded [] (record { a = blank; b = blank; c = blank })
unfolding placed
padded_none =
    record {
      nots_are = nots_blank [] ∙ nots_next blank [] (blank ∷ []) (nots_blank []) ∙ nots_next blank (blank ∷ []) (blank ∷ blank ∷ []) (nots_next blank [] (blank ∷ []) (nots_blank []));
      a_is = λ n. blank_placed n;
      b_is = λ n. blank_placed _;
      c_is = λ n. blank_placed _;
      wa_is = refl;
      wb_is = refl;
      wc_is = refl;
    }

pub padded_one : (a : Operand) → Padded (a ∷ []) (record { a = a; b = blank; c = blank })
padded_one a =
    record {
      nots_are = nots_next a [] (blank ∷ blank ∷ []) (nots_blank [] ∙ nots_next blank [] (blank ∷ []) (nots_blank []));
      a_is = λ n. placed_head n a [];
      b_is = λ n. placed_next n 0 a [] ∙ none_placed _ 0 ∙ blank_placed _;
      c_is = λ n. placed_next n 1 a [] ∙ none_placed _ 1 ∙ blank_placed _;
      wa_is = refl;
      wb_is = refl;
      wc_is = refl;
    }

pub padded_two : (a b : Operand) → Padded (a ∷ b ∷ []) (record { a = a; b = b; c = blank })
padded_two a b =
    record {
      nots_are = nots_next a (b ∷ []) (b ∷ blank ∷ []) (nots_next b [] (blank ∷ []) (nots_blank []));
      a_is = λ n. placed_head n a (b ∷ []);
      b_is = λ n. placed_next n 0 a (b ∷ []) ∙ placed_head _ b [];
      c_is = λ n. placed_next n 1 a (b ∷ []) ∙ placed_next _ 0 b [] ∙ none_placed _ 0 ∙ blank_placed _;
      wa_is = refl;
      wb_is = refl;
      wc_is = refl;
    }

pub padded_three : (a b c : Operand) → Padded (a ∷ b ∷ c ∷ []) (record { a = a; b = b; c = c })
padded_three a b c =
    record {
      nots_are = refl;
      a_is = λ n. placed_head n a (b ∷ c ∷ []);
      b_is = λ n. placed_next n 0 a (b ∷ c ∷ []) ∙ placed_head _ b (c ∷ []);
      c_is = λ n. placed_next n 1 a (b ∷ c ∷ []) ∙ placed_next _ 0 b (c ∷ []) ∙ placed_head _ c [];
      wa_is = refl;
      wb_is = refl;
      wc_is = refl;
    }

three_is : (o : Operands) (a b c : Operand) → o.a ≡ a → o.b ≡ b → o.c ≡ c → o ≡ record { a = a; b = b; c = c }
three_is o a b c e f g = rw (← e, ← f, ← g)

-- of a line whose references all name nodes
pub padded : {σ : State} {ls : List (List ℕ)} {names : ℕ} {ids places : List ℕ} → Named σ ls names ids places
    → (ts : List Token) (place m : ℕ) (o : Operands) → m ≤ 3 → Operated σ ts place m o → any_unknown (refs_from ts place m) σ.named ≡ false
    → Padded (operands σ (refs_from ts place m)) o
unfolding refs_from any_unknown operand_if operands
padded N ts place zero o h O e = rw (three_is o blank blank blank O.a_is O.b_is O.c_is) padded_none
padded {σ} N ts place (suc zero) o h O e =
    rw (three_is o (operand_of σ (ref_of (token ts place))) blank blank (O.a_is ∙ found N _ (or_both _ false e).0) O.b_is O.c_is)
    (padded_one (operand_of σ (ref_of (token ts place))))
padded {σ} N ts place (suc (suc zero)) o h O e =
    let p = or_both _ _ e in
    let q = or_both _ false p.1 in
    rw (three_is o (operand_of σ (ref_of (token ts place))) (operand_of σ (ref_of (token ts (place + 1)))) blank (O.a_is ∙ found N _ p.0) (O.b_is ∙ found N _ q.0) O.c_is)
    (padded_two (operand_of σ (ref_of (token ts place))) (operand_of σ (ref_of (token ts (place + 1)))))
padded {σ} N ts place (suc (suc (suc zero))) o h O e =
    let z : (place + 1) + 1 ≡ place + 2 = omega arith in
    let p = or_both _ _ e in
    let q = or_both _ _ p.1 in
    let r₀ : not (known (ref_of (token ts ((place + 1) + 1))).line σ.named) ≡ false = (or_both _ false q.1).0 in
    let r : not (known (ref_of (token ts (place + 2))).line σ.named) ≡ false = rw z at r₀ in
    rw (z, three_is o (operand_of σ (ref_of (token ts place))) (operand_of σ (ref_of (token ts (place + 1)))) (operand_of σ (ref_of (token ts (place + 2)))) (O.a_is ∙ found N _ p.0) (O.b_is ∙ found N _ q.0) (O.c_is ∙ found N _ r))
    (padded_three (operand_of σ (ref_of (token ts place))) (operand_of σ (ref_of (token ts (place + 1)))) (operand_of σ (ref_of (token ts (place + 2)))))
padded N ts place (suc (suc (suc (suc m)))) o h O e = absurd (omega arith)
