-- That the nodes of a line that passes are built as they should, and so all nodes and roots of every state that lines lead to.
use Rattle.std.specs.Prelude.{◌≡◌, refl, Bool, cond, not, ◌||◌, eqb, get_or}
use Rattle.std.proofs.Common.{sym, ap, ◌∙◌, arith, pow_pos}
use Rattle.std.proofs.Math.Bool.{true, false}
use Rattle.std.proofs.lemmas.Bool.{false≢true, not-false}
use mathlib.Core.List.{List, [], ◌∷◌, ◌++◌, append_assoc}
use Prim.Native.Nat.{ℕ, zero, suc, ◌+◌, ◌^◌, ◌≤◌, ◌<◌}
use Rattle.std.proofs.Math.Pow.{ones_lt, pow-lt}
use Rattle.std.proofs.Math.ListN.{length, length-append}
use Rattle.std.proofs.Math.Seq.{append_snoc, get_or-append_seam}
use Rattle.problem.specs.declared.layout.Node.{Node}
use Rattle.lines.specs.declared.table.Makes.{Makes}
use Rattle.lines.specs.declared.table.Makes.TheVariants.{Sort, Input, Value, Root}
use Rattle.spelling.specs.declared.forms.Rule.TheVariants as rule
use Rattle.lines.specs.Words.{Word, sort, input, zeros, one, ones, const, constd, consth, inv, conj, disj, xor, add, sub, mul, sll, srl, sra, eq, neq, ult, slt, ite, concat, slice, uext, sext, constraint, other, shape}
use Rattle.lines.specs.Format.{Ref, Constant}
use Rattle.spelling.specs.Nodes.{invert, fits, own, nots, placed}
use Rattle.btor2.specs.Conversion.{Table, State, known, at, width_in, operand_of, operands, width_of, any_unknown}
use Rattle.spelling.specs.inner.Spelled.{rule_of}
use Rattle.btor2.specs.laws.Sound.{wide_at, Sound}
use Rattle.btor2.specs.laws.Built.{Built, is_variable, is_a_constant, is_not, is_of_both, is_a_test, is_choice, is_sum, is_part, is_signs, is_both, is_test, AllBuilt, width_before, Chain, Ops, both, test, or_chain, sub_chain, neq_chain, uext_chain, sext_chain, slice_chain, choice_chain, sum_chain, not_chain}

-- ---- a line's own nodes, keyword by keyword

-- the keywords whose lines have a sort
unfoldable pub has_sort : Makes → Bool
has_sort Sort = false
has_sort Input = true
has_sort Value = true
has_sort Root = false

one_fits : (w : ℕ) → 1 ≤ w → 1 < 2 ^ w
one_fits w h = let p : 2 ^ 0 < 2 ^ w = pow-lt h in p

pub own_chain : (k : Word) (ms : List Node) (w a b c wa wb wc p q v : ℕ) (t : Constant) → Ops k ms a b c wa wb wc
    → (has_sort (shape k).makes ≡ true → 1 ≤ w) → w ≤ 64 → (rule_of k ≡ rule.Constant → v < 2 ^ w) → fits k w wa wb wc p q t ≡ true
    → Chain ms (own k w (length ms) a b c p q v)
unfolding own fits shape has_sort rule_of Chain is_both is_test
own_chain sort ms w a b c wa wb wc p q v t O l h u f = tt
own_chain input ms w a b c wa wb wc p q v t O l h u f = (is_variable (l refl) h, tt)
own_chain zeros ms w a b c wa wb wc p q v t O l h u f = (is_a_constant (l refl) h (pow_pos w), tt)
own_chain one ms w a b c wa wb wc p q v t O l h u f = (is_a_constant (l refl) h (one_fits w (l refl)), tt)
own_chain ones ms w a b c wa wb wc p q v t O l h u f = (is_a_constant (l refl) h (ones_lt w), tt)
own_chain const ms w a b c wa wb wc p q v t O l h u f = (is_a_constant (l refl) h (u refl), tt)
own_chain constd ms w a b c wa wb wc p q v t O l h u f = (is_a_constant (l refl) h (u refl), tt)
own_chain consth ms w a b c wa wb wc p q v t O l h u f = (is_a_constant (l refl) h (u refl), tt)
own_chain inv ms w a b c wa wb wc p q v t O l h u f =
    not_chain ms w a b c wa wb wc p q v t (l refl) h (O.a_in (omega arith)) (O.a_width (omega arith)) f
own_chain conj ms w a b c wa wb wc p q v t O l h u f =
    both ms w a b c wa wb wc p q v t 3 tt (l refl) h (O.a_in (omega arith)) (O.b_in (omega arith)) (O.a_width (omega arith)) (O.b_width (omega arith)) f
own_chain disj ms w a b c wa wb wc p q v t O l h u f =
    or_chain ms w a b c wa wb wc p q v t (l refl) h (O.a_in (omega arith)) (O.b_in (omega arith)) (O.a_width (omega arith)) (O.b_width (omega arith)) f
own_chain xor ms w a b c wa wb wc p q v t O l h u f =
    both ms w a b c wa wb wc p q v t 4 tt (l refl) h (O.a_in (omega arith)) (O.b_in (omega arith)) (O.a_width (omega arith)) (O.b_width (omega arith)) f
own_chain add ms w a b c wa wb wc p q v t O l h u f =
    both ms w a b c wa wb wc p q v t 5 tt (l refl) h (O.a_in (omega arith)) (O.b_in (omega arith)) (O.a_width (omega arith)) (O.b_width (omega arith)) f
own_chain sub ms w a b c wa wb wc p q v t O l h u f =
    sub_chain ms w a b c wa wb wc p q v t (l refl) h (O.a_in (omega arith)) (O.b_in (omega arith)) (O.a_width (omega arith)) (O.b_width (omega arith)) f
own_chain mul ms w a b c wa wb wc p q v t O l h u f =
    both ms w a b c wa wb wc p q v t 6 tt (l refl) h (O.a_in (omega arith)) (O.b_in (omega arith)) (O.a_width (omega arith)) (O.b_width (omega arith)) f
own_chain sll ms w a b c wa wb wc p q v t O l h u f =
    both ms w a b c wa wb wc p q v t 7 tt (l refl) h (O.a_in (omega arith)) (O.b_in (omega arith)) (O.a_width (omega arith)) (O.b_width (omega arith)) f
own_chain srl ms w a b c wa wb wc p q v t O l h u f =
    both ms w a b c wa wb wc p q v t 8 tt (l refl) h (O.a_in (omega arith)) (O.b_in (omega arith)) (O.a_width (omega arith)) (O.b_width (omega arith)) f
own_chain sra ms w a b c wa wb wc p q v t O l h u f =
    both ms w a b c wa wb wc p q v t 15 tt (l refl) h (O.a_in (omega arith)) (O.b_in (omega arith)) (O.a_width (omega arith)) (O.b_width (omega arith)) f
own_chain eq ms w a b c wa wb wc p q v t O l h u f =
    test ms w a b c wa wb wc p q v t 9 tt (O.a_in (omega arith)) (O.b_in (omega arith)) (O.a_width (omega arith)) (O.b_width (omega arith)) f
own_chain neq ms w a b c wa wb wc p q v t O l h u f =
    neq_chain ms w a b c wa wb wc p q v t (O.a_in (omega arith)) (O.b_in (omega arith)) (O.a_width (omega arith)) (O.b_width (omega arith)) f
own_chain ult ms w a b c wa wb wc p q v t O l h u f =
    test ms w a b c wa wb wc p q v t 10 tt (O.a_in (omega arith)) (O.b_in (omega arith)) (O.a_width (omega arith)) (O.b_width (omega arith)) f
own_chain slt ms w a b c wa wb wc p q v t O l h u f =
    test ms w a b c wa wb wc p q v t 14 tt (O.a_in (omega arith)) (O.b_in (omega arith)) (O.a_width (omega arith)) (O.b_width (omega arith)) f
own_chain ite ms w a b c wa wb wc p q v t O l h u f =
    choice_chain ms w a b c wa wb wc p q v t (l refl) h (O.a_in (omega arith)) (O.b_in (omega arith)) (O.c_in (omega arith)) (O.a_width (omega arith)) (O.b_width (omega arith)) (O.c_width (omega arith)) f
own_chain concat ms w a b c wa wb wc p q v t O l h u f =
    sum_chain ms w a b c wa wb wc p q v t (l refl) h (O.a_in (omega arith)) (O.b_in (omega arith)) (O.a_width (omega arith)) (O.b_width (omega arith)) f
own_chain slice ms w a b c wa wb wc p q v t O l h u f =
    slice_chain ms w a b c wa wb wc p q v t (l refl) h (O.a_in (omega arith)) (O.a_width (omega arith)) (O.a_most (omega arith)) f
own_chain uext ms w a b c wa wb wc p q v t O l h u f =
    uext_chain ms w a b c wa wb wc p q v t (eqb p 0) refl h (O.a_in (omega arith)) (O.a_width (omega arith)) (O.a_most (omega arith)) (O.a_some (omega arith)) f
own_chain sext ms w a b c wa wb wc p q v t O l h u f =
    sext_chain ms w a b c wa wb wc p q v t (eqb p 0) refl h (O.a_in (omega arith)) (O.a_width (omega arith)) (O.a_some (omega arith)) f
own_chain constraint ms w a b c wa wb wc p q v t O l h u f = tt
own_chain other ms w a b c wa wb wc p q v t O l h u f = tt

-- ---- operands

built_wide : {ns : List Node} {i : ℕ} {m : Node} → Built ns i m → (1 ≤ m.width) × (m.width ≤ 64)
built_wide (is_variable l g) = (l, g)
built_wide (is_a_constant l g v) = (l, g)
built_wide (is_not l g a wa) = (l, g)
built_wide (is_of_both t l g a b wa wb) = (l, g)
built_wide (is_a_test t w a b e) = (omega arith, omega arith)
built_wide (is_choice l g a b c wa wb wc) = (l, g)
built_wide (is_sum l g a b e) = (l, g)
built_wide (is_part l g a e f) = (l, g)
built_wide (is_signs l g a e) = (l, g)

pub width_some : (ns : List Node) → AllBuilt ns → (a : ℕ) → a < length ns → 1 ≤ width_in ns a
unfolding AllBuilt width_in
width_some ns A a h = (built_wide (A a h)).0

or_both : (a b : Bool) → (a || b) ≡ false → (a ≡ false) × (b ≡ false)
or_both true b e = absurd (false≢true (sym e))
or_both false b e = (refl, e)

pub known_first : (r : Ref) (rs : List Ref) (t : Table) → any_unknown (r ∷ rs) t ≡ false → not (known r.line t) ≡ false
unfolding any_unknown
known_first r rs t u = (or_both (not (known r.line t)) (any_unknown rs t) u).0

pub known_rest : (r : Ref) (rs : List Ref) (t : Table) → any_unknown (r ∷ rs) t ≡ false → any_unknown rs t ≡ false
unfolding any_unknown
known_rest r rs t u = (or_both (not (known r.line t)) (any_unknown rs t) u).1

seam_width : (ns : List Node) (m : Node) (ms : List Node) → width_in (ns ++ m ∷ ms) (length ns) ≡ m.width
unfolding width_in
seam_width ns m ms = ap (λ (n : Node). n.width) (get_or-append_seam ns m ms (invert 0 0))

-- the nodes so far are those of a state, and some more
module _ {ls : List (List ℕ)} {σ : State} (S : Sound ls σ) (A : AllBuilt σ.nodes) where
  inside : (r : Ref) → not (known r.line σ.named) ≡ false → at r.line σ.named < length σ.nodes
  inside r e = S.names_inside r.line (not-false _ e)

  pub nots_chain : (xs : List Node) (rs : List Ref) → any_unknown rs σ.named ≡ false → Chain (σ.nodes ++ xs) (nots (operands σ rs))
  unfolding Chain nots operands operand_of any_unknown
  nots_chain xs [] u = tt
  nots_chain xs (r ∷ rs) u = by r.negative (nots_chain xs rs (known_rest r rs σ.named u)) (nots_chain (xs ++ invert (width_in σ.nodes (at r.line σ.named)) (at r.line σ.named) ∷ []) rs (known_rest r rs σ.named u))
    where
      by : (b : Bool) → Chain (σ.nodes ++ xs) (nots (operands σ rs))
          → Chain (σ.nodes ++ (xs ++ invert (width_in σ.nodes (at r.line σ.named)) (at r.line σ.named) ∷ [])) (nots (operands σ rs))
          → Chain (σ.nodes ++ xs) (cond b (invert (width_in σ.nodes (at r.line σ.named)) (at r.line σ.named) ∷ nots (operands σ rs)) (nots (operands σ rs)))
      by true c d =
          let i = inside r (known_first r rs σ.named u) in
          let i₁ : at r.line σ.named < length (σ.nodes ++ xs) = omega (arith, length-append σ.nodes xs) in (
            is_not (width_some σ.nodes A _ i) (wide_at σ.nodes (at r.line σ.named) S.nodes_wide) i₁ (width_before σ.nodes xs _ i),
            rw (append_assoc σ.nodes xs _) d,
          )
      by false c d = c

  -- where operand j then stands, and its width
  pub place_in : (xs : List Node) (rs : List Ref) → any_unknown rs σ.named ≡ false → (j : ℕ) → j < length rs
      → (get_or (placed (length (σ.nodes ++ xs)) (operands σ rs)) j 0 < length ((σ.nodes ++ xs) ++ nots (operands σ rs)))
      × (width_in ((σ.nodes ++ xs) ++ nots (operands σ rs)) (get_or (placed (length (σ.nodes ++ xs)) (operands σ rs)) j 0) ≡ width_of (operands σ rs) j)
  unfolding nots operands placed operand_of any_unknown
  place_in xs [] u j h = absurd (omega arith)
  place_in xs (r ∷ rs) u zero h = by r.negative
    where
      w : ℕ
      w = width_in σ.nodes (at r.line σ.named)

      by : (b : Bool)
          → (get_or (cond b (length (σ.nodes ++ xs) ∷ placed (length (σ.nodes ++ xs) + 1) (operands σ rs)) (at r.line σ.named ∷ placed (length (σ.nodes ++ xs)) (operands σ rs))) 0 0
          < length ((σ.nodes ++ xs) ++ cond b (invert w (at r.line σ.named) ∷ nots (operands σ rs)) (nots (operands σ rs))))
          × (width_in ((σ.nodes ++ xs) ++ cond b (invert w (at r.line σ.named) ∷ nots (operands σ rs)) (nots (operands σ rs)))
          (get_or (cond b (length (σ.nodes ++ xs) ∷ placed (length (σ.nodes ++ xs) + 1) (operands σ rs)) (at r.line σ.named ∷ placed (length (σ.nodes ++ xs)) (operands σ rs))) 0 0)
          ≡ w)
      by true = (omega (arith, length-append (σ.nodes ++ xs) (invert w (at r.line σ.named) ∷ nots (operands σ rs))), seam_width (σ.nodes ++ xs) (invert w (at r.line σ.named)) (nots (operands σ rs)))
      by false =
          let i = inside r (known_first r rs σ.named u) in (
            omega (arith, length-append (σ.nodes ++ xs) (nots (operands σ rs)), length-append σ.nodes xs),
            width_before (σ.nodes ++ xs) (nots (operands σ rs)) _ (omega (arith, length-append σ.nodes xs)) ∙ width_before σ.nodes xs _ i,
          )
  place_in xs (r ∷ rs) u (suc j) h =
      by r.negative (place_in xs rs (known_rest r rs σ.named u) j (omega arith)) (place_in (xs ++ invert (width_in σ.nodes (at r.line σ.named)) (at r.line σ.named) ∷ []) rs (known_rest r rs σ.named u) j (omega arith))
    where
      m : Node
      m = invert (width_in σ.nodes (at r.line σ.named)) (at r.line σ.named)

      In : ℕ → List Node → List Node → Type 0
      In n ns ms = (get_or (placed n (operands σ rs)) j 0 < length (ns ++ ms)) × (width_in (ns ++ ms) (get_or (placed n (operands σ rs)) j 0) ≡ width_of (operands σ rs) j)

      by : (b : Bool) → In (length (σ.nodes ++ xs)) (σ.nodes ++ xs) (nots (operands σ rs))
          → In (length (σ.nodes ++ (xs ++ m ∷ []))) (σ.nodes ++ (xs ++ m ∷ [])) (nots (operands σ rs))
          → (get_or (cond b (length (σ.nodes ++ xs) ∷ placed (length (σ.nodes ++ xs) + 1) (operands σ rs)) (at r.line σ.named ∷ placed (length (σ.nodes ++ xs)) (operands σ rs))) (suc j) 0
          < length ((σ.nodes ++ xs) ++ cond b (m ∷ nots (operands σ rs)) (nots (operands σ rs))))
          × (width_in ((σ.nodes ++ xs) ++ cond b (m ∷ nots (operands σ rs)) (nots (operands σ rs)))
          (get_or (cond b (length (σ.nodes ++ xs) ∷ placed (length (σ.nodes ++ xs) + 1) (operands σ rs)) (at r.line σ.named ∷ placed (length (σ.nodes ++ xs)) (operands σ rs))) (suc j) 0)
          ≡ width_of (operands σ rs) j)
      by true c d =
          let e : σ.nodes ++ (xs ++ m ∷ []) ≡ (σ.nodes ++ xs) ++ m ∷ [] = sym (append_assoc σ.nodes xs (m ∷ [])) in
          let n : length ((σ.nodes ++ xs) ++ m ∷ []) ≡ length (σ.nodes ++ xs) + 1 = length-append (σ.nodes ++ xs) (m ∷ []) in
          rw (← append_snoc (σ.nodes ++ xs) m (nots (operands σ rs)), ← n) (rw e at d)
      by false c d = c
