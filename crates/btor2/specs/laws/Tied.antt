-- A text's world and the nodes' values, line by line: what lines say of values is what their nodes have, and demands are met exactly if roots are.
use Rattle.std.specs.Prelude.{◌≡◌, refl, Bool, cond, ◌↔◌, eqb, length, get_or, drop}
use Rattle.std.proofs.Common.{ap, ◌∙◌, arith, add-zero, length-append, get_or-append-add, drop-drop, eqb-true}
use Rattle.std.proofs.Math.Bool.{true, false}
use Rattle.std.proofs.lemmas.Bool.{false≢true, not-false}
use mathlib.Core.List.{List, [], ◌∷◌, ◌++◌, map}
use Prim.Native.Nat.{ℕ, zero, suc, ◌+◌, ◌<◌}
use Rattle.std.proofs.Math.ListN.{get_or-append}
use Rattle.problem.specs.declared.layout.Node.{Node}
use Rattle.lines.specs.Format.{Ref}
use Rattle.spelling.specs.Nodes.{invert, nots, placed, is_root}
use Rattle.btor2.specs.Conversion.{State, known, at, width_in, operand_of, operands, any_unknown, with_root}
use Rattle.btor2.specs.Meaning.{flipped, Valued, World, sort_of, line_of, under, operand, AllOne}
use Rattle.nodes.specs.Problem.{by_kind}
use Rattle.btor2.specs.Inputs.{inputs_of}
use Rattle.btor2.specs.laws.Meant.{StandsIn, AtIn}
use Rattle.btor2.specs.laws.Chain.{known_first, known_rest}

-- what holds of a state and a world after the same lines, under the values vs of the nodes ns that all lines make
pub record Tied (ns : List Node) (vs : List ℕ) (σ : State) (W : World) : Type 0 where
  pub sorts_tied : (id : ℕ) → sort_of id W.sorts ≡ at id σ.sorts
  pub values_tied :
      (id : ℕ)
      → known id σ.named ≡ true
      → line_of id W.values ≡ record { width = width_in ns (at id σ.named); value = get_or vs (at id σ.named) 0 }
  pub coming_tied : W.coming ≡ inputs_of (drop (length σ.nodes) ns) (drop (length σ.nodes) vs)
  pub demands_tied : AllOne W.demands ↔ AllOne (map (λ r. get_or vs r 0) σ.roots)

-- ---- all of them are 1

one_snoc : (f : ℕ → ℕ) (rs : List ℕ) (r : ℕ) → AllOne (map f (rs ++ r ∷ [])) ↔ ((f r ≡ 1) × AllOne (map f rs))
unfolding AllOne
one_snoc f [] r = (λ a. (a.0, tt), λ a. (a.0, tt))
one_snoc f (x ∷ rs) r =
    let i = one_snoc f rs r in
    (λ a. ((i.0 a.1).0, (a.0, (i.0 a.1).1)), λ a. (a.1.0, i.1 (a.0, a.1.1)))

one_root : (f : ℕ → ℕ) (rs : List ℕ) (r : ℕ) → is_root r rs ≡ true → AllOne (map f rs) → f r ≡ 1
unfolding AllOne is_root
one_root f [] r e a = absurd (false≢true e)
one_root f (x ∷ rs) r e a = by (eqb x r) refl (λ h. one_root f rs r h a.1)
  where
    by : (b : Bool) → eqb x r ≡ b → (is_root r rs ≡ true → f r ≡ 1) → f r ≡ 1
    by true q g = let z : x ≡ r = eqb-true x r q in rw (← z) a.0
    by false q g = g (rw q at e)

pub one_with : (f : ℕ → ℕ) (rs : List ℕ) (r : ℕ) → AllOne (map f (with_root rs r)) ↔ ((f r ≡ 1) × AllOne (map f rs))
unfolding with_root
one_with f rs r = by (is_root r rs) refl
  where
    by : (b : Bool) → is_root r rs ≡ b → AllOne (map f (cond b rs (rs ++ r ∷ []))) ↔ ((f r ≡ 1) × AllOne (map f rs))
    by true e = (λ a. (one_root f rs r e a, a), λ a. a.1)
    by false e = one_snoc f rs r

-- ---- inputs to come

-- nodes that are no variables
unfoldable pub NoVariable : List Node → Type 0
NoVariable [] = Unit {0}
NoVariable (n ∷ ns) = (n.kind ≡ 0 → ⊥) × NoVariable ns

one_plus : (n : ℕ) → 1 + n ≡ suc n
one_plus n = omega arith

pub inputs_past : (ms ns : List Node) (vs : List ℕ) → NoVariable ms → inputs_of (ms ++ ns) vs ≡ inputs_of ns (drop (length ms) vs)
unfolding NoVariable inputs_of
inputs_past [] ns vs n = refl
inputs_past (m ∷ ms) ns vs n = by m.kind n.0 (inputs_past ms ns (drop 1 vs) n.1 ∙ ap (λ xs. inputs_of ns xs) (drop-drop (length ms) 1 vs))
  where
    by : (k : ℕ) → (k ≡ 0 → ⊥) → inputs_of (ms ++ ns) (drop 1 vs) ≡ inputs_of ns (drop (1 + length ms) vs)
        → by_kind k (get_or vs 0 0 ∷ inputs_of (ms ++ ns) (drop 1 vs)) (inputs_of (ms ++ ns) (drop 1 vs)) (inputs_of (ms ++ ns) (drop 1 vs)) ≡ inputs_of ns (drop (suc (length ms)) vs)
    by zero n h = absurd (n refl)
    by (suc zero) n h = h ∙ rw (one_plus (length ms))
    by (suc (suc k)) n h = h ∙ rw (one_plus (length ms))

-- ---- operands

pub stands_width : (ns : List Node) (i : ℕ) (m : Node) → StandsIn ns i m → width_in ns i ≡ m.width
unfolding width_in
stands_width ns i m s = ap (λ (n : Node). n.width) s.1

-- nodes in front of others, and behind
pub at_split : (ns : List Node) (n : ℕ) (xs ys : List Node) → AtIn ns n (xs ++ ys) → AtIn ns n xs × AtIn ns (n + length xs) ys
unfolding AtIn
at_split ns n xs ys A = (
  λ j h. rw (get_or-append xs ys (invert 0 0) j h) at (A j (omega (arith, length-append xs ys))),
  λ j h.
      let z : (n + length xs) + j ≡ n + (length xs + j) = omega arith in
      rw z (rw (get_or-append-add xs ys j (invert 0 0)) at (A (length xs + j) (omega (arith, length-append xs ys)))),
)

pub at_new : (ms new rest : List Node) → AtIn ((ms ++ new) ++ rest) (length ms) new
unfolding AtIn
at_new ms new rest j h =
    let l : length ms + j < length (ms ++ new) = omega (arith, length-append ms new) in
    (omega (arith, length-append (ms ++ new) rest), get_or-append (ms ++ new) rest (invert 0 0) (length ms + j) l ∙ get_or-append-add ms new j (invert 0 0))

pub at_tail : (ns : List Node) (n : ℕ) (m : Node) (ms : List Node) → AtIn ns n (m ∷ ms) → AtIn ns (n + 1) ms
unfolding AtIn
at_tail ns n m ms A j h = let z : (n + 1) + j ≡ n + suc j = omega arith in rw z (A (suc j) (omega arith))

pub at_head : (ns : List Node) (n : ℕ) (m : Node) (ms : List Node) → AtIn ns n (m ∷ ms) → StandsIn ns n m
unfolding AtIn
at_head ns n m ms A = rw (add-zero n) at (A 0 (omega arith))

module _ (ns : List Node) (vs : List ℕ) (nots_are : (i w a : ℕ) → StandsIn ns i (invert w a) → get_or vs i 0 ≡ flipped w (get_or vs a 0))
    {σ : State} {W : World} (D : Tied ns vs σ W) (before : (a : ℕ) → a < length σ.nodes → width_in ns a ≡ width_in σ.nodes a)
    (inside : (id : ℕ) → known id σ.named ≡ true → at id σ.named < length σ.nodes) where
  -- where an operand stands, and what it has there
  unfoldable pub Has : ℕ → Valued → Type 0
  Has i v = (get_or vs i 0 ≡ v.value) × (width_in ns i ≡ v.width)

  first_has : (n : ℕ) (r : Ref) (rs : List Ref) → known r.line σ.named ≡ true → AtIn ns n (nots (operands σ (r ∷ rs)))
      → Has (get_or (placed n (operands σ (r ∷ rs))) 0 0) (under r.negative (line_of r.line W.values))
  unfolding operands nots placed operand_of under Has
  first_has n r rs k A = by r.negative A
    where
      node : ℕ
      node = at r.line σ.named

      e : line_of r.line W.values ≡ record { width = width_in ns (at r.line σ.named); value = get_or vs (at r.line σ.named) 0 }
      e = D.values_tied r.line k

      w : width_in ns (at r.line σ.named) ≡ width_in σ.nodes (at r.line σ.named)
      w = before _ (inside r.line k)

      by : (b : Bool)
          → AtIn ns n (cond b (invert (width_in σ.nodes (at r.line σ.named)) (at r.line σ.named) ∷ nots (operands σ rs)) (nots (operands σ rs)))
          → (get_or vs (get_or (cond b (n ∷ placed (n + 1) (operands σ rs)) (at r.line σ.named ∷ placed n (operands σ rs))) 0 0) 0
          ≡ cond b (flipped (line_of r.line W.values).width (line_of r.line W.values).value) (line_of r.line W.values).value)
          × (width_in ns (get_or (cond b (n ∷ placed (n + 1) (operands σ rs)) (at r.line σ.named ∷ placed n (operands σ rs))) 0 0)
          ≡ (line_of r.line W.values).width)
      by true A =
          let s = at_head ns n _ _ A in
          rw e (rw w (nots_are n _ _ s), rw w (stands_width ns n _ s))
      by false A = rw e (refl, refl)

  step_on : (n : ℕ) (r : Ref) (rs : List Ref) (j : ℕ) → AtIn ns n (nots (operands σ (r ∷ rs))) → (v : Valued)
      → (AtIn ns n (nots (operands σ rs)) → Has (get_or (placed n (operands σ rs)) j 0) v)
      → (AtIn ns (n + 1) (nots (operands σ rs)) → Has (get_or (placed (n + 1) (operands σ rs)) j 0) v)
      → Has (get_or (placed n (operands σ (r ∷ rs))) (suc j) 0) v
  unfolding operands nots placed operand_of Has
  step_on n r rs j A v p q = by r.negative A
    where
      by : (b : Bool)
          → AtIn ns n (cond b (invert (width_in σ.nodes (at r.line σ.named)) (at r.line σ.named) ∷ nots (operands σ rs)) (nots (operands σ rs)))
          → (get_or vs (get_or (cond b (n ∷ placed (n + 1) (operands σ rs)) (at r.line σ.named ∷ placed n (operands σ rs))) (suc j) 0) 0 ≡ v.value)
          × (width_in ns (get_or (cond b (n ∷ placed (n + 1) (operands σ rs)) (at r.line σ.named ∷ placed n (operands σ rs))) (suc j) 0) ≡ v.width)
      by true A = q (at_tail ns n _ _ A)
      by false A = p A

  pub operand_has : (n : ℕ) (rs : List Ref) → any_unknown rs σ.named ≡ false → AtIn ns n (nots (operands σ rs)) → (j : ℕ) → j < length rs
      → Has (get_or (placed n (operands σ rs)) j 0) (operand W rs j)
  unfolding operand
  operand_has n [] u A j h = absurd (omega arith)
  operand_has n (r ∷ rs) u A zero h = first_has n r rs (not-false _ (known_first r rs σ.named u)) A
  operand_has n (r ∷ rs) u A (suc j) h =
      step_on n r rs j A (operand W rs j) (λ B. operand_has n rs (known_rest r rs σ.named u) B j (omega arith))
      (λ B. operand_has (n + 1) rs (known_rest r rs σ.named u) B j (omega arith))
