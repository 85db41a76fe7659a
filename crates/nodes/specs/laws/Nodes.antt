-- Laws of one node: its value and its pair by kind, that only its operands bear on them, and what an accepted problem gives.
use Rattle.std.specs.Prelude.{◌≡◌, List, ℕ, zero, suc, ◌^◌, ◌≤◌, ◌<◌, get_or}
use Rattle.std.proofs.Math.Path.{refl, sym, ap, ap₂}
use Rattle.std.proofs.Common.{◌∙◌, arith, lt_of_le_of_lt}
use Rattle.words.specs.Agree.{Within}
use Rattle.words.specs.laws.Agree.{within_le}
use Rattle.fixed.specs.declared.Pair.{Pair}
use Rattle.operators.specs.declared.meaning.Op.{Op}
use Rattle.operators.specs.Table.{kind_of, shape_of}
use Rattle.operators.specs.Meaning.{meaning, Fit}
use Rattle.operators.specs.laws.Meaning.{fit_used, meaning_lt}
use Rattle.fixed.specs.Fixed.{pair, pair_of}
use Rattle.operators.specs.inner.Ready.{Used, Ready}
use Rattle.fixed.specs.inner.Pairs.{Ternary, Agreeing, PairsReady}
use Rattle.fixed.specs.laws.Sound.{sound, pair_whole, agrees_self}
use Rattle.picking.specs.declared.spot.Three.{Three}
use Rattle.picking.specs.Spot.{at}
use Rattle.nodes.specs.Problem.{Prob, Pairs, three, by_kind, count, arg, Variable, spot_of, zeros, no_pairs, gives, value_of, derived, pair_at}
use Rattle.nodes.specs.inner.Good.{Good, GoodNode, widths_of}
use Rattle.picking.specs.laws.Positions.{few_positions, used_of}
use Rattle.nodes.specs.laws.Positions.{at_three, three_same}

-- ---- by kind

-- a variable, a constant, or an inner node
pub data Which (k : ℕ) : Type 0 where
  variable : k ≡ 0 → Which k
  constant : k ≡ 1 → Which k
  inner : 2 ≤ k → Which k

pub which : (k : ℕ) → Which k
which zero = variable refl
which (suc zero) = constant refl
which (suc (suc k)) = inner (omega arith)

pub kind_own : {A : Type 0} (k : ℕ) (x y z : A) → k ≡ 0 → by_kind k x y z ≡ x
kind_own k x y z e = rw e

pub kind_constant : {A : Type 0} (k : ℕ) (x y z : A) → k ≡ 1 → by_kind k x y z ≡ y
kind_constant k x y z e = rw e

pub kind_inner : {A : Type 0} (k : ℕ) (x y z : A) → 2 ≤ k → by_kind k x y z ≡ z
kind_inner zero x y z h = absurd (omega arith)
kind_inner (suc zero) x y z h = absurd (omega arith)
kind_inner (suc (suc k)) x y z h = refl

kind_not_own : {A : Type 0} (k : ℕ) (x x' y z : A) → (k ≡ 0 → ⊥) → by_kind k x y z ≡ by_kind k x' y z
kind_not_own zero x x' y z h = absurd (h refl)
kind_not_own (suc zero) x x' y z h = refl
kind_not_own (suc (suc k)) x x' y z h = refl

-- ---- the value and the pair of one node

-- the pair that stands at place n
abbrev pub pair_in : Pairs → ℕ → Pair
pair_in w n = pair (get_or w.los n 0) (get_or w.his n 0)

module _ (P : Prob) where
  -- what f says of the operands of node n
  abbrev pub column : (ℕ → ℕ) → ℕ → Three
  column f n = three (count P n) (λ i. f (arg P n i))

  pub at_column : (f : ℕ → ℕ) (n i : ℕ) → i < count P n → at (column f n) i ≡ f (arg P n i)
  at_column f n i h = at_three (count P n) (λ i. f (arg P n i)) i h (few_positions (P.kind n))

  abbrev pub operands : List ℕ → ℕ → Three
  operands vs n = column (λ m. get_or vs m 0) n

  -- what the operator of node n gives on three values, and the pair that it has from its operands' pairs
  abbrev pub operator : ℕ → Three → ℕ
  operator n x =
      meaning (kind_of (P.kind n)) (P.width n) (widths_of P n).a (widths_of P n).b (P.fields n).b x.a x.b x.c

  abbrev pub pair_from : ℕ → Three → Three → Pair
  pair_from n lo hi =
      pair_of (kind_of (P.kind n)) (P.width n) (widths_of P n).a (widths_of P n).b (P.fields n).b (pair lo.a hi.a)
      (pair lo.b hi.b) (pair lo.c hi.c)

  abbrev pub pair_from_in : ℕ → Pairs → Pair
  pair_from_in n w = pair_from n (column (λ m. get_or w.los m 0) n) (column (λ m. get_or w.his m 0) n)

  -- the operator of node n in its place, and what it asks of its operands' values
  abbrev pub op_at : ℕ → Op
  op_at n = record { kind = P.kind n; width = P.width n; wa = (widths_of P n).a; wb = (widths_of P n).b; low = (P.fields n).b }

  abbrev pub FitAt : ℕ → Three → Type 0
  FitAt n x =
      Fit (shape_of (P.kind n)).rule (P.width n) (widths_of P n).a (widths_of P n).b (P.fields n).b x.a x.b x.c

  abbrev pub own_pair_at : ℕ → Pair
  own_pair_at n = pair (P.own_lo n) (P.own_hi n)

  module _ (n : ℕ) where
    gives_is : (vs : List ℕ) → gives P (spot_of P no_pairs vs n) ≡ operator n (operands vs n)
    unfolding spot_of
    gives_is vs = refl

    derived_is : (w : Pairs) → derived P (spot_of P w zeros n) ≡ pair_from_in n w
    unfolding spot_of
    derived_is w = refl

    pub value_own : (vs : List ℕ) → Variable P n → value_of P vs n ≡ get_or vs n 0
    unfolding value_of
    value_own vs e = kind_own _ _ _ _ e

    pub value_constant : (vs : List ℕ) → P.kind n ≡ 1 → value_of P vs n ≡ P.own_lo n
    unfolding value_of
    value_constant vs e = kind_constant _ _ _ _ e

    pub value_operator : (vs : List ℕ) → 2 ≤ P.kind n → value_of P vs n ≡ operator n (operands vs n)
    unfolding value_of
    value_operator vs e = kind_inner (P.kind n) _ _ _ e ∙ gives_is vs

    pub pair_own : (w : Pairs) → P.kind n < 2 → pair_at P w n ≡ own_pair_at n
    unfolding pair_at
    pair_own w h =
        elim (which (P.kind n))
        [ variable e ↦ kind_own _ _ _ _ e | constant e ↦ kind_constant _ _ _ _ e | inner l ↦ absurd (omega arith) ]

    pub pair_operator : (w : Pairs) → 2 ≤ P.kind n → pair_at P w n ≡ pair_from_in n w
    unfolding pair_at
    pair_operator w h = kind_inner (P.kind n) _ _ _ h ∙ derived_is w

    -- only the operands bear: on the value of a node that is no variable, and on its pair
    pub value_same :
        (vs us : List ℕ)
        → (Variable P n → ⊥)
        → ((i : ℕ) → i < count P n → get_or vs (arg P n i) 0 ≡ get_or us (arg P n i) 0)
        → value_of P vs n ≡ value_of P us n
    unfolding value_of
    value_same vs us x h =
        kind_not_own (P.kind n) _ (get_or us n 0) _ _ x
        ∙ ap (by_kind (P.kind n) (get_or us n 0) (P.own_lo n))
        (gives_is vs ∙ ap (operator n) (three_same (count P n) _ _ h) ∙ sym (gives_is us))

    pub pair_same :
        (w u : Pairs) → ((i : ℕ) → i < count P n → pair_in w (arg P n i) ≡ pair_in u (arg P n i)) → pair_at P w n ≡ pair_at P u n
    unfolding pair_at
    pair_same w u h =
        ap (by_kind (P.kind n) (own_pair_at n) (own_pair_at n))
        (derived_is w
        ∙ ap₂ (pair_from n) (three_same (count P n) _ _ (λ i l. ap (λ (p : Pair). p.lo) (h i l)))
        (three_same (count P n) _ _ (λ i l. ap (λ (p : Pair). p.hi) (h i l)))
        ∙ sym (derived_is u))

-- ---- a node of an accepted problem

module _ (P : Prob) (g : Good P) (n : ℕ) (l : n < P.nodes) where
  here : GoodNode P n
  here = g.node n l

  pub operand_node : (i : ℕ) → i < count P n → arg P n i < P.nodes
  operand_node i h = omega (arith, here.below i h)

  pub at_width : (i : ℕ) → i < count P n → at (widths_of P n) i ≡ P.width (arg P n i)
  at_width i h = at_column P P.width n i h

  -- operands of their nodes' widths are what the operator asks for
  pub fit_at : (f : ℕ → ℕ) → ((i : ℕ) → i < count P n → f (arg P n i) < 2 ^ P.width (arg P n i)) → FitAt P n (column P f n)
  fit_at f h =
      fit_used (kind_of (P.kind n)) _ _ _ _ _ _ _ _ here.rule
      (λ k. let o : GoodNode P (arg P n 0) = g.node (arg P n 0) (operand_node 0 k) in rw (at_width 0 k) (o.some, o.wide))
      (used_of (count P n) (λ j. at (column P f n) j < 2 ^ at (widths_of P n) j) (λ j k. rw (at_column P f n j k, at_width j k) (h j k)))

  -- what `operators::value` asks
  pub node_ready : 2 ≤ P.kind n → (x : Three) → FitAt P n x → Ready (op_at P n) x.a x.b x.c
  node_ready k x f = record { operator = k; known = here.known; some = here.some; wide = here.wide; fit = f }

  own_ternary : P.kind n < 2 → Ternary (P.width n) (own_pair_at P n)
  own_ternary h = record { ordered = here.ordered h; short = here.under h }

  -- the value is of the node's width
  pub value_lt :
      (vs : List ℕ)
      → ((i : ℕ) → i < count P n → get_or vs (arg P n i) 0 < 2 ^ P.width (arg P n i))
      → (Variable P n → get_or vs n 0 < 2 ^ P.width n)
      → value_of P vs n < 2 ^ P.width n
  value_lt vs h v =
      elim (which (P.kind n)) [
        | variable e ↦ rw (value_own P n vs e) (v e)
        | constant e ↦ rw (value_constant P n vs e) (lt_of_le_of_lt (within_le (here.ordered (omega arith))) (here.under (omega arith)))
        | inner k ↦ rw (value_operator P n vs k) (meaning_lt (kind_of (P.kind n)) _ _ _ _ _ _ _ here.some (fit_at (λ m. get_or vs m 0) h))
      ]

  -- pairs of the operands' widths, and what follows from them
  module _ (w : Pairs) (h : (i : ℕ) → i < count P n → Ternary (P.width (arg P n i)) (pair_in w (arg P n i))) where
    abbrev los : Three
    los = column P (λ m. get_or w.los m 0) n

    abbrev his : Three
    his = column P (λ m. get_or w.his m 0) n

    pub fit_hi : FitAt P n his
    fit_hi = fit_at (λ m. get_or w.his m 0) (λ i k. (h i k).short)

    ordered_at : Used (count P n) (Within los.a his.a) (Within los.b his.b) (Within los.c his.c)
    ordered_at =
        used_of (count P n) (λ j. Within (at los j) (at his j)) (λ j b. rw (at_column P _ n j b, at_column P _ n j b) (h j b).ordered)

    -- what `fixed::pair_of` asks
    pub pairs_ready :
        2 ≤ P.kind n
        → PairsReady (op_at P n) (pair los.a his.a) (pair los.b his.b) (pair los.c his.c)
    pairs_ready k = record { ready = node_ready k his fit_hi; ordered = ordered_at }

    -- the pair is one of the node's width
    pub pair_ternary : Ternary (P.width n) (pair_at P w n)
    pair_ternary =
        elim (which (P.kind n)) [
          | variable e ↦ rw (pair_own P n w (omega arith)) (own_ternary (omega arith))
          | constant e ↦ rw (pair_own P n w (omega arith)) (own_ternary (omega arith))
          | inner k ↦
              rw (pair_operator P n w k)
              (pair_whole (kind_of (P.kind n)) _ _ _ _ _ _ _ here.some fit_hi ordered_at)
        ]

    -- "For every assignment that agrees with the variables' pairs, every node's value agrees with its own pair", of one node
    pub value_agrees :
        (vs : List ℕ)
        → ((i : ℕ) → i < count P n → Agreeing (pair_in w (arg P n i)) (get_or vs (arg P n i) 0))
        → (Variable P n → Agreeing (own_pair_at P n) (get_or vs n 0))
        → Agreeing (pair_at P w n) (value_of P vs n)
    value_agrees vs a v =
        elim (which (P.kind n)) [
          | variable e ↦ rw (pair_own P n w (omega arith), value_own P n vs e) (v e)
          | constant e ↦ rw (pair_own P n w (omega arith), value_constant P n vs e, ← here.same e) (agrees_self (P.own_lo n))
          | inner k ↦
              rw (pair_operator P n w k, value_operator P n vs k)
              (sound (kind_of (P.kind n)) _ _ _ _ _ _ _ _ _ _ fit_hi
              (used_of (count P n) (λ j. Agreeing (pair (at los j) (at his j)) (at (operands P vs n) j))
              (λ j b. rw (at_column P _ n j b, at_column P _ n j b, at_column P _ n j b) (a j b))))
        ]
