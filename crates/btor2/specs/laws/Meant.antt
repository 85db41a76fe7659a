-- The values of nodes under an evaluation, and that a line's own nodes mean what the line means.
use Rattle.std.proofs.Math.Path.{◌≡◌, refl}
use Rattle.std.proofs.Common.{sym, ◌∙◌, mod-lt, lt_of_le_of_lt, add-zero, pow_pos, pow_mono}
use Rattle.std.specs.Prelude.{Bool, not, ◌&&◌, T, leb, get_or, drop}
use Rattle.std.proofs.Math.Bool.{true, false, cond}
use mathlib.Core.List.{List, [], ◌∷◌}
use Rattle.std.proofs.Math.Logic.{⊎_elim}
use Prim.Native.Nat.{ℕ, zero, suc, ◌+◌, ◌-◌, ◌*◌, ◌/◌, ◌%◌, ◌^◌, ◌≤◌, ◌<◌}
use native.Mathlib.Omega.{arith}
use Rattle.std.proofs.Math.Dec.{eqb, ltb}
use Rattle.std.specs.Int.Bits.{bit_and, bit_or, and_lt}
use Rattle.std.proofs.lemmas.Nat.{xor_lt, shr_le}
use Rattle.std.proofs.Math.Pow.{ones_sub-lt}
use Rattle.std.proofs.Math.ListN.{length}
use borrow.Author.Tests.{eqb-true, eqb-false}
use Rattle.words.specs.laws.Bits.{lt_or_ge}
use Rattle.operators.specs.Meaning.{flag, meaning}
use Rattle.operators.specs.laws.Meaning.{joined_lt, meaning_lt}
use Rattle.operators.specs.Table.{kind_of}
use Rattle.operators.specs.Table as kind
use Rattle.problem.specs.declared.layout.Node.{Node}
use Rattle.lines.specs.declared.table.Makes.TheVariants.{Value}
use Rattle.lines.specs.Words.{Word, sort, input, zeros, one, ones, const, constd, consth, inv, conj, disj, xor, add, sub, mul, sll, srl, sra, eq, neq, ult, slt, ite, concat, slice, uext, sext, constraint, other, shape}
use Rattle.lines.specs.Format.{Constant}
use Rattle.spelling.specs.Nodes.{operator, constant_node, invert, constant_value, fits, own}
use Rattle.btor2.specs.Conversion.{width_in}
use Rattle.btor2.specs.Meaning.{is_minus, moved, flipped, worth}
use Rattle.nodes.specs.Problem.{by_kind}
use Rattle.btor2.specs.Inputs.{inputs_of, variable_widths}
use Rattle.btor2.specs.inner.Values.{Gives, Kinds, node_value, Evaluated, Fitting}
use Rattle.btor2.specs.laws.Spelling.{spelled_sub, spelled_neq, spelled_uext, spelled_or}
use Rattle.btor2.specs.laws.Built.{eq_both, two_of, Ops, is_both, is_test, Built, is_variable, is_a_constant, is_not, is_of_both, is_a_test, is_choice, is_sum, is_part, is_signs, AllBuilt}
use Rattle.btor2.specs.laws.Chain.{has_sort, width_some}
use Rattle.btor2.specs.laws.Accepted.{both_kinds, test_kinds}

-- ---- variables fit

variable_fits : (ns : List Node) (vs : List ℕ) → Fitting (variable_widths ns) (inputs_of ns vs) → (i : ℕ) → i < length ns
    → (get_or ns i (invert 0 0)).kind ≡ 0 → get_or vs i 0 < 2 ^ (get_or ns i (invert 0 0)).width
unfolding Fitting variable_widths inputs_of
variable_fits [] vs f i h e = absurd (omega arith)
variable_fits (n ∷ ns) vs f zero h e = by n.kind e f
  where
    by : (k : ℕ) → k ≡ 0 → Fitting (by_kind k (n.width ∷ variable_widths ns) (variable_widths ns) (variable_widths ns)) (by_kind k (get_or vs 0 0 ∷ inputs_of ns (drop 1 vs)) (inputs_of ns (drop 1 vs)) (inputs_of ns (drop 1 vs)))
        → get_or vs 0 0 < 2 ^ n.width
    by zero e f = f.0
    by (suc k) e f = absurd (omega arith)
variable_fits (n ∷ ns) vs f (suc i) h e = rw (one_on vs i) (variable_fits ns (drop 1 vs) (by n.kind f) i (omega arith) e)
  where
    one_on : (vs : List ℕ) (i : ℕ) → get_or vs (suc i) 0 ≡ get_or (drop 1 vs) i 0
    one_on [] i = none i
      where
        none : (i : ℕ) → ◌≡◌ {A = ℕ} 0 (get_or [] i 0)
        none zero = refl
        none (suc i) = refl
    one_on (v ∷ vs) i = refl

    by : (k : ℕ) → Fitting (by_kind k (n.width ∷ variable_widths ns) (variable_widths ns) (variable_widths ns)) (by_kind k (get_or vs 0 0 ∷ inputs_of ns (drop 1 vs)) (inputs_of ns (drop 1 vs)) (inputs_of ns (drop 1 vs)))
        → Fitting (variable_widths ns) (inputs_of ns (drop 1 vs))
    by zero f = f.1
    by (suc zero) f = f
    by (suc (suc k)) f = f

-- ---- values of nodes

-- node i is m; and nodes stand from n on
abbrev pub StandsIn : List Node → ℕ → Node → Type 0
StandsIn ns i m = (i < length ns) × (get_or ns i (invert 0 0) ≡ m)

unfoldable pub AtIn : List Node → ℕ → List Node → Type 0
AtIn ns n ms = (j : ℕ) → j < length ms → StandsIn ns (n + j) (get_or ms j (invert 0 0))

module _ (gives : Gives) (G : Kinds gives) (ns : List Node) (vs : List ℕ) (E : Evaluated gives ns vs) where
  abbrev val : ℕ → ℕ
  val i = get_or vs i 0

  abbrev Stands : ℕ → Node → Type 0
  Stands i m = StandsIn ns i m

  eval : (i : ℕ) (m : Node) → Stands i m → val i ≡ node_value gives ns vs m (val i)
  unfolding Evaluated
  eval i m s = rw s.1 at (E i s.0)

  pub operator_value : (i k w a b c : ℕ) → Stands i (operator (suc (suc k)) w a b c)
      → val i ≡ gives (suc (suc k)) w (width_in ns a) (width_in ns b) b (val a) (val b) (val c)
  unfolding node_value
  operator_value i k w a b c s = eval i (operator (suc (suc k)) w a b c) s

  pub value_of_constant : (i w v : ℕ) → Stands i (constant_node w v) → val i ≡ v
  unfolding node_value
  value_of_constant i w v s = eval i (constant_node w v) s

  pub not_value : (i w a : ℕ) → Stands i (invert w a) → val i ≡ flipped w (val a)
  not_value i w a s = operator_value i 0 w a 0 0 s ∙ G.known 2 w _ _ _ _ _ _ (omega arith)

  -- what a kind below 14 gives
  gives_low : (i k w a b c : ℕ) → Stands i (operator (suc (suc k)) w a b c) → suc (suc k) < 14
      → val i ≡ meaning (kind_of (suc (suc k))) w (width_in ns a) (width_in ns b) b (val a) (val b) (val c)
  gives_low i k w a b c s h = operator_value i k w a b c s ∙ G.known (suc (suc k)) w _ _ _ _ _ _ h

  -- ---- every value has its node's width

  shifted_lt : (w x y : ℕ) → x < 2 ^ w → cond (is_minus w x) (flipped w (flipped w x / 2 ^ y)) (x / 2 ^ y) < 2 ^ w
  shifted_lt w x y h = by (is_minus w x)
    where
      by : (b : Bool) → cond b (flipped w (flipped w x / 2 ^ y)) (x / 2 ^ y) < 2 ^ w
      by true = ones_sub-lt w (flipped w x / 2 ^ y)
      by false = lt_of_le_of_lt (shr_le x y) h

  extended_lt : (wa w x : ℕ) → wa < w → x < 2 ^ wa → cond (is_minus wa x) (x + (2 ^ w - 2 ^ wa)) x < 2 ^ w
  extended_lt wa w x l h = by (is_minus wa x)
    where
      p : 2 ^ wa ≤ 2 ^ w
      p = pow_mono (omega arith)

      by : (b : Bool) → cond b (x + (2 ^ w - 2 ^ wa)) x < 2 ^ w
      by true = omega (arith, p)
      by false = omega (arith, p)

  flag_lt : (t : Bool) (w : ℕ) → 1 ≤ w → flag t < 2 ^ w
  flag_lt true w h = pow_mono h
  flag_lt false w h = pow_pos w

  module _ (B : AllBuilt ns) (F : Fitting (variable_widths ns) (inputs_of ns vs)) where
    InRange : ℕ → Type 0
    InRange i = val i < 2 ^ width_in ns i

    both_range : (i k w a b : ℕ) → Stands i (operator k w a b 0) → T (is_both k) → 1 ≤ w → val a < 2 ^ w → val b < 2 ^ w → val i < 2 ^ w
    both_range i k w a b s t l x y =
        both_kinds (λ z. Stands i (operator z w a b 0) → val i < 2 ^ w) k t (λ s. rw (gives_low i 1 w a b 0 s (omega arith)) (and_lt w (val a) (val b) x y))
        (λ s. rw (gives_low i 2 w a b 0 s (omega arith)) (xor_lt w (val a) (val b) x y)) (λ s. rw (gives_low i 3 w a b 0 s (omega arith)) (mod-lt (val a + val b) (pow_pos w)))
        (λ s. rw (gives_low i 4 w a b 0 s (omega arith)) (mod-lt (val a * val b) (pow_pos w))) (λ s. rw (gives_low i 5 w a b 0 s (omega arith)) (mod-lt (val a * 2 ^ val b) (pow_pos w)))
        (λ s. rw (gives_low i 6 w a b 0 s (omega arith)) (lt_of_le_of_lt (shr_le (val a) (val b)) x))
        (λ s. rw (operator_value i 13 w a b 0 s ∙ G.arithmetic_right w (width_in ns a) (width_in ns b) b (val a) (val b) (val 0) l x) (shifted_lt w (val a) (val b) x)) s

    test_range : (i k w a b : ℕ) → Stands i (operator k w a b 0) → T (is_test k) → w ≡ 1 → 1 ≤ width_in ns a → val a < 2 ^ width_in ns a
        → val b < 2 ^ width_in ns a → val i < 2 ^ w
    test_range i k w a b s t ew l x y =
        test_kinds (λ z. Stands i (operator z w a b 0) → val i < 2 ^ w) k t (λ s. rw (gives_low i 7 w a b 0 s (omega arith)) (flag_lt (eqb (val a) (val b)) w l₁))
        (λ s. rw (gives_low i 8 w a b 0 s (omega arith)) (flag_lt (ltb (val a) (val b)) w l₁))
        (λ s. rw (operator_value i 12 w a b 0 s ∙ G.signed_below w (width_in ns a) (width_in ns b) b (val a) (val b) (val 0) l x y) (flag_lt (ltb (moved (width_in ns a) (val a)) (moved (width_in ns a) (val b))) w l₁)) s
      where
        l₁ : 1 ≤ w
        l₁ = omega arith

    -- of a node whose operands have theirs
    node_range : (i : ℕ) (m : Node) → Built ns i m → Stands i m → ((j : ℕ) → j < i → val j < 2 ^ width_in ns j) → ((j : ℕ) → j < i → 1 ≤ width_in ns j) → val i < 2 ^ m.width
    node_range i m (is_variable {w} l g) s below some = rw s.1 at (variable_fits ns vs F i s.0 (rw s.1))
    node_range i m (is_a_constant {w} {v} l g f) s below some = rw (value_of_constant i w v s) f
    node_range i m (is_not {w} {a} l g ai e) s below some = rw (not_value i w a s) (ones_sub-lt w (val a))
    node_range i m (is_of_both {k = k} {w} {a} {b} t l g ai bi ea eb) s below some =
        both_range i k w a b s t l (rw ea at (below a ai)) (rw eb at (below b bi))
    node_range i m (is_a_test {k = k} {w} {a} {b} t ew ai bi e) s below some =
        test_range i k w a b s t ew (some a ai) (below a ai) (rw (← e) at (below b bi))
    node_range i m (is_choice {w} {a} {b} {c} l g ai bi ci ea eb ec) s below some =
        rw (gives_low i 9 w a b c s (omega arith)) (meaning_lt kind.ite w (width_in ns a) (width_in ns b) b (val a) (val b) (val c) l (rw ea at (below a ai), rw eb at (below b bi), rw ec at (below c ci)))
    node_range i m (is_sum {w} {a} {b} l g ai bi e) s below some =
        rw (gives_low i 10 w a b 0 s (omega arith)) (joined_lt w (width_in ns a) (width_in ns b) (val a) (val b) e (below a ai) (below b bi))
    node_range i m (is_part {w} {a} {q} l g ai e f) s below some = rw (gives_low i 11 w a q 0 s (omega arith)) (mod-lt _ (pow_pos w))
    node_range i m (is_signs {w} {a} l g ai e) s below some =
        rw (operator_value i 14 w a 0 0 s ∙ G.sign_extension w _ _ _ _ _ _ (some a ai) e (below a ai)) (extended_lt (width_in ns a) w (val a) e (below a ai))

    some_wide : (j : ℕ) → j < length ns → 1 ≤ width_in ns j
    some_wide j h = width_some ns B j h

    up_to_there : (n : ℕ) → n ≤ length ns → (i : ℕ) → i < n → val i < 2 ^ width_in ns i
    unfolding AllBuilt width_in
    up_to_there zero h i l = absurd (omega arith)
    up_to_there (suc n) h i l =
        ⊎_elim (λ (k : i < n). up_to_there n (omega arith) i k)
        (λ (k : n ≤ i). let e : i ≡ n = omega arith in rw e (node_range n _ (B n (omega arith)) (omega arith, refl) (up_to_there n (omega arith)) (λ j z. some_wide j (omega arith)))) (lt_or_ge i n)

    pub in_range : (i : ℕ) → i < length ns → val i < 2 ^ width_in ns i
    in_range i h = up_to_there (length ns) (omega arith) i h

    -- ---- a line's own nodes

    abbrev At : ℕ → List Node → Type 0
    At n ms = AtIn ns n ms

    stands_first : (n : ℕ) (m : Node) (ms : List Node) → At n (m ∷ ms) → Stands n m
    unfolding AtIn
    stands_first n m ms A = rw (add-zero n) at (A 0 (omega arith))

    -- one node
    single : (n u : ℕ) (m : Node) → At n (m ∷ []) → (Stands n m → val n ≡ u) → val (n + 1 - 1) ≡ u
    single n u m A f = let z : n + 1 - 1 ≡ n = omega arith in rw z (f (stands_first n m [] A))

    wide_a : (k : Word) (a b c wa wb wc w : ℕ) → Ops k ns a b c wa wb wc → 0 < (shape k).refs → wa ≡ w → val a < 2 ^ w
    wide_a k a b c wa wb wc w O h e = rw (← e, ← O.a_width h) (in_range a (O.a_in h))

    wide_b : (k : Word) (a b c wa wb wc w : ℕ) → Ops k ns a b c wa wb wc → 1 < (shape k).refs → wb ≡ w → val b < 2 ^ w
    wide_b k a b c wa wb wc w O h e = rw (← e, ← O.b_width h) (in_range b (O.b_in h))

    or_means : (n w a b x y : ℕ) → x ≡ val a → y ≡ val b → x < 2 ^ w → y < 2 ^ w
        → At n (invert w a ∷ invert w b ∷ operator 3 w n (n + 1) 0 ∷ invert w (n + 2) ∷ []) → val (n + 4 - 1) ≡ bit_or x y
    unfolding AtIn
    or_means n w a b x y ex ey hx hy A =
        let z : n + 4 - 1 ≡ n + 3 = omega arith in
        let s₀ : Stands n (invert w a) = rw (add-zero n) at (A 0 (omega arith)) in
        let v₀ : val n ≡ flipped w x = not_value n w a s₀ ∙ rw ex in
        let v₁ : val (n + 1) ≡ flipped w y = not_value (n + 1) w b (A 1 (omega arith)) ∙ rw ey in
        let v₂ : val (n + 2) ≡ bit_and (flipped w x) (flipped w y) = gives_low (n + 2) 1 w n (n + 1) 0 (A 2 (omega arith)) (omega arith) ∙ rw (v₀, v₁) in
        rw z (not_value (n + 3) w (n + 2) (A 3 (omega arith)) ∙ rw v₂ (spelled_or w x y hx hy))

    sub_means : (n w a b x y : ℕ) → x ≡ val a → y ≡ val b → x < 2 ^ w → y < 2 ^ w
        → At n (invert w a ∷ operator 5 w n b 0 ∷ invert w (n + 1) ∷ []) → val (n + 3 - 1) ≡ (x + (2 ^ w - y)) % 2 ^ w
    unfolding AtIn
    sub_means n w a b x y ex ey hx hy A =
        let z : n + 3 - 1 ≡ n + 2 = omega arith in
        let s₀ : Stands n (invert w a) = rw (add-zero n) at (A 0 (omega arith)) in
        let v₀ : val n ≡ flipped w x = not_value n w a s₀ ∙ rw ex in
        let v₁ : val (n + 1) ≡ (flipped w x + y) % 2 ^ w = gives_low (n + 1) 3 w n b 0 (A 1 (omega arith)) (omega arith) ∙ rw (v₀, ← ey) in
        rw z (not_value (n + 2) w (n + 1) (A 2 (omega arith)) ∙ rw v₁ (spelled_sub w x y hx hy))

    neq_means : (n w a b x y : ℕ) → x ≡ val a → y ≡ val b → w ≡ 1 → At n (operator 9 w a b 0 ∷ invert w n ∷ []) → val (n + 2 - 1) ≡ flag (not (eqb x y))
    unfolding AtIn
    neq_means n w a b x y ex ey ew A =
        let z : n + 2 - 1 ≡ n + 1 = omega arith in
        let s₀ : Stands n (operator 9 w a b 0) = rw (add-zero n) at (A 0 (omega arith)) in
        let v₀ : val n ≡ flag (eqb x y) = gives_low n 7 w a b 0 s₀ (omega arith) ∙ rw (← ex, ← ey) in
        rw z (not_value (n + 1) w n (A 1 (omega arith)) ∙ rw (v₀, ew) (spelled_neq x y))

    uext_means : (n w a p x : ℕ) → x ≡ val a → At n (constant_node p 0 ∷ operator 12 w n a 0 ∷ []) → val (n + 2 - 1) ≡ x
    unfolding AtIn
    uext_means n w a p x ex A =
        let z : n + 2 - 1 ≡ n + 1 = omega arith in
        let s₀ : Stands n (constant_node p 0) = rw (add-zero n) at (A 0 (omega arith)) in
        let v₀ : val n ≡ 0 = value_of_constant n p 0 s₀ in
        rw z (gives_low (n + 1) 10 w n a 0 (A 1 (omega arith)) (omega arith) ∙ rw (v₀, ← ex) (spelled_uext (width_in ns a) x))

    pub own_means : (k : Word) (w n a b c wa wb wc p q v : ℕ) (t : Constant) → Ops k ns a b c wa wb wc → (has_sort (shape k).makes ≡ true → 1 ≤ w)
        → (shape k).makes ≡ Value → fits k w wa wb wc p q t ≡ true → v ≡ constant_value w t → ((shape k).base ≡ 2 → t.minus ≡ false) → ((shape k).base ≡ 16 → t.minus ≡ false)
        → At n (own k w n a b c p q v) → 0 < length (own k w n a b c p q v)
        → val (n + length (own k w n a b c p q v) - 1) ≡ worth k w wa wb p q t (val a) (val b) (val c)
    unfolding own fits shape worth has_sort constant_value
    own_means sort w n a b c wa wb wc p q v t O l m f ev h2 h16 A s = absurd (omega arith)
    own_means input w n a b c wa wb wc p q v t O l m f ev h2 h16 A s = absurd (let y : ◌≡◌ {A = ℕ} 0 1 = cc in omega arith)
    own_means zeros w n a b c wa wb wc p q v t O l m f ev h2 h16 A s = single n _ _ A (value_of_constant n w 0)
    own_means one w n a b c wa wb wc p q v t O l m f ev h2 h16 A s = single n _ _ A (value_of_constant n w 1)
    own_means ones w n a b c wa wb wc p q v t O l m f ev h2 h16 A s = single n _ _ A (value_of_constant n w (2 ^ w - 1))
    own_means const w n a b c wa wb wc p q v t O l m f ev h2 h16 A s = single n _ _ A (λ y. value_of_constant n w v y ∙ ev ∙ rw (h2 refl))
    own_means constd w n a b c wa wb wc p q v t O l m f ev h2 h16 A s = single n _ _ A (λ y. value_of_constant n w v y ∙ ev)
    own_means consth w n a b c wa wb wc p q v t O l m f ev h2 h16 A s = single n _ _ A (λ y. value_of_constant n w v y ∙ ev ∙ rw (h16 refl))
    own_means inv w n a b c wa wb wc p q v t O l m f ev h2 h16 A s = single n _ _ A (not_value n w a)
    own_means conj w n a b c wa wb wc p q v t O l m f ev h2 h16 A s = single n _ _ A (λ y. gives_low n 1 w a b 0 y (omega arith))
    own_means disj w n a b c wa wb wc p q v t O l m f ev h2 h16 A s =
        or_means n w a b (val a) (val b) refl refl (wide_a disj a b c wa wb wc w O (omega arith) (eq_both wa w wb w f).0)
        (wide_b disj a b c wa wb wc w O (omega arith) (eq_both wa w wb w f).1) A
    own_means xor w n a b c wa wb wc p q v t O l m f ev h2 h16 A s = single n _ _ A (λ y. gives_low n 2 w a b 0 y (omega arith))
    own_means add w n a b c wa wb wc p q v t O l m f ev h2 h16 A s = single n _ _ A (λ y. gives_low n 3 w a b 0 y (omega arith))
    own_means sub w n a b c wa wb wc p q v t O l m f ev h2 h16 A s =
        sub_means n w a b (val a) (val b) refl refl (wide_a sub a b c wa wb wc w O (omega arith) (eq_both wa w wb w f).0)
        (wide_b sub a b c wa wb wc w O (omega arith) (eq_both wa w wb w f).1) A
    own_means mul w n a b c wa wb wc p q v t O l m f ev h2 h16 A s = single n _ _ A (λ y. gives_low n 4 w a b 0 y (omega arith))
    own_means sll w n a b c wa wb wc p q v t O l m f ev h2 h16 A s = single n _ _ A (λ y. gives_low n 5 w a b 0 y (omega arith))
    own_means srl w n a b c wa wb wc p q v t O l m f ev h2 h16 A s = single n _ _ A (λ y. gives_low n 6 w a b 0 y (omega arith))
    own_means sra w n a b c wa wb wc p q v t O l m f ev h2 h16 A s =
        single n _ _ A
        (λ y. operator_value n 13 w a b 0 y
        ∙ G.arithmetic_right w _ _ _ _ _ _ (l refl) (wide_a sra a b c wa wb wc w O (omega arith) (eq_both wa w wb w f).0))
    own_means eq w n a b c wa wb wc p q v t O l m f ev h2 h16 A s = single n _ _ A (λ y. gives_low n 7 w a b 0 y (omega arith))
    own_means neq w n a b c wa wb wc p q v t O l m f ev h2 h16 A s = neq_means n w a b (val a) (val b) refl refl (eq_both wa wb w 1 f).1 A
    own_means ult w n a b c wa wb wc p q v t O l m f ev h2 h16 A s = single n _ _ A (λ y. gives_low n 8 w a b 0 y (omega arith))
    own_means slt w n a b c wa wb wc p q v t O l m f ev h2 h16 A s =
        single n _ _ A
        (λ y. operator_value n 12 w a b 0 y
        ∙ rw (O.a_width (omega arith))
        (G.signed_below w wa _ _ _ _ _ (O.a_some (omega arith)) (wide_a slt a b c wa wb wc wa O (omega arith) refl)
        (wide_b slt a b c wa wb wc wa O (omega arith) (sym (eq_both wa wb w 1 f).0))))
    own_means ite w n a b c wa wb wc p q v t O l m f ev h2 h16 A s = single n _ _ A (λ y. gives_low n 9 w a b c y (omega arith))
    own_means concat w n a b c wa wb wc p q v t O l m f ev h2 h16 A s =
        single n _ _ A (λ y. gives_low n 10 w a b 0 y (omega arith) ∙ rw (O.b_width (omega arith)))
    own_means slice w n a b c wa wb wc p q v t O l m f ev h2 h16 A s =
        let z : p - q + 1 ≡ w = eqb-true (p - q + 1) w (two_of (leb q p && ltb p wa) (eqb (p - q + 1) w) f) in
        single n _ _ A (λ y. gives_low n 11 w a q 0 y (omega arith) ∙ rw (← z))
    own_means uext w n a b c wa wb wc p q v t O l m f ev h2 h16 A s = by (eqb p 0) A s
      where
        by : (z : Bool) → At n (cond z [] (constant_node p 0 ∷ operator 12 w n a 0 ∷ [])) → 0 < length (cond z [] (constant_node p 0 ∷ operator 12 w n a 0 ∷ []))
            → val (n + length (cond z [] (constant_node p 0 ∷ operator 12 w n a 0 ∷ [])) - 1) ≡ val a
        by true A s = absurd (omega arith)
        by false A s = uext_means n w a p (val a) refl A
    own_means sext w n a b c wa wb wc p q v t O l m f ev h2 h16 A s = by (eqb p 0) refl A s
      where
        by : (z : Bool) → eqb p 0 ≡ z → At n (cond z [] (operator 16 w a 0 0 ∷ [])) → 0 < length (cond z [] (operator 16 w a 0 0 ∷ []))
            → val (n + length (cond z [] (operator 16 w a 0 0 ∷ [])) - 1) ≡ cond (is_minus wa (val a)) (val a + (2 ^ w - 2 ^ wa)) (val a)
        by true e A s = absurd (omega arith)
        by false e A s =
            let g : wa + p ≡ w = eqb-true (wa + p) w f in
            let d : p ≡ 0 → ⊥ = eqb-false p 0 e in
            let u : wa < w = omega arith in
            single n _ _ A
            (λ y. operator_value n 14 w a 0 0 y
            ∙ rw (O.a_width (omega arith)) (G.sign_extension w wa _ _ _ _ _ (O.a_some (omega arith)) u (wide_a sext a b c wa wb wc wa O (omega arith) refl)))
    own_means constraint w n a b c wa wb wc p q v t O l m f ev h2 h16 A s = absurd (omega arith)
    own_means other w n a b c wa wb wc p q v t O l m f ev h2 h16 A s = absurd (omega arith)
