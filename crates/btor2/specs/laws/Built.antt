-- The nodes that lines make, one after the other: each is of one of a few forms, its operands stand before it, and the widths fit.
use Rattle.std.specs.Prelude.{◌≡◌, refl, Bool, cond, ◌&&◌, ℕ, ◌+◌, ◌-◌, ◌^◌, ◌≤◌, ◌<◌, T, leb, get_or}
use Rattle.std.proofs.Math.Path.{sym}
use Rattle.std.proofs.Common.{ap, ◌∙◌, ⊎_elim, pow_pos, length-append}
use Rattle.std.proofs.Math.Bool.{true, false}
use Rattle.std.proofs.lemmas.Bool.{false≢true}
use mathlib.Core.List.{List, [], ◌∷◌, ◌++◌, append-nil}
use native.Mathlib.Omega.{arith}
use Rattle.std.proofs.Math.Dec.{eqb, ltb}
use mir.Val.{has_key}
use Rattle.std.proofs.Math.ListN.{length, get_or-append}
use Rattle.std.proofs.Math.Seq.{append_snoc, get_or-append_seam}
use borrow.Author.Tests.{eqb-true, eqb-false, leb-true, ltb-true}
use Rattle.words.specs.laws.Bits.{lt_or_ge}
use Rattle.problem.specs.declared.layout.Node.{Node}
use Rattle.lines.specs.Words.{Word, shape}
use Rattle.lines.specs.Format.{Constant}
use Rattle.spelling.specs.Nodes.{operator, constant_node, variable_node, invert}
use Rattle.btor2.specs.Conversion.{width_in}

-- kinds whose two operands have the node's width, and kinds that compare
unfoldable pub is_both : ℕ → Bool
is_both k = has_key (3 ∷ 4 ∷ 5 ∷ 6 ∷ 7 ∷ 8 ∷ 15 ∷ []) k

unfoldable pub is_test : ℕ → Bool
is_test k = has_key (9 ∷ 10 ∷ 14 ∷ []) k

pub data Built (ns : List Node) (i : ℕ) : Node → Type 0 where
  is_variable : {w : ℕ} → 1 ≤ w → w ≤ 64 → Built ns i (variable_node w)
  is_a_constant : {w v : ℕ} → 1 ≤ w → w ≤ 64 → v < 2 ^ w → Built ns i (constant_node w v)
  is_not : {w a : ℕ} → 1 ≤ w → w ≤ 64 → a < i → width_in ns a ≡ w → Built ns i (invert w a)
  is_of_both :
      {k w a b : ℕ} → T (is_both k) → 1 ≤ w → w ≤ 64 → a < i → b < i → width_in ns a ≡ w → width_in ns b ≡ w → Built ns i (operator k w a b 0)
  is_a_test : {k w a b : ℕ} → T (is_test k) → w ≡ 1 → a < i → b < i → width_in ns a ≡ width_in ns b → Built ns i (operator k w a b 0)
  is_choice :
      {w a b c : ℕ} → 1 ≤ w → w ≤ 64 → a < i → b < i → c < i → width_in ns a ≡ 1 → width_in ns b ≡ w → width_in ns c ≡ w
      → Built ns i (operator 11 w a b c)
  is_sum : {w a b : ℕ} → 1 ≤ w → w ≤ 64 → a < i → b < i → width_in ns a + width_in ns b ≡ w → Built ns i (operator 12 w a b 0)
  is_part : {w a q : ℕ} → 1 ≤ w → w ≤ 64 → a < i → q + w ≤ width_in ns a → width_in ns a ≤ 64 → Built ns i (operator 13 w a q 0)
  is_signs : {w a : ℕ} → 1 ≤ w → w ≤ 64 → a < i → width_in ns a < w → Built ns i (operator 16 w a 0 0)

unfoldable pub AllBuilt : List Node → Type 0
AllBuilt ns = (i : ℕ) → i < length ns → Built ns i (get_or ns i (invert 0 0))

-- ---- more nodes behind

pub width_before : (ns ms : List Node) (a : ℕ) → a < length ns → width_in (ns ++ ms) a ≡ width_in ns a
unfolding width_in
width_before ns ms a h = ap (λ (n : Node). n.width) (get_or-append ns ms (invert 0 0) a h)

pub built_grows : {ns : List Node} {i : ℕ} {m : Node} (ms : List Node) → i ≤ length ns → Built ns i m → Built (ns ++ ms) i m
built_grows ms h (is_variable l g) = is_variable l g
built_grows ms h (is_a_constant l g v) = is_a_constant l g v
built_grows {ns} ms h (is_not l g a wa) = is_not l g a (width_before ns ms _ (omega arith) ∙ wa)
built_grows {ns} ms h (is_of_both t l g a b wa wb) = is_of_both t l g a b (width_before ns ms _ (omega arith) ∙ wa) (width_before ns ms _ (omega arith) ∙ wb)
built_grows {ns} ms h (is_a_test t w a b e) = is_a_test t w a b (width_before ns ms _ (omega arith) ∙ e ∙ sym (width_before ns ms _ (omega arith)))
built_grows {ns} ms h (is_choice l g a b c wa wb wc) =
    is_choice l g a b c (width_before ns ms _ (omega arith) ∙ wa) (width_before ns ms _ (omega arith) ∙ wb) (width_before ns ms _ (omega arith) ∙ wc)
built_grows {ns} ms h (is_sum {w} {a = a₀} {b = b₀} l g a b e) =
    let x : width_in (ns ++ ms) a₀ ≡ width_in ns a₀ = width_before ns ms a₀ (lt_trans a h) in
    let y : width_in (ns ++ ms) b₀ ≡ width_in ns b₀ = width_before ns ms b₀ (lt_trans b h) in
    is_sum l g a b (rw (x, y) e)
  where
    lt_trans : {p q r : ℕ} → p < q → q ≤ r → p < r
    lt_trans u v = omega arith
built_grows {ns} ms h (is_part {w} {a = a₀} {q} l g a e f) =
    let x : width_in (ns ++ ms) a₀ ≡ width_in ns a₀ = width_before ns ms a₀ (lt_trans a h) in
    is_part {q = q} l g a (rw x e) (rw x f)
  where
    lt_trans : {p q r : ℕ} → p < q → q ≤ r → p < r
    lt_trans u v = omega arith
built_grows {ns} ms h (is_signs {w} {a = a₀} l g a e) =
    let x : width_in (ns ++ ms) a₀ ≡ width_in ns a₀ = width_before ns ms a₀ (lt_trans a h) in
    is_signs l g a (rw x e)
  where
    lt_trans : {p q r : ℕ} → p < q → q ≤ r → p < r
    lt_trans u v = omega arith

-- one by one
unfoldable pub Chain : List Node → List Node → Type 0
Chain ns [] = Unit {0}
Chain ns (m ∷ ms) = Built ns (length ns) m × Chain (ns ++ m ∷ []) ms

one_more : (ns : List Node) (m : Node) → AllBuilt ns → Built ns (length ns) m → AllBuilt (ns ++ m ∷ [])
unfolding AllBuilt
one_more ns m A b i h =
    ⊎_elim (λ (l : i < length ns). rw (get_or-append ns (m ∷ []) (invert 0 0) i l) (built_grows (m ∷ []) (omega arith) (A i l)))
    (λ (l : length ns ≤ i).
    let e : i ≡ length ns = omega (arith, length-append ns (m ∷ [])) in
    rw (e, get_or-append_seam ns m [] (invert 0 0)) (built_grows (m ∷ []) (omega arith) b)) (lt_or_ge i (length ns))

pub chain_all : (ns ms : List Node) → AllBuilt ns → Chain ns ms → AllBuilt (ns ++ ms)
unfolding Chain
chain_all ns [] A c = rw (append-nil ns) A
chain_all ns (m ∷ ms) A c = rw (← append_snoc ns m ms) (chain_all (ns ++ m ∷ []) ms (one_more ns m A c.0) c.1)

pub chain_append : (ns xs ys : List Node) → Chain ns xs → Chain (ns ++ xs) ys → Chain ns (xs ++ ys)
unfolding Chain
chain_append ns [] ys c d = rw (append-nil ns) at d
chain_append ns (x ∷ xs) ys c d = (c.0, chain_append (ns ++ x ∷ []) xs ys c.1 (rw (append_snoc ns x xs) d))

-- ---- a line's own nodes

-- its operands' nodes and widths, as many as its keyword has
pub record Ops (k : Word) (ms : List Node) (a b c wa wb wc : ℕ) : Type 0 where
  pub a_in : 0 < (shape k).refs → a < length ms
  pub b_in : 1 < (shape k).refs → b < length ms
  pub c_in : 2 < (shape k).refs → c < length ms
  pub a_width : 0 < (shape k).refs → width_in ms a ≡ wa
  pub b_width : 1 < (shape k).refs → width_in ms b ≡ wb
  pub c_width : 2 < (shape k).refs → width_in ms c ≡ wc
  pub a_most : 0 < (shape k).refs → wa ≤ 64
  pub a_some : 0 < (shape k).refs → 1 ≤ wa

pub one_of : (x y : Bool) → (x && y) ≡ true → x ≡ true
one_of true y e = refl
one_of false y e = e

pub two_of : (x y : Bool) → (x && y) ≡ true → y ≡ true
two_of true y e = e
two_of false y e = absurd (false≢true e)

pub eq_both : (a b c d : ℕ) → (eqb a b && eqb c d) ≡ true → (a ≡ b) × (c ≡ d)
eq_both a b c d f = (eqb-true a b (one_of (eqb a b) (eqb c d) f), eqb-true c d (two_of (eqb a b) (eqb c d) f))

last_is : (ns : List Node) (m : Node) → width_in (ns ++ m ∷ []) (length ns) ≡ m.width
unfolding width_in
last_is ns m = ap (λ (n : Node). n.width) (get_or-append_seam ns m [] (invert 0 0))

grown : (ns : List Node) (m : Node) → length (ns ++ m ∷ []) ≡ length ns + 1
grown ns m = length-append ns (m ∷ [])

module _ (ms : List Node) (w a b c wa wb wc p q v : ℕ) (t : Constant) where
  -- two operands of the line's width
  pub both : (k : ℕ) → T (is_both k) → 1 ≤ w → w ≤ 64 → a < length ms → b < length ms → width_in ms a ≡ wa → width_in ms b ≡ wb
      → (eqb wa w && eqb wb w) ≡ true → Chain ms (operator k w a b 0 ∷ [])
  unfolding Chain
  both k y l h ai bi aw bw f =
      (is_of_both y l h ai bi (aw ∙ (eq_both wa w wb w f).0) (bw ∙ (eq_both wa w wb w f).1), tt)

  pub test : (k : ℕ) → T (is_test k) → a < length ms → b < length ms → width_in ms a ≡ wa → width_in ms b ≡ wb → (eqb wa wb && eqb w 1) ≡ true
      → Chain ms (operator k w a b 0 ∷ [])
  unfolding Chain
  test k y ai bi aw bw f =
      (is_a_test y (eq_both wa wb w 1 f).1 ai bi (aw ∙ (eq_both wa wb w 1 f).0 ∙ sym bw), tt)

  -- a not behind what stands
  inverted : (ns : List Node) (i u : ℕ) → 1 ≤ u → u ≤ 64 → i < length ns → width_in ns i ≡ u → Chain ns (invert u i ∷ [])
  unfolding Chain
  inverted ns i u l h x e = (is_not l h x e, tt)

  pub or_chain : 1 ≤ w → w ≤ 64 → a < length ms → b < length ms → width_in ms a ≡ wa → width_in ms b ≡ wb → (eqb wa w && eqb wb w) ≡ true
      → Chain ms (invert w a ∷ invert w b ∷ operator 3 w (length ms) (length ms + 1) 0 ∷ invert w (length ms + 2) ∷ [])
  unfolding Chain is_both
  or_chain l h ai bi aw bw f =
      let ea : width_in ms a ≡ w = aw ∙ (eq_both wa w wb w f).0 in
      let eb : width_in ms b ≡ w = bw ∙ (eq_both wa w wb w f).1 in
      let m₁ = invert w a in
      let m₂ = invert w b in
      let m₃ = operator 3 w (length ms) (length ms + 1) 0 in
      let n₁ = ms ++ m₁ ∷ [] in
      let n₂ = n₁ ++ m₂ ∷ [] in
      let n₃ = n₂ ++ m₃ ∷ [] in
      let g₁ = grown ms m₁ in
      let g₂ = grown n₁ m₂ in
      let g₃ = grown n₂ m₃ in
      let w₁ : width_in n₂ (length ms) ≡ w = width_before n₁ (m₂ ∷ []) (length ms) (omega arith) ∙ last_is ms m₁ in
      let w₂ : width_in n₂ (length ms + 1) ≡ w = rw (← g₁) (last_is n₁ m₂) in
      let w₃ : width_in n₃ (length ms + 2) ≡ w = rw (two_on (length ms) (length n₂) (omega arith)) (last_is n₂ m₃) in
      let i₁ : b < length n₁ = omega arith in
      let i₂ : length ms < length n₂ = omega arith in
      let i₃ : length ms + 1 < length n₂ = omega arith in
      let i₄ : length ms + 2 < length n₃ = omega arith in
      (is_not l h ai ea, (is_not l h i₁ (width_before ms (m₁ ∷ []) b bi ∙ eb), (is_of_both {k = 3} tt l h i₂ i₃ w₁ w₂, (is_not l h i₄ w₃, tt))))
    where
      two_on : (x y : ℕ) → y ≡ x + 2 → x + 2 ≡ y
      two_on x y e = sym e

  pub sub_chain : 1 ≤ w → w ≤ 64 → a < length ms → b < length ms → width_in ms a ≡ wa → width_in ms b ≡ wb → (eqb wa w && eqb wb w) ≡ true
      → Chain ms (invert w a ∷ operator 5 w (length ms) b 0 ∷ invert w (length ms + 1) ∷ [])
  unfolding Chain is_both
  sub_chain l h ai bi aw bw f =
      let ea : width_in ms a ≡ w = aw ∙ (eq_both wa w wb w f).0 in
      let eb : width_in ms b ≡ w = bw ∙ (eq_both wa w wb w f).1 in
      let m₁ = invert w a in
      let m₂ = operator 5 w (length ms) b 0 in
      let n₁ = ms ++ m₁ ∷ [] in
      let n₂ = n₁ ++ m₂ ∷ [] in
      let g₁ = grown ms m₁ in
      let g₂ = grown n₁ m₂ in
      let w₂ : width_in n₂ (length ms + 1) ≡ w = rw (← g₁) (last_is n₁ m₂) in
      let i₁ : length ms < length n₁ = omega arith in
      let i₂ : b < length n₁ = omega arith in
      let i₃ : length ms + 1 < length n₂ = omega arith in
      (is_not l h ai ea, (is_of_both {k = 5} tt l h i₁ i₂ (last_is ms m₁) (width_before ms (m₁ ∷ []) b bi ∙ eb), (is_not l h i₃ w₂, tt)))

  pub neq_chain : a < length ms → b < length ms → width_in ms a ≡ wa → width_in ms b ≡ wb → (eqb wa wb && eqb w 1) ≡ true
      → Chain ms (operator 9 w a b 0 ∷ invert w (length ms) ∷ [])
  unfolding Chain is_test
  neq_chain ai bi aw bw f =
      let e : w ≡ 1 = (eq_both wa wb w 1 f).1 in
      let m₁ = operator 9 w a b 0 in
      let g₁ = grown ms m₁ in
      let l₁ : 1 ≤ w = omega arith in
      let l₂ : w ≤ 64 = omega arith in
      let i₁ : length ms < length (ms ++ m₁ ∷ []) = omega arith in
      (is_a_test {k = 9} tt e ai bi (aw ∙ (eq_both wa wb w 1 f).0 ∙ sym bw), (is_not l₁ l₂ i₁ (last_is ms m₁), tt))

  pub uext_chain : (z : Bool) → eqb p 0 ≡ z → w ≤ 64 → a < length ms → width_in ms a ≡ wa → wa ≤ 64 → 1 ≤ wa → eqb (wa + p) w ≡ true
      → Chain ms (cond z [] (constant_node p 0 ∷ operator 12 w (length ms) a 0 ∷ []))
  unfolding Chain
  uext_chain true e h ai aw am sm f = tt
  uext_chain false e h ai aw am sm f =
      let n : p ≡ 0 → ⊥ = eqb-false p 0 e in
      let g : wa + p ≡ w = eqb-true (wa + p) w f in
      let m₁ = constant_node p 0 in
      let g₁ = grown ms m₁ in
      let x = last_is ms m₁ in
      let y = width_before ms (m₁ ∷ []) a ai in
      let l₁ : p ≤ 64 = omega arith in
      let l₂ : 1 ≤ w = omega arith in
      let i₁ : length ms < length (ms ++ m₁ ∷ []) = omega arith in
      let i₂ : a < length (ms ++ m₁ ∷ []) = omega arith in
      let z₁ : width_in (ms ++ m₁ ∷ []) (length ms) + width_in (ms ++ m₁ ∷ []) a ≡ w = omega arith in
      (is_a_constant (some p n) l₁ (pow_pos p), (is_sum l₂ h i₁ i₂ z₁, tt))
    where
      some : (u : ℕ) → (u ≡ 0 → ⊥) → 1 ≤ u
      some u n = omega arith

  pub sext_chain : (z : Bool) → eqb p 0 ≡ z → w ≤ 64 → a < length ms → width_in ms a ≡ wa → 1 ≤ wa → eqb (wa + p) w ≡ true
      → Chain ms (cond z [] (operator 16 w a 0 0 ∷ []))
  unfolding Chain
  sext_chain true e h ai aw sm f = tt
  sext_chain false e h ai aw sm f =
      let n : p ≡ 0 → ⊥ = eqb-false p 0 e in
      let g : wa + p ≡ w = eqb-true (wa + p) w f in
      let l₁ : 1 ≤ w = omega arith in
      let z₁ : width_in ms a < w = omega arith in
      (is_signs l₁ h ai z₁, tt)

  pub slice_chain : 1 ≤ w → w ≤ 64 → a < length ms → width_in ms a ≡ wa → wa ≤ 64 → ((leb q p && ltb p wa) && eqb (p - q + 1) w) ≡ true
      → Chain ms (operator 13 w a q 0 ∷ [])
  unfolding Chain
  slice_chain l h ai aw am f =
      let g = one_of (leb q p && ltb p wa) (eqb (p - q + 1) w) f in
      let x : q ≤ p = leb-true q p (one_of (leb q p) (ltb p wa) g) in
      let y : p < wa = ltb-true p wa (two_of (leb q p) (ltb p wa) g) in
      let z : p - q + 1 ≡ w = eqb-true (p - q + 1) w (two_of (leb q p && ltb p wa) (eqb (p - q + 1) w) f) in
      let u : q + w ≤ width_in ms a = rw aw (omega arith) in
      let o : width_in ms a ≤ 64 = rw aw am in
      (is_part l h ai u o, tt)

  pub choice_chain : 1 ≤ w → w ≤ 64 → a < length ms → b < length ms → c < length ms → width_in ms a ≡ wa → width_in ms b ≡ wb → width_in ms c ≡ wc
      → ((eqb wa 1 && eqb wb w) && eqb wc w) ≡ true → Chain ms (operator 11 w a b c ∷ [])
  unfolding Chain
  choice_chain l h ai bi ci aw bw cw f =
      let g = eq_both wa 1 wb w (one_of (eqb wa 1 && eqb wb w) (eqb wc w) f) in
      (is_choice l h ai bi ci (aw ∙ g.0) (bw ∙ g.1) (cw ∙ eqb-true wc w (two_of (eqb wa 1 && eqb wb w) (eqb wc w) f)), tt)

  pub sum_chain : 1 ≤ w → w ≤ 64 → a < length ms → b < length ms → width_in ms a ≡ wa → width_in ms b ≡ wb → eqb (wa + wb) w ≡ true
      → Chain ms (operator 12 w a b 0 ∷ [])
  unfolding Chain
  sum_chain l h ai bi aw bw f = (is_sum l h ai bi (rw (aw, bw) (eqb-true (wa + wb) w f)), tt)

  pub not_chain : 1 ≤ w → w ≤ 64 → a < length ms → width_in ms a ≡ wa → eqb wa w ≡ true → Chain ms (invert w a ∷ [])
  unfolding Chain
  not_chain l h ai aw f = (is_not l h ai (aw ∙ eqb-true wa w f), tt)

  pub a_constant : (u : ℕ) → 1 ≤ w → w ≤ 64 → u < 2 ^ w → Chain ms (constant_node w u ∷ [])
  unfolding Chain
  a_constant u l h x = (is_a_constant l h x, tt)
