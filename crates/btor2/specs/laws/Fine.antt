-- All nodes and roots of every state that lines lead to: nodes are built as they should, roots are nodes of one bit, each once.
use Rattle.std.specs.Prelude.{◌≡◌, refl, Bool, true, false, cond, not, ◌||◌, ℕ, zero, suc, ◌+◌, ◌-◌, ◌%◌, ◌^◌, ◌≤◌, ◌<◌, eqb, get_or}
use Rattle.std.proofs.Math.Path.{sym}
use Rattle.std.proofs.Common.{ap, ◌∙◌, arith, mod-lt, pow_pos, length-append, eqb-true, eq-eqb, ne_eqb}
use Rattle.std.proofs.lemmas.Bool.{false≢true, eqb-false, not-false}
use mathlib.Core.List.{List, [], ◌∷◌, ◌++◌, append-nil}
use Rattle.std.proofs.Math.ListN.{length}
use Rattle.problem.specs.declared.layout.Node.{Node}
use Rattle.lines.specs.declared.table.Makes.{Makes}
use Rattle.lines.specs.declared.table.Makes.TheVariants.{Sort, Input, Value, Root}
use Rattle.spelling.specs.declared.forms.Rule.TheVariants as rule
use Rattle.spelling.specs.declared.line.Operand.{Operand}
use Rattle.texts.specs.Numbers.{value_in}
use Rattle.lines.specs.Lines.{Token, token, tokens}
use Rattle.lines.specs.Words.{number_of, word_of, shape}
use Rattle.lines.specs.Format.{Ref, ref_of, signed, is_constant, constant_of, unsigned, constant_place, ref_place, refs_from, item_of, item}
use Rattle.spelling.specs.Nodes.{invert, constant_value, fits, own, nots, placed, is_root}
use Rattle.btor2.specs.Conversion.{State, start, known, at, width_in, operand_of, operands, width_of, any_unknown, sort_unknown, new_nodes, node_for, with_root, naming, added, after, line_fault, after_line}
use Rattle.spelling.specs.inner.Spelled.{rule_of, constant_fits}
use Rattle.btor2.specs.laws.Reached.{Reached, begin, more}
use Rattle.spelling.specs.laws.Constant.{constant_below}
use Rattle.btor2.specs.laws.Passed.{Formed, Passes, passes}
use Rattle.btor2.specs.laws.Sound.{Sound, reached_sound, Role, makes_sort, makes_input, makes_a_value, makes_a_root, role}
use Rattle.btor2.specs.laws.Read.{const_word, const_fits, base_some, operand_wide}
use Rattle.btor2.specs.laws.Built.{AllBuilt, width_before, Chain, chain_all, chain_append, Ops}
use Rattle.btor2.specs.laws.Chain.{has_sort, own_chain, width_some, nots_chain, place_in}

-- ---- roots

unfoldable pub AllRoots : List Node → List ℕ → Type 0
AllRoots ns [] = Unit {0}
AllRoots ns (r ∷ rs) = ((r < length ns) × (width_in ns r ≡ 1)) × AllRoots ns rs

-- no root stands twice
unfoldable pub Distinct : List ℕ → Type 0
Distinct [] = Unit {0}
Distinct (r ∷ rs) = (is_root r rs ≡ false) × Distinct rs

roots_grow : (ns ms : List Node) (rs : List ℕ) → AllRoots ns rs → AllRoots (ns ++ ms) rs
unfolding AllRoots
roots_grow ns ms [] a = tt
roots_grow ns ms (r ∷ rs) a =
    let i = a.0.0 in
    ((omega (arith, length-append ns ms), width_before ns ms r i ∙ a.0.1), roots_grow ns ms rs a.1)

found : (rs : List ℕ) (j r : ℕ) → j < length rs → get_or rs j 0 ≡ r → is_root r rs ≡ true
unfolding is_root
found [] j r h e = absurd (omega arith)
found (x ∷ rs) zero r h e = rw (eq-eqb x r e)
found (x ∷ rs) (suc j) r h e = rw (found rs j r (omega arith) e) (by (eqb x r))
  where
    by : (b : Bool) → (b || true) ≡ true
    by true = refl
    by false = refl

pub distinct_apart : (rs : List ℕ) → Distinct rs → (i j : ℕ) → i < j → j < length rs → get_or rs i 0 ≡ get_or rs j 0 → ⊥
unfolding Distinct
distinct_apart [] d i j l h e = absurd (omega arith)
distinct_apart (r ∷ rs) d zero zero l h e = absurd (omega arith)
distinct_apart (r ∷ rs) d zero (suc j) l h e = false≢true (sym d.0 ∙ found rs j r (omega arith) (sym e))
distinct_apart (r ∷ rs) d (suc i) zero l h e = absurd (omega arith)
distinct_apart (r ∷ rs) d (suc i) (suc j) l h e = distinct_apart rs d.1 i j (omega arith) (omega arith) e

root_snoc : (ns : List Node) (rs : List ℕ) (r : ℕ) → AllRoots ns rs → r < length ns → width_in ns r ≡ 1 → AllRoots ns (rs ++ r ∷ [])
unfolding AllRoots
root_snoc ns [] r a h e = ((h, e), tt)
root_snoc ns (x ∷ rs) r a h e = (a.0, root_snoc ns rs r a.1 h e)

is_snoc : (x : ℕ) (rs : List ℕ) (r : ℕ) → is_root x (rs ++ r ∷ []) ≡ (is_root x rs || eqb r x)
unfolding is_root
is_snoc x [] r = by (eqb r x)
  where
    by : (b : Bool) → (b || false) ≡ b
    by true = refl
    by false = refl
is_snoc x (y ∷ rs) r = by (eqb y x) (is_snoc x rs r)
  where
    by : (b : Bool) → is_root x (rs ++ r ∷ []) ≡ (is_root x rs || eqb r x) → (b || is_root x (rs ++ r ∷ [])) ≡ ((b || is_root x rs) || eqb r x)
    by true h = refl
    by false h = h

eqb_sym : (a b : ℕ) → eqb a b ≡ false → eqb b a ≡ false
eqb_sym a b e = ne_eqb b a (λ z. eqb-false a b e (sym z))

distinct_snoc : (rs : List ℕ) (r : ℕ) → Distinct rs → is_root r rs ≡ false → Distinct (rs ++ r ∷ [])
unfolding Distinct is_root
distinct_snoc [] r d e = (refl, tt)
distinct_snoc (x ∷ rs) r d e =
    let p = or_both (eqb x r) (is_root r rs) e in
    (is_snoc x rs r ∙ rw d.0 (eqb_sym x r p.0), distinct_snoc rs r d.1 p.1)
  where
    or_both : (a b : Bool) → (a || b) ≡ false → (a ≡ false) × (b ≡ false)
    or_both true b f = absurd (false≢true (sym f))
    or_both false b f = (refl, f)

-- ---- states

pub record Fine (σ : State) : Type 0 where
  pub built : AllBuilt σ.nodes
  pub roots : AllRoots σ.nodes σ.roots
  pub distinct : Distinct σ.roots

-- so many references
from_long : (ts : List Token) (place n : ℕ) → length (refs_from ts place n) ≡ n
unfolding refs_from
from_long ts place zero = refl
from_long ts place (suc n) = ap suc (from_long ts (place + 1) n)

pub item_made : (ts : List Token) → (shape (item ts).word).makes ≡ (item ts).makes
unfolding item item_of
item_made ts = refl

operand_some : {ls : List (List ℕ)} {σ : State} → Sound ls σ → AllBuilt σ.nodes → (rs : List Ref) → 0 < length rs → any_unknown rs σ.named ≡ false
    → 1 ≤ width_of (operands σ rs) 0
unfolding operands operand_of any_unknown
operand_some S A [] l u = absurd (omega arith)
operand_some {ls} {σ} S A (r ∷ rs) l u = width_some σ.nodes A _ (S.names_inside r.line (not-false _ (first _ _ u)))
  where
    first : (a b : Bool) → (a || b) ≡ false → a ≡ false
    first true b f = absurd (false≢true (sym f))
    first false b f = refl

known_some : {ls : List (List ℕ)} {σ : State} → Sound ls σ → (id : ℕ) → known id σ.sorts ≡ true → 1 ≤ at id σ.sorts
known_some {ls} {σ} S id k = by (at id σ.sorts) (sym (S.sorted.defined id) ∙ k)
  where
    by : (n : ℕ) → not (eqb n 0) ≡ true → 1 ≤ n
    by zero e = absurd (false≢true e)
    by (suc n) e = omega arith

some_sort : {ls : List (List ℕ)} {σ : State} → Sound ls σ → (m : Makes) (id : ℕ) → has_sort m ≡ true → sort_unknown m id σ.sorts ≡ false → 1 ≤ at id σ.sorts
unfolding has_sort
some_sort S Sort id h u = absurd (false≢true h)
some_sort S Root id h u = absurd (false≢true h)
some_sort {ls} {σ} S Input id h u = known_some S id (not-false _ u)
some_sort {ls} {σ} S Value id h u = known_some S id (not-false _ u)

-- a constant that fits is below 2^w
constant_value_below : (base w : ℕ) (t : Token) → 1 ≤ w → constant_fits base w t ≡ true → is_constant base t ≡ true → constant_value w (constant_of base t) < 2 ^ w
unfolding constant_value constant_of
constant_value_below base w t l f g = by (signed t)
  where
    by : (s : Bool) → cond s ((2 ^ w - value_in base (unsigned t)) % 2 ^ w) (value_in base (unsigned t)) < 2 ^ w
    by true = mod-lt _ (pow_pos w)
    by false = let b = constant_below base w t l f g in omega (arith, pow_pos w)

pub item_constant : (ts : List Token) → (item ts).constant ≡ constant_of (shape (word_of (number_of (token ts 1)))).base (token ts (constant_place (shape (word_of (number_of (token ts 1))))))
unfolding item item_of
item_constant ts = refl

pub item_word : (ts : List Token) → (item ts).word ≡ word_of (number_of (token ts 1))
unfolding item item_of
item_word ts = refl

value_word : (k : ℕ) → 4 < k → k < 8 → has_sort (shape (word_of k)).makes ≡ true
unfolding has_sort
value_word k l h = by k _ (role k) l h
  where
    by : (k : ℕ) (m : Makes) → Role k m → 4 < k → k < 8 → has_sort m ≡ true
    by k m makes_sort p q = absurd (omega arith)
    by k m makes_input p q = refl
    by k m (makes_a_value a b) p q = refl
    by k m (makes_a_root a) p q = absurd (omega arith)

constant_fits_in : (ts : List Token) (w wa wb wc : ℕ) → rule_of (item ts).word ≡ rule.Constant → Formed ts
    → fits (item ts).word w wa wb wc (item ts).first (item ts).second (item ts).constant ≡ true → (has_sort (shape (item ts).word).makes ≡ true → 1 ≤ w)
    → constant_value w (item ts).constant < 2 ^ w
constant_fits_in ts w wa wb wc e F f l =
    let k = number_of (token ts 1) in
    let c = const_word k F.listed (rw (item_word ts) at e) in
    let b = base_some k c.0 c.1 in
    let l₁ : 1 ≤ w = l (rw (item_word ts) (value_word k c.0 c.1)) in
    let f₁ : constant_fits (shape (word_of k)).base w (token ts (constant_place (shape (word_of k)))) ≡ true =
    const_fits k w wa wb wc (item ts).first (item ts).second _ c.0 c.1 ∙ (rw (item_word ts, item_constant ts) at f) in
    rw (item_constant ts)
    (constant_value_below (shape (word_of k)).base w _ l₁ f₁ (F.constant (ne_eqb _ 0 (λ z. no z b))))
  where
    no : {x : ℕ} → x ≡ 0 → 0 < x → ⊥
    no z b = omega arith

-- a constraint's line has one reference, and makes no node but its not
pub one_ref : 0 < (shape (word_of 27)).refs
unfolding shape
one_ref = omega arith

root_refs : (ts : List Token) → number_of (token ts 1) ≡ 27 → (item ts).refs ≡ ref_of (token ts 2) ∷ []
unfolding item item_of shape refs_from
root_refs ts e = rw e

pub stands_by : (σ : State) (r : Ref)
    → cond (eqb (length (nots (operands σ (r ∷ [])))) 0) (get_or (placed (length σ.nodes) (operands σ (r ∷ []))) 0 0)
    (length σ.nodes + length (nots (operands σ (r ∷ []))) - 1)
    ≡ get_or (placed (length σ.nodes) (operands σ (r ∷ []))) 0 0
unfolding operands nots placed operand_of
stands_by σ r = by r.negative
  where
    by : (b : Bool)
        → cond (eqb (length (cond b (invert (width_in σ.nodes (at r.line σ.named)) (at r.line σ.named) ∷ []) [])) 0)
        (get_or (cond b (length σ.nodes ∷ []) (at r.line σ.named ∷ [])) 0 0)
        (length σ.nodes + length (cond b (invert (width_in σ.nodes (at r.line σ.named)) (at r.line σ.named) ∷ []) []) - 1)
        ≡ get_or (cond b (length σ.nodes ∷ []) (at r.line σ.named ∷ [])) 0 0
    by true = omega arith
    by false = refl

pub root_nodes : (σ : State) (ts : List Token) → number_of (token ts 1) ≡ 27 → new_nodes σ (item ts) ≡ nots (operands σ (item ts).refs)
unfolding new_nodes item item_of own
root_nodes σ ts e = rw e (append-nil _)

pub root_stands : (σ : State) (ts : List Token) → number_of (token ts 1) ≡ 27
    → node_for σ (item ts) ≡ get_or (placed (length σ.nodes) (operands σ (item ts).refs)) 0 0
unfolding node_for
root_stands σ ts e = rw (root_nodes σ ts e, root_refs ts e) (stands_by σ (ref_of (token ts 2)))

root_width : (σ : State) (ts : List Token) → number_of (token ts 1) ≡ 27 → (w wb wc : ℕ)
    → fits (item ts).word w (width_of (operands σ (item ts).refs) 0) wb wc (item ts).first (item ts).second (item ts).constant ≡ true
    → width_of (operands σ (item ts).refs) 0 ≡ 1
unfolding fits
root_width σ ts e w wb wc f = eqb-true _ 1 (rw (item_word ts, e) at f)

-- of a line that passes
module _ {room : ℕ} {ls : List (List ℕ)} {σ : State} (ts : List Token) (S : Sound ls σ) (P : Passes room σ ts) (A : AllBuilt σ.nodes) where
  abbrev os : List Operand
  os = operands σ (item ts).refs

  abbrev w : ℕ
  w = at (item ts).sort σ.sorts

  abbrev ms : List Node
  ms = σ.nodes ++ nots os

  place : (j : ℕ) → j < length (item ts).refs → (get_or (placed (length σ.nodes) os) j 0 < length ms) × (width_in ms (get_or (placed (length σ.nodes) os) j 0) ≡ width_of os j)
  place j h = rw (append-nil σ.nodes) at (place_in S A [] (item ts).refs P.refs_known j h)

  pub refs_long : length (item ts).refs ≡ (shape (item ts).word).refs
  unfolding item item_of
  refs_long = from_long ts (ref_place (shape (word_of (number_of (token ts 1))))) (shape (word_of (number_of (token ts 1)))).refs

  first_some : 0 < (shape (item ts).word).refs → 1 ≤ width_of os 0
  first_some h = operand_some S A (item ts).refs (rw refs_long h) P.refs_known

  pub operands_in : Ops (item ts).word ms (get_or (placed (length σ.nodes) os) 0 0) (get_or (placed (length σ.nodes) os) 1 0) (get_or (placed (length σ.nodes) os) 2 0) (width_of os 0) (width_of os 1) (width_of os 2)
  operands_in =
      record {
        a_in = λ h. (place 0 (rw refs_long h)).0;
        b_in = λ h. (place 1 (rw refs_long h)).0;
        c_in = λ h. (place 2 (rw refs_long h)).0;
        a_width = λ h. (place 0 (rw refs_long h)).1;
        b_width = λ h. (place 1 (rw refs_long h)).1;
        c_width = λ h. (place 2 (rw refs_long h)).1;
        a_most = λ h. operand_wide σ (item ts).refs 0 S.nodes_wide;
        a_some = first_some;
      }

  pub sort_some : has_sort (shape (item ts).word).makes ≡ true → 1 ≤ w
  unfolding has_sort
  sort_some h = some_sort S (item ts).makes (item ts).sort (rw (item_made ts) at h) P.sort_known

  constant_small : rule_of (item ts).word ≡ rule.Constant → constant_value w (item ts).constant < 2 ^ w
  constant_small e = constant_fits_in ts w _ _ _ e P.form P.fitting sort_some

  pub line_chain : Chain σ.nodes (new_nodes σ (item ts))
  unfolding new_nodes
  line_chain =
      let n : length σ.nodes + length (nots os) ≡ length ms = sym (length-append σ.nodes (nots os)) in
      chain_append σ.nodes (nots os) _ (rw (append-nil σ.nodes) at (nots_chain S A [] (item ts).refs P.refs_known))
      (rw n (own_chain (item ts).word ms w _ _ _ _ _ _ (item ts).first (item ts).second _ (item ts).constant operands_in sort_some (S.sorted.most (item ts).sort) constant_small P.fitting))

  -- a constraint's node
  pub root_in : number_of (token ts 1) ≡ 27 → (node_for σ (item ts) < length (σ.nodes ++ new_nodes σ (item ts))) × (width_in (σ.nodes ++ new_nodes σ (item ts)) (node_for σ (item ts)) ≡ 1)
  root_in e =
      let q = place 0 (rw (refs_long, item_word ts, e) one_ref) in
      let n : new_nodes σ (item ts) ≡ nots os = root_nodes σ ts e in
      let s : node_for σ (item ts) ≡ get_or (placed (length σ.nodes) os) 0 0 = root_stands σ ts e in
      rw (n, s) (q.0, q.1 ∙ root_width σ ts e _ _ _ P.fitting)

-- ---- all of them

with_roots : (ns : List Node) (rs : List ℕ) (r : ℕ) → AllRoots ns rs → r < length ns → width_in ns r ≡ 1 → AllRoots ns (with_root rs r)
unfolding with_root
with_roots ns rs r a h e = by (is_root r rs)
  where
    by : (b : Bool) → AllRoots ns (cond b rs (rs ++ r ∷ []))
    by true = a
    by false = root_snoc ns rs r a h e

with_distinct : (rs : List ℕ) (r : ℕ) → Distinct rs → Distinct (with_root rs r)
unfolding with_root
with_distinct rs r d = by (is_root r rs) refl
  where
    by : (b : Bool) → is_root r rs ≡ b → Distinct (cond b rs (rs ++ r ∷ []))
    by true e = d
    by false e = distinct_snoc rs r d e

-- an input's and a value's line
naming_fine : {room : ℕ} {ls : List (List ℕ)} {σ : State} (ts : List Token) → Sound ls σ → Passes room σ ts → Fine σ → Fine (naming σ (item ts))
unfolding naming
naming_fine {room} {ls} {σ} ts S P F =
    record {
      built = chain_all σ.nodes (new_nodes σ (item ts)) F.built (line_chain ts S P F.built);
      roots = roots_grow σ.nodes (new_nodes σ (item ts)) σ.roots F.roots;
      distinct = F.distinct;
    }

added_fine : {room : ℕ} {ls : List (List ℕ)} {σ : State} (ts : List Token) → Sound ls σ → Passes room σ ts → Fine σ → (k : ℕ) (m : Makes) → Role k m
    → k ≡ number_of (token ts 1) → k < 28 → Fine (added σ (item ts) m)
unfolding added naming
added_fine {room} {ls} {σ} ts S P F k m makes_sort e h = record { built = F.built; roots = F.roots; distinct = F.distinct }
added_fine {room} {ls} {σ} ts S P F k m makes_input e h = naming_fine ts S P F
added_fine {room} {ls} {σ} ts S P F k m (makes_a_value a b) e h = naming_fine ts S P F
added_fine {room} {ls} {σ} ts S P F k m (makes_a_root a) e h =
    let z : number_of (token ts 1) ≡ 27 = omega arith in
    let r = root_in ts S P F.built z in
    let g = roots_grow σ.nodes (new_nodes σ (item ts)) σ.roots F.roots in
    record {
      built = chain_all σ.nodes (new_nodes σ (item ts)) F.built (line_chain ts S P F.built);
      roots = with_roots (σ.nodes ++ new_nodes σ (item ts)) σ.roots (node_for σ (item ts)) g r.0 r.1;
      distinct = with_distinct σ.roots (node_for σ (item ts)) F.distinct;
    }

line_fine : {room : ℕ} {ls : List (List ℕ)} {σ : State} (ts : List Token) → Sound ls σ → Passes room σ ts → Fine σ → Fine (after σ (item ts))
unfolding after item item_of
line_fine ts S P F = added_fine ts S P F (number_of (token ts 1)) (shape (word_of (number_of (token ts 1)))).makes (role (number_of (token ts 1))) refl P.form.listed

start_fine : Fine start
unfolding AllBuilt AllRoots Distinct
start_fine = record { built = λ i h. absurd (omega arith); roots = tt; distinct = tt }

pub reached_fine : {room : ℕ} {ls : List (List ℕ)} {σ : State} → Reached room ls σ → Fine σ
unfolding after_line
reached_fine begin = start_fine
reached_fine {room} (more {ls} {σ} l r e) = by (tokens l) e (reached_fine r)
  where
    by : (ts : List Token) → line_fault room σ ts ≡ 0 → Fine σ → Fine (after_line σ ts)
    by [] f F = F
    by (t ∷ ts) f F = line_fine (t ∷ ts) (reached_sound r) (passes room σ t ts f) F
