-- The world after a line, tied to the state after it.
use Rattle.std.proofs.Math.Path.{◌≡◌, refl, sym}
use Rattle.std.proofs.Common.{ap, ◌∙◌, append_assoc, append-nil, ⊎_elim, length-append}
use Rattle.std.specs.Prelude.{Bool, true, cond, ◌||◌, List, [], ◌∷◌, ◌++◌, ℕ, suc, ◌+◌, ◌-◌, ◌^◌, ◌≤◌, ◌<◌, get_or}
use Rattle.std.proofs.Math.Bool.{false}
use Rattle.std.proofs.lemmas.Bool.{false≢true}
use Rattle.words.specs.laws.Bits.{lt_or_ge}
use native.Mathlib.Omega.{arith}
use Rattle.std.proofs.Math.Dec.{eqb}
use Rattle.std.proofs.Math.ListN.{length}
use borrow.Author.Tests.{eqb-true, ne_eqb}
use Rattle.problem.specs.declared.layout.Node.{Node}
use Rattle.lines.specs.declared.table.Makes.{Makes}
use Rattle.lines.specs.declared.table.Makes.TheVariants.{Value}
use Rattle.spelling.specs.declared.forms.Form.{Form}
use Rattle.spelling.specs.declared.forms.Form.TheVariants as form
use Rattle.spelling.specs.declared.line.Operand.{Operand}
use Rattle.lines.specs.Lines.{Token, token}
use Rattle.lines.specs.Words.{Word, sort, input, zeros, one, ones, const, constd, consth, inv, conj, disj, xor, add, sub, mul, sll, srl, sra, eq, neq, ult, slt, ite, concat, slice, uext, sext, constraint, other, number_of, word_of, shape}
use Rattle.lines.specs.Format.{ref_of, refs_from, Constant, is_constant, constant_of, item_of, item}
use Rattle.spelling.specs.Nodes.{operator, constant_node, invert, constant_value, fits, own, nots, placed}
use Rattle.btor2.specs.Conversion.{State, at, width_in, operands, width_of, new_nodes, node_for}
use Rattle.btor2.specs.Meaning.{is_minus, worth, World, operand, value_of}
use Rattle.btor2.specs.Inputs.{inputs_of, variable_widths}
use Rattle.btor2.specs.inner.Values.{Gives, Kinds, Evaluated, Fitting}
use Rattle.spelling.specs.inner.Spelled.{form_of, or_nodes, sub_nodes, neq_nodes, uext_nodes, spelled_by, own_count}
use Rattle.spelling.specs.laws.Rule.{own_form}
use Rattle.spelling.specs.laws.Constant.{not_signed}
use Rattle.btor2.specs.laws.Passed.{Formed, Passes}
use Rattle.btor2.specs.laws.Alias.{own_count_lem, makes_some, ext_shape}
use Rattle.btor2.specs.laws.Sound.{Sound, Role, makes_sort, makes_input, makes_a_value, makes_a_root, role}
use Rattle.btor2.specs.laws.Built.{AllBuilt, Ops, width_before}
use Rattle.btor2.specs.laws.Fine.{refs_long, operands_in, sort_some, stands_by, item_word}
use Rattle.btor2.specs.laws.Meant.{StandsIn, AtIn, not_value, own_means}
use Rattle.btor2.specs.laws.Tied.{Tied, NoVariable, at_split, at_new, Has, operand_has, stands_width}

-- ---- only the operands that a keyword has bear on a line's value

pub record Used (k : Word) (wa wb x y z wa' wb' x' y' z' : ℕ) : Type 0 where
  pub wa_is : 0 < (shape k).refs → wa ≡ wa'
  pub wb_is : 1 < (shape k).refs → wb ≡ wb'
  pub x_is : 0 < (shape k).refs → x ≡ x'
  pub y_is : 1 < (shape k).refs → y ≡ y'
  pub z_is : 2 < (shape k).refs → z ≡ z'

worth_used : (k : Word) (w wa wb p q : ℕ) (t : Constant) (x y z wa' wb' x' y' z' : ℕ) → Used k wa wb x y z wa' wb' x' y' z'
    → worth k w wa wb p q t x y z ≡ worth k w wa' wb' p q t x' y' z'
unfolding worth shape
worth_used sort w wa wb p q t x y z wa' wb' x' y' z' U = refl
worth_used input w wa wb p q t x y z wa' wb' x' y' z' U = refl
worth_used zeros w wa wb p q t x y z wa' wb' x' y' z' U = refl
worth_used one w wa wb p q t x y z wa' wb' x' y' z' U = refl
worth_used ones w wa wb p q t x y z wa' wb' x' y' z' U = refl
worth_used const w wa wb p q t x y z wa' wb' x' y' z' U = refl
worth_used constd w wa wb p q t x y z wa' wb' x' y' z' U = refl
worth_used consth w wa wb p q t x y z wa' wb' x' y' z' U = refl
worth_used inv w wa wb p q t x y z wa' wb' x' y' z' U = rw (U.x_is (omega arith))
worth_used conj w wa wb p q t x y z wa' wb' x' y' z' U = rw (U.x_is (omega arith), U.y_is (omega arith))
worth_used disj w wa wb p q t x y z wa' wb' x' y' z' U = rw (U.x_is (omega arith), U.y_is (omega arith))
worth_used xor w wa wb p q t x y z wa' wb' x' y' z' U = rw (U.x_is (omega arith), U.y_is (omega arith))
worth_used add w wa wb p q t x y z wa' wb' x' y' z' U = rw (U.x_is (omega arith), U.y_is (omega arith))
worth_used sub w wa wb p q t x y z wa' wb' x' y' z' U = rw (U.x_is (omega arith), U.y_is (omega arith))
worth_used mul w wa wb p q t x y z wa' wb' x' y' z' U = rw (U.x_is (omega arith), U.y_is (omega arith))
worth_used sll w wa wb p q t x y z wa' wb' x' y' z' U = rw (U.x_is (omega arith), U.y_is (omega arith))
worth_used srl w wa wb p q t x y z wa' wb' x' y' z' U = rw (U.x_is (omega arith), U.y_is (omega arith))
worth_used sra w wa wb p q t x y z wa' wb' x' y' z' U = rw (U.x_is (omega arith), U.y_is (omega arith))
worth_used eq w wa wb p q t x y z wa' wb' x' y' z' U = rw (U.x_is (omega arith), U.y_is (omega arith))
worth_used neq w wa wb p q t x y z wa' wb' x' y' z' U = rw (U.x_is (omega arith), U.y_is (omega arith))
worth_used ult w wa wb p q t x y z wa' wb' x' y' z' U = rw (U.x_is (omega arith), U.y_is (omega arith))
worth_used slt w wa wb p q t x y z wa' wb' x' y' z' U = rw (U.wa_is (omega arith), U.x_is (omega arith), U.y_is (omega arith))
worth_used ite w wa wb p q t x y z wa' wb' x' y' z' U = rw (U.x_is (omega arith), U.y_is (omega arith), U.z_is (omega arith))
worth_used concat w wa wb p q t x y z wa' wb' x' y' z' U = rw (U.wb_is (omega arith), U.x_is (omega arith), U.y_is (omega arith))
worth_used slice w wa wb p q t x y z wa' wb' x' y' z' U = rw (U.x_is (omega arith))
worth_used uext w wa wb p q t x y z wa' wb' x' y' z' U = rw (U.x_is (omega arith))
worth_used sext w wa wb p q t x y z wa' wb' x' y' z' U = rw (U.wa_is (omega arith), U.x_is (omega arith))
worth_used constraint w wa wb p q t x y z wa' wb' x' y' z' U = refl
worth_used other w wa wb p q t x y z wa' wb' x' y' z' U = refl

-- ---- no variable but an input's

not_zero : (k n : ℕ) → suc k ≡ n → n ≡ 0 → ⊥
not_zero k n e z = omega arith

pub own_constant : (k : Word) (w n a b c p q v : ℕ) → (shape k).makes ≡ Value → NoVariable (own k w n a b c p q v)
unfolding own shape NoVariable
own_constant sort w n a b c p q v e = tt
own_constant input w n a b c p q v e = absurd (let y : ◌≡◌ {A = ℕ} 0 1 = cc in omega arith)
own_constant zeros w n a b c p q v e = (λ y. not_zero 0 1 refl y, tt)
own_constant one w n a b c p q v e = (λ y. not_zero 0 1 refl y, tt)
own_constant ones w n a b c p q v e = (λ y. not_zero 0 1 refl y, tt)
own_constant const w n a b c p q v e = (λ y. not_zero 0 1 refl y, tt)
own_constant constd w n a b c p q v e = (λ y. not_zero 0 1 refl y, tt)
own_constant consth w n a b c p q v e = (λ y. not_zero 0 1 refl y, tt)
own_constant inv w n a b c p q v e = (λ y. not_zero 1 2 refl y, tt)
own_constant conj w n a b c p q v e = (λ y. not_zero 2 3 refl y, tt)
own_constant disj w n a b c p q v e = (λ y. not_zero 1 2 refl y, (λ y. not_zero 1 2 refl y, (λ y. not_zero 2 3 refl y, (λ y. not_zero 1 2 refl y, tt))))
own_constant xor w n a b c p q v e = (λ y. not_zero 3 4 refl y, tt)
own_constant add w n a b c p q v e = (λ y. not_zero 4 5 refl y, tt)
own_constant sub w n a b c p q v e = (λ y. not_zero 1 2 refl y, (λ y. not_zero 4 5 refl y, (λ y. not_zero 1 2 refl y, tt)))
own_constant mul w n a b c p q v e = (λ y. not_zero 5 6 refl y, tt)
own_constant sll w n a b c p q v e = (λ y. not_zero 6 7 refl y, tt)
own_constant srl w n a b c p q v e = (λ y. not_zero 7 8 refl y, tt)
own_constant sra w n a b c p q v e = (λ y. not_zero 14 15 refl y, tt)
own_constant eq w n a b c p q v e = (λ y. not_zero 8 9 refl y, tt)
own_constant neq w n a b c p q v e = (λ y. not_zero 8 9 refl y, (λ y. not_zero 1 2 refl y, tt))
own_constant ult w n a b c p q v e = (λ y. not_zero 9 10 refl y, tt)
own_constant slt w n a b c p q v e = (λ y. not_zero 13 14 refl y, tt)
own_constant ite w n a b c p q v e = (λ y. not_zero 10 11 refl y, tt)
own_constant concat w n a b c p q v e = (λ y. not_zero 11 12 refl y, tt)
own_constant slice w n a b c p q v e = (λ y. not_zero 12 13 refl y, tt)
own_constant uext w n a b c p q v e = by (eqb p 0)
  where
    by : (z : Bool) → NoVariable (cond z [] (constant_node p 0 ∷ operator 12 w n a 0 ∷ []))
    by true = tt
    by false = (λ y. not_zero 0 1 refl y, (λ y. not_zero 11 12 refl y, tt))
own_constant sext w n a b c p q v e = by (eqb p 0)
  where
    by : (z : Bool) → NoVariable (cond z [] (operator 16 w a 0 0 ∷ []))
    by true = tt
    by false = (λ y. not_zero 15 16 refl y, tt)
own_constant constraint w n a b c p q v e = tt
own_constant other w n a b c p q v e = tt

pub nots_constant : (os : List Operand) → NoVariable (nots os)
unfolding NoVariable nots
nots_constant [] = tt
nots_constant (o ∷ os) = by o.negative (nots_constant os)
  where
    by : (b : Bool) → NoVariable (nots os) → NoVariable (cond b (invert o.width o.node ∷ nots os) (nots os))
    by true h = (λ y. not_zero 1 2 refl y, h)
    by false h = h

pub no_append : (ms ns : List Node) → NoVariable ms → NoVariable ns → NoVariable (ms ++ ns)
unfolding NoVariable
no_append [] ns a b = b
no_append (m ∷ ms) ns a b = (a.0, no_append ms ns a.1 b)

-- the last of a line's own nodes has the line's width
unless_last : (t : Bool) (ms : List Node) (w : ℕ) → (get_or ms (length ms - 1) (invert 0 0)).width ≡ w
    → 0 < length (cond t [] ms) → (get_or (cond t [] ms) (length (cond t [] ms) - 1) (invert 0 0)).width ≡ w
unless_last true ms w e h = absurd (omega arith)
unless_last false ms w e h = e

last_spelled : (f : Form) (w n a b c p q v : ℕ) → 0 < length (spelled_by f w n a b c p q v)
    → (get_or (spelled_by f w n a b c p q v) (length (spelled_by f w n a b c p q v) - 1) (invert 0 0)).width ≡ w
unfolding spelled_by or_nodes sub_nodes neq_nodes uext_nodes
last_spelled form.Nothing w n a b c p q v h = absurd (omega arith)
last_spelled form.Variable w n a b c p q v h = refl
last_spelled form.Constant w n a b c p q v h = refl
last_spelled (form.Plain kind) w n a b c p q v h = refl
last_spelled form.Slice w n a b c p q v h = refl
last_spelled form.Or w n a b c p q v h = refl
last_spelled form.Sub w n a b c p q v h = refl
last_spelled form.Neq w n a b c p q v h = refl
last_spelled form.Uext w n a b c p q v h = unless_last (eqb p 0) (uext_nodes w n a p) w refl h
last_spelled form.Sext w n a b c p q v h = unless_last (eqb p 0) (operator 16 w a 0 0 ∷ []) w refl h

last_width : (k : Word) (w n a b c p q v : ℕ) → 0 < length (own k w n a b c p q v)
    → (get_or (own k w n a b c p q v) (length (own k w n a b c p q v) - 1) (invert 0 0)).width ≡ w
last_width k w n a b c p q v h =
    let e = own_form k w n a b c p q v in
    rw e (last_spelled (form_of k) w n a _ _ p q _ (rw e at h))

-- ---- small laws

empty_list : (ms : List Node) → length ms ≡ 0 → ms ≡ []
empty_list [] h = refl
empty_list (m ∷ ms) h = absurd (omega arith)

ops_grow : (k : Word) (ms more : List Node) (a b c wa wb wc : ℕ) → Ops k ms a b c wa wb wc → Ops k (ms ++ more) a b c wa wb wc
ops_grow k ms more a b c wa wb wc O =
    record {
      a_in = λ h. let i = O.a_in h in omega (arith, length-append ms more);
      b_in = λ h. let i = O.b_in h in omega (arith, length-append ms more);
      c_in = λ h. let i = O.c_in h in omega (arith, length-append ms more);
      a_width = λ h. width_before ms more a (O.a_in h) ∙ O.a_width h;
      b_width = λ h. width_before ms more b (O.b_in h) ∙ O.b_width h;
      c_width = λ h. width_before ms more c (O.c_in h) ∙ O.c_width h;
      a_most = O.a_most;
      a_some = O.a_some;
    }

-- constants in base 2 and 16 have no sign
plain_constant : (ts : List Token) (base : ℕ) → Formed ts → base ≤ 16 → 0 < base → (base ≡ 10 → ⊥) → (shape (item ts).word).base ≡ base → (item ts).constant.minus ≡ false
unfolding item item_of constant_of is_constant
plain_constant ts base F l p n e =
    let k = number_of (token ts 1) in
    let c = F.constant (ne_eqb _ 0 (λ z. zero_no base p (sym e ∙ z))) in
    not_signed base _ l (rw (e, ne_eqb base 10 n) at c)
  where
    zero_no : (b : ℕ) → 0 < b → b ≡ 0 → ⊥
    zero_no b p z = omega arith

-- an extension by 0 has its operand's width and value
none_extends : (k : ℕ) (w wa wb wc p q : ℕ) (t : Constant) (x y z : ℕ) → (eqb k 25 || eqb k 26) ≡ true → p ≡ 0 → fits (word_of k) w wa wb wc p q t ≡ true
    → (wa ≡ w) × (worth (word_of k) w wa wb p q t x y z ≡ x)
unfolding fits worth
none_extends k w wa wb wc p q t x y z e d f = by (eqb k 25) (eqb k 26) refl refl
  where
    same : eqb (wa + p) w ≡ true → wa ≡ w
    same g = let h : wa + p ≡ w = eqb-true (wa + p) w g in omega arith

    minus : wa ≡ w → (b : Bool) → cond b (x + (2 ^ w - 2 ^ wa)) x ≡ x
    minus g true = rw g (let h : 2 ^ w - 2 ^ w ≡ 0 = omega arith in omega arith)
    minus g false = refl

    by : (a b : Bool) → eqb k 25 ≡ a → eqb k 26 ≡ b → (wa ≡ w) × (worth (word_of k) w wa wb p q t x y z ≡ x)
    by true b g h = let i : k ≡ 25 = eqb-true k 25 g in rw i (same (rw i at f), refl)
    by false true g h = let i : k ≡ 26 = eqb-true k 26 h in rw i (same (rw i at f), minus (same (rw i at f)) (is_minus wa x))
    by false false g h = absurd (false≢true (rw (g, h) at e))

-- none made means by 0
zero_by : (k p : ℕ) → (eqb k 25 || eqb k 26) ≡ true → own_count (form_of (word_of k)) p ≡ 0 → p ≡ 0
unfolding form_of own_count
zero_by k p e d = by (eqb k 25) (eqb k 26) refl refl
  where
    none : (b : Bool) (n : ℕ) → eqb p 0 ≡ b → cond b 0 (suc n) ≡ 0 → p ≡ 0
    none true n g h = eqb-true p 0 g
    none false n g h = absurd (omega arith)

    by : (a b : Bool) → eqb k 25 ≡ a → eqb k 26 ≡ b → p ≡ 0
    by true b g h = let i : k ≡ 25 = eqb-true k 25 g in none (eqb p 0) 1 refl (rw i at d)
    by false true g h = let i : k ≡ 26 = eqb-true k 26 h in none (eqb p 0) 0 refl (rw i at d)
    by false false g h = absurd (false≢true (rw (g, h) at e))

ext_ref : (ts : List Token) → (eqb (number_of (token ts 1)) 25 || eqb (number_of (token ts 1)) 26) ≡ true → (item ts).refs ≡ ref_of (token ts 3) ∷ []
unfolding item item_of refs_from
ext_ref ts x = rw (ext_shape (number_of (token ts 1)) x)

value_range : (k : ℕ) → (shape (word_of k)).makes ≡ Value → (0 < k) × (k < 27)
value_range k e = by k _ (role k) e
  where
    by : (k : ℕ) (m : Makes) → Role k m → m ≡ Value → (0 < k) × (k < 27)
    by k m makes_sort e = absurd (let y : ◌≡◌ {A = ℕ} 0 1 = cc in omega arith)
    by k m makes_input e = absurd (let y : ◌≡◌ {A = ℕ} 0 1 = cc in omega arith)
    by k m (makes_a_value a b) e = (omega arith, b)
    by k m (makes_a_root a) e = absurd (let y : ◌≡◌ {A = ℕ} 0 1 = cc in omega arith)

ext_only : (k p : ℕ) → 0 < k → k < 27 → own_count (form_of (word_of k)) p ≡ 0 → (eqb k 25 || eqb k 26) ≡ true
ext_only k p l h c = by (eqb k 25 || eqb k 26) refl
  where
    by : (b : Bool) → (eqb k 25 || eqb k 26) ≡ b → b ≡ true
    by true e = refl
    by false e = absurd (makes_some k p l h e c)

-- an extension that makes no node of its own stands for its operand, or its not
ext_stands : (σ : State) (ts : List Token) → (eqb (number_of (token ts 1)) 25 || eqb (number_of (token ts 1)) 26) ≡ true
    → new_nodes σ (item ts) ≡ nots (operands σ (item ts).refs) → node_for σ (item ts) ≡ get_or (placed (length σ.nodes) (operands σ (item ts).refs)) 0 0
unfolding node_for
ext_stands σ ts x e = rw (e, ext_ref ts x) (stands_by σ (ref_of (token ts 3)))

-- ---- a line

module _ (gives : Gives) (G : Kinds gives) (ns : List Node) (vs : List ℕ) (E : Evaluated gives ns vs) (B : AllBuilt ns)
    (Ft : Fitting (variable_widths ns) (inputs_of ns vs)) {room : ℕ} {ls : List (List ℕ)} {σ : State} {W : World} (D : Tied ns vs σ W)
    (ts : List Token) (S : Sound ls σ) (P : Passes room σ ts) (A : AllBuilt σ.nodes) (rest : List Node)
    (en : ns ≡ (σ.nodes ++ new_nodes σ (item ts)) ++ rest) where
  abbrev n : ℕ
  n = length σ.nodes

  abbrev os : List Operand
  os = operands σ (item ts).refs

  abbrev w : ℕ
  w = at (item ts).sort σ.sorts

  abbrev place : ℕ → ℕ
  place j = get_or (placed n os) j 0

  abbrev mine : List Node
  mine = own (item ts).word w (n + length (nots os)) (place 0) (place 1) (place 2) (item ts).first (item ts).second (constant_value w (item ts).constant)

  new_is : new_nodes σ (item ts) ≡ nots os ++ mine
  unfolding new_nodes
  new_is = refl

  whole_is : ns ≡ (σ.nodes ++ nots os) ++ (mine ++ rest)
  whole_is =
      en ∙ rw (new_is) (ap (λ xs. xs ++ rest) (sym (append_assoc σ.nodes (nots os) mine)) ∙ append_assoc (σ.nodes ++ nots os) mine rest)

  before : (a : ℕ) → a < length σ.nodes → width_in ns a ≡ width_in σ.nodes a
  before a h =
      rw en
      (width_before (σ.nodes ++ new_nodes σ (item ts)) rest a (omega (arith, length-append σ.nodes (new_nodes σ (item ts))))
      ∙ width_before σ.nodes (new_nodes σ (item ts)) a h)

  pub all_at : AtIn ns n (new_nodes σ (item ts))
  all_at = rw en (at_new σ.nodes (new_nodes σ (item ts)) rest)

  parts_at : AtIn ns n (nots os) × AtIn ns (n + length (nots os)) mine
  parts_at = at_split ns n (nots os) mine (rw new_is at all_at)

  has : (j : ℕ) → j < length (item ts).refs → Has ns vs (not_value gives G ns vs E) D before S.names_inside (place j) (operand W (item ts).refs j)
  has j h = operand_has ns vs (not_value gives G ns vs E) D before S.names_inside n (item ts).refs P.refs_known parts_at.0 j h

  pub has_value : (j : ℕ) → j < (shape (item ts).word).refs → get_or vs (place j) 0 ≡ (operand W (item ts).refs j).value
  unfolding Has
  has_value j h = (has j (rw (refs_long ts S P A) h)).0

  has_width : (j : ℕ) → j < (shape (item ts).word).refs → width_in ns (place j) ≡ (operand W (item ts).refs j).width
  unfolding Has
  has_width j h = (has j (rw (refs_long ts S P A) h)).1

  given : Ops (item ts).word ns (place 0) (place 1) (place 2) (width_of os 0) (width_of os 1) (width_of os 2)
  given = rw whole_is (ops_grow (item ts).word (σ.nodes ++ nots os) (mine ++ rest) _ _ _ _ _ _ (operands_in ts S P A))

  used : Used (item ts).word (width_of os 0) (width_of os 1) (get_or vs (place 0) 0) (get_or vs (place 1) 0) (get_or vs (place 2) 0) (operand W (item ts).refs 0).width
      (operand W (item ts).refs 1).width (operand W (item ts).refs 0).value (operand W (item ts).refs 1).value (operand W (item ts).refs 2).value
  used =
      record {
        wa_is = λ h. sym (given.a_width h) ∙ has_width 0 h;
        wb_is = λ h. sym (given.b_width h) ∙ has_width 1 h;
        x_is = has_value 0;
        y_is = has_value 1;
        z_is = has_value 2;
      }

  value_is : value_of W (item ts)
      ≡ worth (item ts).word w (width_of os 0) (width_of os 1) (item ts).first (item ts).second (item ts).constant (get_or vs (place 0) 0) (get_or vs (place 1) 0) (get_or vs (place 2) 0)
  unfolding value_of
  value_is = rw (D.sorts_tied (item ts).sort) (sym (worth_used (item ts).word w _ _ _ _ _ _ _ _ _ _ _ _ _ used))

  own_at : (j : ℕ) → j < length mine → StandsIn ns ((n + length (nots os)) + j) (get_or mine j (invert 0 0))
  unfolding AtIn
  own_at j h = parts_at.1 j h

  -- what a value's line stands for
  unfoldable pub Worth : Type 0
  Worth = (get_or vs (node_for σ (item ts)) 0 ≡ value_of W (item ts)) × (width_in ns (node_for σ (item ts)) ≡ w)

  some_nodes : (shape (item ts).word).makes ≡ Value → 0 < length mine → Worth
  unfolding node_for Worth
  some_nodes m h =
      let c : length (new_nodes σ (item ts)) ≡ length (nots os) + length mine = rw new_is (length-append (nots os) mine) in
      let d : eqb (length (new_nodes σ (item ts))) 0 ≡ false = ne_eqb _ 0 (λ y. let i : length (new_nodes σ (item ts)) ≡ 0 = y in omega arith) in
      let z : n + length (new_nodes σ (item ts)) - 1 ≡ (n + length (nots os)) + length mine - 1 = omega arith in
      let v =
      own_means gives G ns vs E B Ft (item ts).word w (n + length (nots os)) (place 0) (place 1) (place 2) (width_of os 0) (width_of os 1) (width_of os 2)
      (item ts).first (item ts).second _ (item ts).constant given (sort_some ts S P A) m P.fitting refl (plain_constant ts 2 P.form (omega arith) (omega arith) (λ y. two_ten y))
      (plain_constant ts 16 P.form (omega arith) (omega arith) (λ y. sixteen_ten y)) parts_at.1 h in
      let e : (n + length (nots os)) + length mine - 1 ≡ (n + length (nots os)) + (length mine - 1) = omega arith in
      rw (d, z) (v ∙ sym value_is, rw e (stands_width ns _ _ (own_at (length mine - 1) (omega arith)) ∙ last_width (item ts).word w _ _ _ _ _ _ _ h))
    where
      two_ten : ◌≡◌ {A = ℕ} 2 10 → ⊥
      two_ten y = omega arith

      sixteen_ten : ◌≡◌ {A = ℕ} 16 10 → ⊥
      sixteen_ten y = omega arith

  new_empty : length mine ≡ 0 → new_nodes σ (item ts) ≡ nots os
  new_empty h = new_is ∙ rw (empty_list mine h) (append-nil (nots os))

  no_nodes : (shape (item ts).word).makes ≡ Value → length mine ≡ 0 → Worth
  unfolding Worth
  no_nodes m h =
      let k = number_of (token ts 1) in
      let c : own_count (form_of (word_of k)) (item ts).first ≡ 0 = sym (own_count_lem (word_of k) _ _ _ _ _ _ _ _) ∙ (rw (item_word ts) at h) in
      let r = value_range k (rw (item_word ts) at m) in
      let x = ext_only k (item ts).first r.0 r.1 c in
      let d = zero_by k (item ts).first x c in
      let f = none_extends k w (width_of os 0) (width_of os 1) (width_of os 2) (item ts).first (item ts).second (item ts).constant (get_or vs (place 0) 0) (get_or vs (place 1) 0) (get_or vs (place 2) 0) x d (rw (item_word ts) at P.fitting) in
      let o : 0 < (shape (item ts).word).refs = rw (item_word ts, ext_shape k x) (omega arith) in
      let s = ext_stands σ ts x (new_empty h) in
      rw s (sym (value_is ∙ rw (item_word ts) f.1), given.a_width o ∙ f.0)

  pub line_worth : (shape (item ts).word).makes ≡ Value → Worth
  line_worth m = ⊎_elim (λ (h : 0 < length mine). some_nodes m h) (λ (h : length mine ≤ 0). no_nodes m (omega arith)) (lt_or_ge 0 (length mine))
