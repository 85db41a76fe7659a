-- A line that passes and makes no node, though it is a value's, only gives another name; and another name makes no node.
use Rattle.std.specs.Prelude.{◌≡◌, Bool, cond, not, ◌&&◌, ◌||◌, List, [], ◌∷◌, ℕ, suc, ◌+◌, ◌<◌, T, ltb, get_or}
use Rattle.std.proofs.Math.Path.{refl, ap}
use Rattle.std.proofs.Common.{sym, ◌∙◌, arith, ltb→lt, length-append}
use Rattle.std.proofs.Math.Bool.{true, false}
use Rattle.std.proofs.lemmas.Bool.{false≢true}
use Rattle.std.proofs.Math.Dec.{eqb}
use Rattle.std.proofs.Math.ListN.{length}
use borrow.Author.Tests.{ne_eqb, eqb-true}
use Rattle.words.specs.laws.Cases.{every_at}
use Rattle.texts.specs.Numbers.{value_in}
use Rattle.lines.specs.laws.Word.{or_right}
use Rattle.lines.specs.declared.table.Makes.TheVariants.{Value}
use Rattle.spelling.specs.declared.forms.Form.{Form}
use Rattle.spelling.specs.declared.forms.Form.TheVariants as form
use Rattle.lines.specs.Lines.{Token, token}
use Rattle.lines.specs.Words.{Word, number_of, word_of, row, shape}
use Rattle.lines.specs.Format.{signed, unsigned, ref_of, refs_from, item_of, item}
use Rattle.spelling.specs.Nodes.{own, invert, nots, placed}
use Rattle.btor2.specs.Conversion.{State, at, known, operand_of, operands, new_nodes, node_for, any_unknown}
use Rattle.spelling.specs.inner.Spelled.{form_of, own_count}
use Rattle.spelling.specs.laws.Rule.{own_form}
use Rattle.spelling.specs.laws.Spell.{own_length}
use Rattle.lines.specs.inner.Told.{is_alias}

-- how many nodes of its own a keyword's line makes
pub own_count_lem : (k : Word) (w n a b c p q v : ℕ) → length (own k w n a b c p q v) ≡ own_count (form_of k) p
own_count_lem k w n a b c p q v = ap length (own_form k w n a b c p q v) ∙ own_length (form_of k) w n a _ _ p q _

none_of : (t : Bool) (n : ℕ) → cond t 0 (suc n) ≡ 0 → ◌≡◌ {A = ℕ} 0 0
none_of t n e = refl

-- where none are made by p, none are by 0
count_zero : (f : Form) (p : ℕ) → own_count f p ≡ 0 → own_count f 0 ≡ 0
unfolding own_count
count_zero form.Nothing p e = e
count_zero form.Variable p e = e
count_zero form.Constant p e = e
count_zero (form.Plain kind) p e = e
count_zero form.Slice p e = e
count_zero form.Or p e = e
count_zero form.Sub p e = e
count_zero form.Neq p e = e
count_zero form.Uext p e = refl
count_zero form.Sext p e = refl

-- of the keywords 1 to 26, only uext and sext may make none
pub makes_some : (k p : ℕ) → 0 < k → k < 27 → (eqb k 25 || eqb k 26) ≡ false → own_count (form_of (word_of k)) p ≡ 0 → ⊥
unfolding form_of own_count
makes_some k p l h e z =
    let t = every_at 27 (λ x. (ltb x 1 || (eqb x 25 || eqb x 26)) || ltb 0 (own_count (form_of (word_of x)) 0)) tt k h in
    let g = or_right (ltb k 1 || (eqb k 25 || eqb k 26)) (ltb 0 (own_count (form_of (word_of k)) 0)) t (λ u. low u) in
    let m : 0 < own_count (form_of (word_of k)) 0 = ltb→lt 0 _ g in
    let y = count_zero (form_of (word_of k)) p z in
    omega arith
  where
    low : T (ltb k 1 || (eqb k 25 || eqb k 26)) → ⊥
    low u = by (ltb k 1) refl (rw e at u)
      where
        by : (b : Bool) → ltb k 1 ≡ b → T (b || false) → ⊥
        by true q v = let i : k < 1 = ltb→lt k 1 (rw q tt) in omega arith
        by false q v = v

-- all nodes
nots_one : (b : Bool) (w a : ℕ) → length (cond b (invert w a ∷ []) []) ≡ cond b 1 0
nots_one true w a = refl
nots_one false w a = refl

none_made : (s : Bool) (n m : ℕ) → 0 < m → eqb (cond s 1 0 + cond (eqb n 0) 0 m) 0 ≡ ((true && eqb n 0) && not s)
none_made s n m h = by s (eqb n 0)
  where
    by : (s b : Bool) → eqb (cond s 1 0 + cond b 0 m) 0 ≡ ((true && b) && not s)
    by true true = refl
    by true false = ne_eqb (1 + m) 0 (λ z. let y : 1 + m ≡ 0 = z in omega arith)
    by false true = refl
    by false false = ne_eqb (0 + m) 0 (λ z. let y : 0 + m ≡ 0 = z in omega arith)

-- of a line's tokens, with the keyword's number k
module _ (σ : State) (ts : List Token) where
  new_length : (k : ℕ) → k ≡ number_of (token ts 1)
      → length (new_nodes σ (item ts)) ≡ length (nots (operands σ (item_of k ts).refs)) + own_count (form_of (word_of k)) (item_of k ts).first
  unfolding new_nodes item item_of
  new_length k e = rw (← e) (length-append (nots (operands σ (item_of k ts).refs)) _ ∙ ap (λ (m : ℕ). length (nots (operands σ (item_of k ts).refs)) + m) (own_count_lem (word_of k) _ _ _ _ _ _ _ _))

  extends : (k : ℕ) → k ≡ number_of (token ts 1) → k ≡ 25 → eqb (length (new_nodes σ (item ts))) 0 ≡ is_alias ts
  unfolding is_alias item_of shape refs_from operands nots form_of own_count operand_of ref_of
  extends k e f =
      let l = new_length k e in
      rw (l, ← e, f, nots_one (signed (token ts 3))) (none_made (signed (token ts 3)) (value_in 10 (token ts 4)) 2 (omega arith))

  extends1 : (k : ℕ) → k ≡ number_of (token ts 1) → k ≡ 26 → eqb (length (new_nodes σ (item ts))) 0 ≡ is_alias ts
  unfolding is_alias item_of shape refs_from operands nots form_of own_count operand_of ref_of
  extends1 k e f =
      let l = new_length k e in
      rw (l, ← e, f, nots_one (signed (token ts 3))) (none_made (signed (token ts 3)) (value_in 10 (token ts 4)) 1 (omega arith))

  neither : (k : ℕ) → k ≡ number_of (token ts 1) → (eqb k 25 || eqb k 26) ≡ false → 0 < k → k < 27 → eqb (length (new_nodes σ (item ts))) 0 ≡ is_alias ts
  unfolding is_alias
  neither k e f l h =
      rw (← e, f, ne_eqb (length (new_nodes σ (item ts))) 0 (λ z. makes_some k (item_of k ts).first l h f (let y = new_length k e in omega arith)))

  -- a line of an input or a value makes no node exactly if it only gives another name
  pub alias_empty : 0 < number_of (token ts 1) → number_of (token ts 1) < 27 → eqb (length (new_nodes σ (item ts))) 0 ≡ is_alias ts
  alias_empty l h = by (eqb (number_of (token ts 1)) 25) (eqb (number_of (token ts 1)) 26) refl refl
    where
      by : (a b : Bool) → eqb (number_of (token ts 1)) 25 ≡ a → eqb (number_of (token ts 1)) 26 ≡ b
          → eqb (length (new_nodes σ (item ts))) 0 ≡ is_alias ts
      by true b e f = extends (number_of (token ts 1)) refl (eqb-true _ 25 e)
      by false true e f = extends1 (number_of (token ts 1)) refl (eqb-true _ 26 f)
      by false false e f = neither (number_of (token ts 1)) refl (rw (e, f)) l h

  -- another name's keyword is uext or sext, and its node is its operand's
  pub alias_word : is_alias ts ≡ true → (eqb (number_of (token ts 1)) 25 || eqb (number_of (token ts 1)) 26) ≡ true
  unfolding is_alias
  alias_word e = by (eqb (number_of (token ts 1)) 25 || eqb (number_of (token ts 1)) 26) refl
    where
      by : (b : Bool) → (eqb (number_of (token ts 1)) 25 || eqb (number_of (token ts 1)) 26) ≡ b → b ≡ true
      by true q = refl
      by false q = absurd (false≢true (rw q at e))

pub record Another (σ : State) (ts : List Token) : Type 0 where
  pub word_low : 0 < number_of (token ts 1)
  pub word_high : number_of (token ts 1) < 27
  pub stands : node_for σ (item ts) ≡ at (value_in 10 (token ts 3)) σ.named
  pub told : any_unknown (item ts).refs σ.named ≡ false → known (value_in 10 (token ts 3)) σ.named ≡ true

pub ext_shape : (k : ℕ) → (eqb k 25 || eqb k 26) ≡ true → shape (word_of k) ≡ row Value 1 1 0
unfolding shape
ext_shape k e = by (eqb k 25) (eqb k 26) refl refl
  where
    by : (a b : Bool) → eqb k 25 ≡ a → eqb k 26 ≡ b → shape (word_of k) ≡ row Value 1 1 0
    by true b p q = rw (eqb-true k 25 p)
    by false true p q = rw (eqb-true k 26 q)
    by false false p q = absurd (false≢true (rw (p, q) at e))

ext_number : (k : ℕ) → (eqb k 25 || eqb k 26) ≡ true → (0 < k) × (k < 27)
ext_number k e = by (eqb k 25) (eqb k 26) refl refl
  where
    by : (a b : Bool) → eqb k 25 ≡ a → eqb k 26 ≡ b → (0 < k) × (k < 27)
    by true b p q = let z : k ≡ 25 = eqb-true k 25 p in omega arith
    by false true p q = let z : k ≡ 26 = eqb-true k 26 q in omega arith
    by false false p q = absurd (false≢true (rw (p, q) at e))

not_right : (a b : Bool) → (a && not b) ≡ true → b ≡ false
not_right a true e = absurd (by a e)
  where
    by : (c : Bool) → (c && false) ≡ true → ⊥
    by true f = false≢true f
    by false f = false≢true f
not_right a false e = refl

module _ (σ : State) (ts : List Token) (e : is_alias ts ≡ true) where
  plain_ref : signed (token ts 3) ≡ false
  unfolding is_alias
  plain_ref =
      not_right ((eqb (number_of (token ts 1)) 25 || eqb (number_of (token ts 1)) 26) && eqb (value_in 10 (token ts 4)) 0) (signed (token ts 3)) e

  one_ref : (item ts).refs ≡ ref_of (token ts 3) ∷ []
  unfolding item item_of refs_from
  one_ref = rw (ext_shape (number_of (token ts 1)) (alias_word σ ts e))

  ref_line : (ref_of (token ts 3)).line ≡ value_in 10 (token ts 3)
  unfolding ref_of unsigned
  ref_line = rw plain_ref

  first_placed : (n : ℕ) → get_or (placed n (operands σ (ref_of (token ts 3) ∷ []))) 0 0 ≡ at (ref_of (token ts 3)).line σ.named
  unfolding operands placed operand_of ref_of
  first_placed n = rw plain_ref

  pub another : Another σ ts
  unfolding node_for any_unknown
  another =
      let b = ext_number (number_of (token ts 1)) (alias_word σ ts e) in
      let z : eqb (length (new_nodes σ (item ts))) 0 ≡ true = alias_empty σ ts b.0 b.1 ∙ e in
      record {
        word_low = b.0;
        word_high = b.1;
        stands = rw (z, one_ref) (first_placed (length σ.nodes) ∙ rw ref_line);
        told = λ u. rw (← ref_line) (known_of (known (ref_of (token ts 3)).line σ.named) (rw one_ref at u));
      }
    where
      known_of : (k : Bool) → (not k || false) ≡ false → k ≡ true
      known_of true u = refl
      known_of false u = absurd (false≢true (sym u))
