-- Laws of the nodes of a line, as code counts and makes them.
use Rattle.std.specs.Prelude.{◌≡◌, Bool, ◌&&◌, List, [], ◌∷◌, ℕ, ◌+◌, ◌-◌, ◌≤◌, ◌<◌, eqb, ltb}
use Rattle.std.proofs.Math.Path.{refl, sym}
use Rattle.std.proofs.Common.{ap, ◌∙◌, arith, length-append, le-leb}
use Rattle.std.proofs.Math.Bool.{true, false, cond}
use Rattle.std.proofs.Math.ListN.{length, get_or, get_or-append}
use Rattle.std.proofs.Math.Seq.{get_or-append-add}
use Rattle.std.proofs.lemmas.Bool.{lt-leb}
use Rattle.problem.specs.declared.layout.Node.{Node}
use Rattle.spelling.specs.declared.forms.Rule.TheVariants.{Slice}
use Rattle.spelling.specs.declared.forms.Form.{Form}
use Rattle.spelling.specs.declared.forms.Form.TheVariants as form
use Rattle.spelling.specs.declared.line.Operands.{Operands}
use Rattle.spelling.specs.declared.line.Line.{Line}
use Rattle.lines.specs.Words.{word_of}
use Rattle.spelling.specs.Nodes.{operator, constant_node, invert, nots}
use Rattle.spelling.specs.inner.Spelled.{rule_fits, or_nodes, sub_nodes, neq_nodes, uext_nodes, spelled_by, own_count, one_if, placed_at, three_of, nots_of, count_read, form_of, new_read}

-- ---- counts

pub one_few : (b : Bool) (n : ℕ) → n ≡ one_if b → n ≤ 1
unfolding one_if
one_few true n e = omega arith
one_few false n e = omega arith

pub nots_few : (o : Operands) → nots_of o ≤ 3
unfolding nots_of
nots_few o = omega (arith, one_few o.a.negative _ refl, one_few o.b.negative _ refl, one_few o.c.negative _ refl)

pub own_few : (f : Form) (p : ℕ) → own_count f p ≤ 4
unfolding own_count
own_few form.Nothing p = omega arith
own_few form.Variable p = omega arith
own_few form.Constant p = omega arith
own_few (form.Plain kind) p = omega arith
own_few form.Slice p = omega arith
own_few form.Or p = omega arith
own_few form.Sub p = omega arith
own_few form.Neq p = omega arith
own_few form.Uext p = by (eqb p 0)
  where
    by : (b : Bool) → cond b 0 2 ≤ 4
    by true = omega arith
    by false = omega arith
own_few form.Sext p = by (eqb p 0)
  where
    by : (b : Bool) → cond b 0 1 ≤ 4
    by true = omega arith
    by false = omega arith

pub count_few : (x : Line) → count_read x ≤ 7
unfolding count_read
count_few x = omega (arith, nots_few x.ops, own_few (form_of (word_of x.word)) x.first)

pub own_length : (f : Form) (w n a b c p q v : ℕ) → length (spelled_by f w n a b c p q v) ≡ own_count f p
unfolding spelled_by own_count or_nodes sub_nodes neq_nodes uext_nodes
own_length form.Nothing w n a b c p q v = refl
own_length form.Variable w n a b c p q v = refl
own_length form.Constant w n a b c p q v = refl
own_length (form.Plain kind) w n a b c p q v = refl
own_length form.Slice w n a b c p q v = refl
own_length form.Or w n a b c p q v = refl
own_length form.Sub w n a b c p q v = refl
own_length form.Neq w n a b c p q v = refl
own_length form.Uext w n a b c p q v = by (eqb p 0)
  where
    by : (t : Bool) → length (cond t [] (constant_node p 0 ∷ operator 12 w n a 0 ∷ [])) ≡ cond t 0 2
    by true = refl
    by false = refl
own_length form.Sext w n a b c p q v = by (eqb p 0)
  where
    by : (t : Bool) → length (cond t [] (operator 16 w a 0 0 ∷ [])) ≡ cond t 0 1
    by true = refl
    by false = refl

-- ---- the nots in front

module _ (o : Operands) where
  pub nots_length : length (nots (three_of o)) ≡ nots_of o
  unfolding nots nots_of one_if
  nots_length = by o.a.negative o.b.negative o.c.negative
    where
      by : (x y z : Bool)
          → length (cond x (invert o.a.width o.a.node ∷ cond y (invert o.b.width o.b.node ∷ cond z (invert o.c.width o.c.node ∷ []) []) (cond z (invert o.c.width o.c.node ∷ []) [])) (cond y (invert o.b.width o.b.node ∷ cond z (invert o.c.width o.c.node ∷ []) []) (cond z (invert o.c.width o.c.node ∷ []) [])))
          ≡ cond x 1 0 + cond y 1 0 + cond z 1 0
      by true true true = refl
      by true true false = refl
      by true false true = refl
      by true false false = refl
      by false true true = refl
      by false true false = refl
      by false false true = refl
      by false false false = refl

  pub nots_first : (j : ℕ) → j < one_if o.a.negative → invert o.a.width o.a.node ≡ get_or (nots (three_of o)) j (invert 0 0)
  unfolding nots one_if
  nots_first j h = by o.a.negative refl
    where
      by : (x : Bool) → o.a.negative ≡ x → invert o.a.width o.a.node ≡ get_or (nots (three_of o)) j (invert 0 0)
      by true e = let z : j ≡ 0 = omega (arith, rw e at h) in rw (z, e)
      by false e = absurd (omega (arith, rw e at h))

  pub nots_second : (j : ℕ) → one_if o.a.negative ≤ j → j < one_if o.a.negative + one_if o.b.negative
      → invert o.b.width o.b.node ≡ get_or (nots (three_of o)) j (invert 0 0)
  unfolding nots one_if
  nots_second j g h = by o.a.negative o.b.negative refl refl
    where
      by : (x y : Bool) → o.a.negative ≡ x → o.b.negative ≡ y → invert o.b.width o.b.node ≡ get_or (nots (three_of o)) j (invert 0 0)
      by true true e f = let z : j ≡ 1 = omega (arith, rw (e, f) at h, rw e at g) in rw (z, e, f)
      by false true e f = let z : j ≡ 0 = omega (arith, rw (e, f) at h) in rw (z, e, f)
      by true false e f = absurd (omega (arith, rw (e, f) at h, rw e at g))
      by false false e f = absurd (omega (arith, rw (e, f) at h))

  pub nots_third : (j : ℕ) → one_if o.a.negative + one_if o.b.negative ≤ j → j < nots_of o
      → invert o.c.width o.c.node ≡ get_or (nots (three_of o)) j (invert 0 0)
  unfolding nots one_if nots_of
  nots_third j g h = by o.a.negative o.b.negative o.c.negative refl refl refl
    where
      by : (x y z : Bool) → o.a.negative ≡ x → o.b.negative ≡ y → o.c.negative ≡ z
          → invert o.c.width o.c.node ≡ get_or (nots (three_of o)) j (invert 0 0)
      by true true true e f k = let z : j ≡ 2 = omega (arith, rw (e, f, k) at h, rw (e, f) at g) in rw (z, e, f, k)
      by true false true e f k = let z : j ≡ 1 = omega (arith, rw (e, f, k) at h, rw (e, f) at g) in rw (z, e, f, k)
      by false true true e f k = let z : j ≡ 1 = omega (arith, rw (e, f, k) at h, rw (e, f) at g) in rw (z, e, f, k)
      by false false true e f k = let z : j ≡ 0 = omega (arith, rw (e, f, k) at h, rw (e, f) at g) in rw (z, e, f, k)
      by true true false e f k = absurd (omega (arith, rw (e, f, k) at h, rw (e, f) at g))
      by true false false e f k = absurd (omega (arith, rw (e, f, k) at h, rw (e, f) at g))
      by false true false e f k = absurd (omega (arith, rw (e, f, k) at h, rw (e, f) at g))
      by false false false e f k = absurd (omega (arith, rw (e, f, k) at h, rw (e, f) at g))

-- ---- node j of a form

pub form_one : (f : Form) (w n a b c p q v j : ℕ) (ns : List Node) (m : Node) → spelled_by f w n a b c p q v ≡ ns → own_count f p ≡ 1
    → j < own_count f p → m ≡ get_or ns 0 (invert 0 0) → m ≡ get_or (spelled_by f w n a b c p q v) j (invert 0 0)
form_one f w n a b c p q v j ns m e k h q' = let z : j ≡ 0 = omega arith in rw (e, z) q'

pub or_three : (j w n a b : ℕ) → (j ≡ 0 → ⊥) → (j ≡ 1 → ⊥) → (j ≡ 2 → ⊥) → j < 4 → invert w (n + 2) ≡ get_or (or_nodes w n a b) j (invert 0 0)
unfolding or_nodes
or_three j w n a b x y z h = let e : j ≡ 3 = omega arith in rw e

pub sub_two : (j w n a b : ℕ) → (j ≡ 0 → ⊥) → (j ≡ 1 → ⊥) → j < 3 → invert w (n + 1) ≡ get_or (sub_nodes w n a b) j (invert 0 0)
unfolding sub_nodes
sub_two j w n a b x y h = let e : j ≡ 2 = omega arith in rw e

pub neq_one : (j w n a b : ℕ) → (j ≡ 0 → ⊥) → j < 2 → invert w n ≡ get_or (neq_nodes w n a b) j (invert 0 0)
unfolding neq_nodes
neq_one j w n a b x h = let e : j ≡ 1 = omega arith in rw e

pub uext_one : (j w n a p : ℕ) → (j ≡ 0 → ⊥) → j < 2 → operator 12 w n a 0 ≡ get_or (uext_nodes w n a p) j (invert 0 0)
unfolding uext_nodes
uext_one j w n a p x h = let e : j ≡ 1 = omega arith in rw e

-- uext and sext, where they make nodes
some_by : (t : Bool) (j n : ℕ) → j < cond t 0 n → t ≡ false
some_by true j n h = absurd (omega arith)
some_by false j n h = refl

pub uext_some : (w n a b c p q v j : ℕ) (m : Node) → j < own_count form.Uext p → (j < 2 → m ≡ get_or (uext_nodes w n a p) j (invert 0 0))
    → m ≡ get_or (spelled_by form.Uext w n a b c p q v) j (invert 0 0)
unfolding spelled_by own_count
uext_some w n a b c p q v j m h f =
    let e : eqb p 0 ≡ false = some_by (eqb p 0) j 2 h in
    let l : j < 2 = rw e at h in
    rw e (f l)

pub sext_some : (w n a b c p q v j : ℕ) → j < own_count form.Sext p
    → operator 16 w a 0 0 ≡ get_or (spelled_by form.Sext w n a b c p q v) j (invert 0 0)
unfolding spelled_by own_count
sext_some w n a b c p q v j h =
    let e : eqb p 0 ≡ false = some_by (eqb p 0) j 1 h in
    let l : j < 1 = rw e at h in
    let z : j ≡ 0 = omega arith in
    rw (e, z)

-- ---- node j of a line

module _ (x : Line) (n j : ℕ) where
  pub new_not : (m : Node) → j < nots_of x.ops → m ≡ get_or (nots (three_of x.ops)) j (invert 0 0) → m ≡ get_or (new_read x n) j (invert 0 0)
  unfolding new_read
  new_not m h e =
      let l : j < length (nots (three_of x.ops)) = omega (arith, nots_length x.ops) in
      e ∙ sym (get_or-append (nots (three_of x.ops)) _ (invert 0 0) j l)

  pub new_own : (m : Node) (s t a b c : ℕ) (f : Form)
      → nots_of x.ops ≤ j
      → s ≡ n + one_if x.ops.a.negative
      → t ≡ s + one_if x.ops.b.negative
      → a ≡ placed_at x.ops.a n
      → b ≡ placed_at x.ops.b s
      → c ≡ placed_at x.ops.c t
      → f ≡ form_of (word_of x.word)
      → m ≡ get_or (spelled_by f x.width (n + nots_of x.ops) a b c x.first x.second x.literal.value) (j - nots_of x.ops) (invert 0 0)
      → m ≡ get_or (new_read x n) j (invert 0 0)
  unfolding new_read
  new_own m s t a b c f h es et ea eb ec ef e =
      let z : j ≡ length (nots (three_of x.ops)) + (j - nots_of x.ops) = omega (arith, nots_length x.ops) in
      e ∙ rw (ea, eb, ec, et, es, ef) (sym (ap (λ (i : ℕ). get_or (new_read x n) i (invert 0 0)) z ∙ get_or-append-add (nots (three_of x.ops)) _ (j - nots_of x.ops) (invert 0 0)))

-- a node past the nots is one of the line's own
pub own_below : (x : Line) (j before : ℕ) (f : Form) → before ≡ nots_of x.ops → f ≡ form_of (word_of x.word) → before ≤ j → j < count_read x
    → j - before < own_count f x.first
unfolding count_read
own_below x j before f e q h l = rw q (let g : j < nots_of x.ops + own_count (form_of (word_of x.word)) x.first = l in omega arith)

pub new_length : (x : Line) (n : ℕ) → length (new_read x n) ≡ count_read x
unfolding new_read count_read
new_length x n =
    length-append (nots (three_of x.ops)) _ ∙ rw (nots_length x.ops, own_length (form_of (word_of x.word)))

-- ---- slices

pub slice_below : (w wa p q : ℕ) → p < q → false ≡ rule_fits Slice w wa 0 0 p q true
unfolding rule_fits
slice_below w wa p q h = rw (lt-leb q p h)

pub slice_from : (w wa p q : ℕ) → q ≤ p → (ltb p wa && eqb (p - q + 1) w) ≡ rule_fits Slice w wa 0 0 p q true
unfolding rule_fits
slice_from w wa p q h = rw (le-leb q p h)
