-- What `taken_at` takes from the definitions: whether a node is to be evaluated, and what each arm of its match knows.
use Rattle.std.specs.Prelude.{◌≡◌, refl, Bool, true, false, ◌⊎◌, List, ℕ, zero, suc, ◌≤◌, ◌<◌, ltb, length, get_or, Option, Some, None}
use Rattle.std.proofs.Common.{sym, ◌∙◌, true≢false, inl, inr, arith, le_refl, lt-ltb, ltb-true, ltb-false}
use Rattle.std.specs.Int.Bits.{bit_or, or_add_and, or_zero_l}
use Rattle.std.proofs.lemmas.Nat.{and_le_l, and_le_r}
use mir.Val.{bool_byte}
use Rattle.problem.specs.declared.layout.Node.{Node}
use Rattle.problem.specs.Layout.{node_at, width_at}
use Rattle.operators.specs.Table.{kind_of, shape_of}
use Rattle.operators.specs.Meaning.{meaning, Fit}
use Rattle.picking.specs.declared.spot.Three.{Three}
use Rattle.picking.specs.laws.Positions.{few_positions}
use Rattle.problem.specs.Refusals.{Accepted, checked}
use Rattle.nodes.specs.Problem.{one_of, problem}
use Rattle.nodes.specs.inner.Nodes.{operand_count, OperandsBelow, held_in, Evaluable, operand_at, Tells, ReadsMarked, Wanted, Askable, Offered, Offered.offered, Offered.withheld, Takes, Takes.value, Takes.nothing}
use Rattle.nodes.specs.laws.Readings.{held_ready, held_value, own_value, value_of_constant, operands_below}

-- ---- whether a node is to be evaluated

or_none : (a b : ℕ) → bit_or a b ≡ 0 → (a ≡ 0) × (b ≡ 0)
or_none a b e = let s = or_add_and a b in (omega (arith, e, s, and_le_r a b), omega (arith, e, s, and_le_l a b))

or_some : (a b : ℕ) → 0 < bit_or a b → (0 < a) ⊎ (0 < b)
or_some zero b h = inr (rw (or_zero_l b) at h)
or_some (suc a) b h = inl (omega arith)

byte_some : (t : Bool) → 0 < bool_byte t → t ≡ true
byte_some true h = refl
byte_some false h = absurd (omega arith)

one_some : (t : Bool) (x : ℕ) → 0 < one_of t x 0 → (t ≡ true) × (0 < x)
one_some true x h = (refl, h)
one_some false x h = absurd (omega arith)

module _ (marks : List ℕ) (n : Node) (all : Bool) (k : ℕ) where
  abbrev mark_of : ℕ → ℕ
  mark_of i = one_of (ltb i k) (get_or marks (operand_at n i) 0) 0

  abbrev first : ℕ
  first = bit_or (bool_byte all) (mark_of 0)

  abbrev second : ℕ
  second = bit_or first (mark_of 1)

  abbrev joined : ℕ
  joined = bit_or second (mark_of 2)

  reads_at : k ≡ operand_count n → (i : ℕ) → 0 < mark_of i → ReadsMarked marks n
  reads_at q i h =
      let w = one_some (ltb i k) (get_or marks (operand_at n i) 0) h in
      record { position = i; there = rw (← q) (ltb-true i k w.0); is = w.1 }

  joined_some : k ≡ operand_count n → 0 < joined → Wanted all marks n
  joined_some q h =
      elim (or_some second (mark_of 2) h) [
        | inr c ↦ inr (reads_at q 2 c)
        | inl ab ↦
            elim (or_some first (mark_of 1) ab) [
              | inr b ↦ inr (reads_at q 1 b)
              | inl a ↦ elim (or_some (bool_byte all) (mark_of 0) a) [ inr m ↦ inr (reads_at q 0 m) | inl t ↦ inl (byte_some all t) ]
            ]
      ]

  second_none : joined ≡ 0 → second ≡ 0
  second_none e = (or_none second (mark_of 2) e).0

  first_none : joined ≡ 0 → first ≡ 0
  first_none e = (or_none first (mark_of 1) (second_none e)).0

  none_at : joined ≡ 0 → (i : ℕ) → i < 3 → mark_of i ≡ 0
  none_at e zero l = (or_none (bool_byte all) (mark_of 0) (first_none e)).1
  none_at e (suc zero) l = (or_none first (mark_of 1) (second_none e)).1
  none_at e (suc (suc zero)) l = (or_none second (mark_of 2) e).1
  none_at e (suc (suc (suc i))) l = absurd (omega arith)

  joined_none : k ≡ operand_count n → joined ≡ 0 → Wanted all marks n → ⊥
  joined_none q e (inl a) = let z = (or_none (bool_byte all) (mark_of 0) (first_none e)).0 in omega (arith, rw a at z)
  joined_none q e (inr r) =
      let few = few_positions n.kind in
      let z = none_at e r.position (omega (arith, r.there)) in
      let there : r.position < k = rw q r.there in
      omega (arith, r.is, rw (lt-ltb r.position k there) at z)

  pub due_tells : k ≡ operand_count n → Tells (ltb 0 joined) (Wanted all marks n)
  due_tells q =
      record {
        yes = λ e. joined_some q (ltb-true 0 joined e);
        no = λ e. joined_none q (let z = ltb-false 0 joined e in omega (arith, z));
      }

-- ---- one node

-- node i, which was read as m and is of kind k: the operands that the kind has, which are so many, have values and marks
pub askable :
    {s vs : List ℕ} {i k count marks : ℕ} {m : Node}
    → m ≡ node_at s i
    → checked s ≡ Accepted
    → Evaluable s vs i
    → (problem s).nodes ≤ marks
    → m.kind ≡ k
    → count ≡ (shape_of k).operands
    → Askable m count (length vs) marks
askable {s} {vs} {i} e a v room h q =
    record {
      counted = rw h q;
      valued = λ j l. omega (arith, operands_below s vs i e a v j l, v.inside, v.places);
      marked = λ j l. omega (arith, operands_below s vs i e a v j l, v.inside, room);
    }

-- the same one by one
pub operands_valued : {s vs : List ℕ} {i : ℕ} {m : Node} → m ≡ node_at s i → checked s ≡ Accepted → Evaluable s vs i → OperandsBelow m (length vs)
operands_valued e a v = (askable e a v (le_refl _) refl refl).valued

pub operands_marked :
    {s vs : List ℕ} {i : ℕ} (marks : List ℕ) {m : Node}
    → m ≡ node_at s i
    → checked s ≡ Accepted
    → Evaluable s vs i
    → (problem s).nodes ≤ length marks
    → OperandsBelow m (length marks)
operands_marked marks e a v room = (askable e a v room refl refl).marked

-- what is offered is what the operands hold, of a node that is to be evaluated
held :
    {all : Bool} {marks vs : List ℕ} {m : Node} {x : Three} {r : Option Three}
    → Offered all marks vs m r
    → r ≡ Some x
    → (x ≡ held_in vs m) × Wanted all marks m
held {all} {marks} {vs} {m} {x} o q = are (rw q at o)
  where
    are : Offered all marks vs m (Some x) → (x ≡ held_in vs m) × Wanted all marks m
    are (offered w z) = (z, w)

module _ {s vs marks : List ℕ} {i : ℕ} {all : Bool} {m : Node} (e : m ≡ node_at s i) where
  -- a variable, or a constant
  pub own_taken : m.kind ≡ 0 → all ≡ true → Takes s i all vs marks (Some (get_or vs i 0))
  own_taken k a = value (inl a) (own_value s vs i (rw e at k))

  pub constant_taken : m.kind ≡ 1 → all ≡ true → Takes s i all vs marks (Some m.lo)
  constant_taken k a = value {x = m.lo} (inl a) (rw e (value_of_constant s vs i (rw e at k)))

  pub own_kept : 0 ≡ operand_count m → all ≡ false → Takes s i all vs marks None
  own_kept q a = nothing (λ w. elim w [ inl b ↦ true≢false (sym b ∙ a) | inr r ↦ omega (arith, r.there, rw e at q) ])

  -- an operator that is not to be evaluated
  pub kept : {r : Option Three} → Offered all marks vs m r → r ≡ None → Takes s i all vs marks None
  kept o q = not_due (rw q at o)
    where
      not_due : Offered all marks vs m None → Takes s i all vs marks None
      not_due (withheld x) = nothing (λ w. x (rw e w))

  -- one that is, of kind k: its operands hold x
  module _ {k : ℕ} {x : Three} {r : Option Three} (o : Offered all marks vs m r) (q : r ≡ Some x) (h : m.kind ≡ k) (l : 2 ≤ k) where
    -- they fit the width rule of the kind
    pub fits :
        checked s ≡ Accepted
        → Evaluable s vs i
        → Fit (shape_of k).rule m.width (width_at s m.a) (width_at s m.b) m.b x.a x.b x.c
    fits a v = rw (← h, (held o q).0, e) (held_ready s vs i a v (rw e at (rw (← h) at l))).fit

    -- and what the kind means is the value
    pub taken :
        {y : ℕ}
        → y ≡ meaning (kind_of k) m.width (width_at s m.a) (width_at s m.b) m.b x.a x.b x.c
        → Takes s i all vs marks (Some y)
    taken p = value (rw e at (held o q).1) (p ∙ rw (← h, (held o q).0, e) (held_value s vs i (rw e at (rw (← h) at l))))
