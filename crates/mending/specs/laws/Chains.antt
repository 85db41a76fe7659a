-- Laws of the chains of readers: one slot more, and that every reader of a node stands in its chain.
use Rattle.std.specs.Prelude.{◌≡◌, refl, Bool, true, false, ◌⊎◌, List, ℕ, zero, suc, ◌+◌, ◌-◌, ◌*◌, ◌/◌, ◌%◌, ◌≤◌, ◌<◌, ltb, length, get_or, set}
use Rattle.std.proofs.Common.{sym, ap, ◌∙◌, subst, inl, inr, not-suc-le-zero, add-one, arith, length-set, get_or-set_same, get_or-set_other, ltb-true, ltb-false}
use Rattle.std.proofs.Math.Decide.{ℕ_discrete, dec_lt}
use Rattle.problem.specs.declared.layout.Node.{Node}
use Rattle.problem.specs.Layout.{node_count, node_at}
use Rattle.picking.specs.laws.Positions.{few_positions}
use Rattle.mending.specs.Order.{operands_of, field}
use Rattle.mending.specs.inner.Order.{Inside, Reads}
use Rattle.mending.specs.inner.Chains.{Slot, On, Chained, Linkable, Linked, Linking, Pending}

-- a link that stands at or above the chain's beginning is none of it
on_kept :
    (nexts : List ℕ) (c v t : ℕ) {at : ℕ}
    → ((j : ℕ) → get_or nexts j 0 ≤ j)
    → at ≤ c
    → On nexts t at
    → On (set nexts c v) t at
on_kept nexts c v t falls h (On.here e) = On.here e
on_kept nexts c v t falls h (On.there a e o) =
    On.there a e
    (subst (On (set nexts c v) t) (sym (get_or-set_other nexts c a v 0 (λ q. absurd (omega arith))))
    (on_kept nexts c v t falls (omega (arith, falls a)) o))

-- ---- one slot more

module _ (s heads nexts : List ℕ) (t x : ℕ) (C : Chained s t heads nexts) where
  abbrev at : ℕ → ℕ
  at k = field (node_at s (k / 3)) (k % 3)

  -- an operand, in front of the chain of x
  module _ (room : t < length nexts) (named : x < length heads) (is : x ≡ field (node_at s (t / 3)) (t % 3)) where
    abbrev heads' : List ℕ
    heads' = set heads x (t + 1)

    abbrev nexts' : List ℕ
    nexts' = set nexts t (get_or heads x 0)

    head_own : get_or heads' x 0 ≡ t + 1
    head_own = get_or-set_same heads x (t + 1) 0 named

    next_own : get_or nexts' t 0 ≡ get_or heads x 0
    next_own = get_or-set_same nexts t (get_or heads x 0) 0 room

    falls : (j : ℕ) → get_or nexts' j 0 ≤ j
    falls j =
        elim (ℕ_discrete j t) [
          | yes e ↦ rw e (rw next_own (C.below x))
          | no n ↦ rw (get_or-set_other nexts t j (get_or heads x 0) 0 n) (C.falls j)
        ]

    below : (y : ℕ) → get_or heads' y 0 ≤ t + 1
    below y =
        elim (ℕ_discrete y x) [
          | yes e ↦ rw e (omega (arith, head_own))
          | no n ↦ omega (arith, get_or-set_other heads x y (t + 1) 0 n, C.below y)
        ]

    older : (j y : ℕ) → On nexts j (get_or heads y 0) → On nexts' j (get_or heads' y 0)
    older j y o =
        let k : On nexts' j (get_or heads y 0) = on_kept nexts t (get_or heads x 0) j C.falls (C.below y) o in
        elim (ℕ_discrete y x) [
          | yes q ↦
              On.there t (ap (λ (z : ℕ). get_or heads' z 0) q ∙ head_own ∙ add-one t)
              (subst (On nexts' j) (ap (λ (z : ℕ). get_or heads z 0) q ∙ sym next_own) k)
          | no z ↦ subst (On nexts' j) (sym (get_or-set_other heads x y (t + 1) 0 z)) k
        ]

    covers : (j y : ℕ) → j < t + 1 → Slot s j y → On nexts' j (get_or heads' y 0)
    covers j y h S =
        elim (ℕ_discrete j t) [
          | yes e ↦
              let q : y ≡ x = sym S.names ∙ ap at e ∙ sym is in
              On.here (ap (λ (z : ℕ). get_or heads' z 0) q ∙ head_own ∙ add-one t ∙ ap suc (sym e))
          | no n ↦ older j y (C.covers j y (omega arith) S)
        ]

    chained_front : Chained s (t + 1) heads' nexts'
    chained_front =
        record {
          heads_long = length-set heads x (t + 1) ∙ C.heads_long;
          nexts_long = length-set nexts t (get_or heads x 0) ∙ C.nexts_long;
          falls = falls;
          below = below;
          covers = covers;
        }

  -- no operand
  chained_skip : operands_of (node_at s (t / 3)) ≤ t % 3 → Chained s (t + 1) heads nexts
  chained_skip none =
      record {
        heads_long = C.heads_long;
        nexts_long = C.nexts_long;
        falls = C.falls;
        below = λ y. omega (arith, C.below y);
        covers =
            λ j y h S.
            elim (ℕ_discrete j t) [
              | yes e ↦ absurd (passed (rw e at S.operand))
              | no n ↦ C.covers j y (omega arith) S
            ];
      }
    where
      passed : t % 3 < operands_of (node_at s (t / 3)) → ⊥
      passed l = omega arith

  chained_either :
      (o : Bool) (h n : List ℕ)
      → ltb (t % 3) (operands_of (node_at s (t / 3))) ≡ o
      → x ≡ field (node_at s (t / 3)) (t % 3)
      → Linkable o t x
      → Linked o t x heads nexts h n
      → Chained s (t + 1) h n
  chained_either true h n e is A L = rw (L.heads_are, L.nexts_are) (chained_front (rw C.nexts_long A.room) (rw C.heads_long (A.named refl)) is)
  chained_either false h n e is A L = rw (L.heads_are, L.nexts_are) (chained_skip (ltb-false _ _ e))

-- ---- the three slots of node i, as the code finds them

module _ {s heads nexts : List ℕ} {i count : ℕ} {n : Node} (L : Linking s i heads nexts) (e : n ≡ node_at s i) (f : count ≡ operands_of n) where
  slot_linkable : (t p : ℕ) → t ≡ 3 * i + p → p < 3 → Linkable (ltb p count) t (field n p)
  unfolding Inside
  slot_linkable t p is few =
      record {
        named =
            λ o.
            let l : p < operands_of (node_at s i) = rw e at (rw f at (ltb-true p count o)) in
            let b : field n p < node_count s = rw e (L.inside i L.node p l) in
            omega (arith, L.header.nodes);
        room = omega (arith, L.node, L.header.nodes);
      }

  slot_linked :
      (t t' p : ℕ) {h m h' m' : List ℕ}
      → t ≡ 3 * i + p
      → p < 3
      → t' ≡ t + 1
      → Chained s t h m
      → Linked (ltb p count) t (field n p) h m h' m'
      → Chained s t' h' m'
  slot_linked t t' p {h} {m} {h'} {m'} is few q C A =
      let node_of : t / 3 ≡ i = omega arith in
      let place_of : t % 3 ≡ p = omega arith in
      let count_is : operands_of (node_at s (t / 3)) ≡ count =
      ap (λ (k : ℕ). operands_of (node_at s k)) node_of ∙ sym (f ∙ ap (λ (m : Node). operands_of m) e) in
      subst (λ (k : ℕ). Chained s k h' m') (sym q)
      (chained_either s h m t (field n p) C (ltb p count) h' m' (rw (place_of, count_is)) (rw (node_of, place_of, e))
      (slot_linkable t p is few) A)

  pub link_first : Linkable (ltb 0 count) (3 * i) n.a
  link_first = slot_linkable (3 * i) 0 (omega arith) (omega arith)

  pub link_second : Linkable (ltb 1 count) (3 * i + 1) n.b
  link_second = slot_linkable (3 * i + 1) 1 (omega arith) (omega arith)

  pub link_third : Linkable (ltb 2 count) (3 * i + 2) n.c
  link_third = slot_linkable (3 * i + 2) 2 (omega arith) (omega arith)

  pub linked_node :
      {h₁ m₁ h₂ m₂ h₃ m₃ : List ℕ}
      → Linked (ltb 0 count) (3 * i) n.a heads nexts h₁ m₁
      → Linked (ltb 1 count) (3 * i + 1) n.b h₁ m₁ h₂ m₂
      → Linked (ltb 2 count) (3 * i + 2) n.c h₂ m₂ h₃ m₃
      → Chained s (3 * i + 3) h₃ m₃
  linked_node A B C =
      let one = slot_linked (3 * i) (3 * i + 1) 0 (omega arith) (omega arith) (omega arith) L.chained A in
      let two = slot_linked (3 * i + 1) (3 * i + 2) 1 (omega arith) (omega arith) (omega arith) one B in
      slot_linked (3 * i + 2) (3 * i + 3) 2 (omega arith) (omega arith) (omega arith) two C

-- ---- node by node

pub chained_none :
    (s heads nexts : List ℕ)
    → length heads ≡ 1024
    → length nexts ≡ 3072
    → ((j : ℕ) → get_or heads j 0 ≡ 0)
    → ((j : ℕ) → get_or nexts j 0 ≡ 0)
    → Chained s 0 heads nexts
chained_none s heads nexts a b x y =
    record {
      heads_long = a;
      nexts_long = b;
      falls = λ j. omega (arith, y j);
      below = λ z. omega (arith, x z);
      covers = λ j z h S. absurd (not-suc-le-zero h);
    }

-- ---- the readers of a node stand in its chain

pub pending_reader :
    (s heads nexts : List ℕ) (j x : ℕ)
    → Chained s (3 * node_count s) heads nexts
    → j < node_count s
    → Reads s j x
    → Pending nexts (get_or heads x 0) j
pending_reader s heads nexts j x C l r =
    let p = r.position in
    let b : p < 3 = omega (arith, r.below, few_positions (node_at s j).kind) in
    let d : (3 * j + p) / 3 ≡ j = omega arith in
    let m : (3 * j + p) % 3 ≡ p = omega arith in
    record {
      slot = 3 * j + p;
      of = d;
      on = C.covers (3 * j + p) x (omega arith) (record { operand = rw (d, m) r.below; names = rw (d, m) r.is });
    }

-- a chain taken apart: its first slot, or the rest
pub pending_step :
    (nexts : List ℕ) (at j : ℕ) → 0 < at → Pending nexts at j → Pending nexts (get_or nexts (at - 1) 0) j ⊎ (j ≡ (at - 1) / 3)
pending_step nexts at j h p = by p.on
  where
    by : On nexts p.slot at → Pending nexts (get_or nexts (at - 1) 0) j ⊎ (j ≡ (at - 1) / 3)
    by (On.here e) = let q : p.slot ≡ at - 1 = omega arith in inr (sym p.of ∙ ap (λ (k : ℕ). k / 3) q)
    by (On.there a e o) =
        let q : a ≡ at - 1 = omega arith in
        inl (record { slot = p.slot; of = p.of; on = subst (λ (k : ℕ). On nexts p.slot (get_or nexts k 0)) q o })

-- ---- whether node j reads node x

reads_at : (s : List ℕ) (j x p : ℕ) → Reads s j x ⊎ (p < operands_of (node_at s j) → field (node_at s j) p ≡ x → ⊥)
reads_at s j x p =
    elim (dec_lt p (operands_of (node_at s j))) [
      | yes l ↦
          elim (ℕ_discrete (field (node_at s j) p) x) [
            | yes e ↦ inl (record { position = p; below = l; is = e })
            | no n ↦ inr (λ b q. n q)
          ]
      | no m ↦ inr (λ b q. m b)
    ]

none_reads :
    (s : List ℕ) (j x : ℕ)
    → (0 < operands_of (node_at s j) → field (node_at s j) 0 ≡ x → ⊥)
    → (1 < operands_of (node_at s j) → field (node_at s j) 1 ≡ x → ⊥)
    → (2 < operands_of (node_at s j) → field (node_at s j) 2 ≡ x → ⊥)
    → (p : ℕ)
    → p < operands_of (node_at s j)
    → field (node_at s j) p ≡ x
    → ⊥
none_reads s j x a b c zero l = a l
none_reads s j x a b c (suc zero) l = b l
none_reads s j x a b c (suc (suc zero)) l = c l
none_reads s j x a b c (suc (suc (suc p))) l = absurd (omega (arith, few_positions (node_at s j).kind))

pub reads_or_not : (s : List ℕ) (j x : ℕ) → Reads s j x ⊎ (Reads s j x → ⊥)
reads_or_not s j x =
    elim (reads_at s j x 0) [
      | inl r ↦ inl r
      | inr a ↦
          elim (reads_at s j x 1) [
            | inl r ↦ inl r
            | inr b ↦
                elim (reads_at s j x 2) [
                  | inl r ↦ inl r
                  | inr c ↦ inr (λ r. none_reads s j x a b c r.position r.below r.is)
                ]
          ]
    ]

-- ---- the same at a next node, at all nodes, and of a chain that has ended
pub chained_next : {s heads nexts : List ℕ} (i : ℕ) → Chained s (3 * i + 3) heads nexts → Chained s (3 * (i + 1)) heads nexts
chained_next {s} {heads} {nexts} i C =
    let e : 3 * i + 3 ≡ 3 * (i + 1) = omega arith in subst (λ (k : ℕ). Chained s k heads nexts) e C

pub chained_all :
    {s heads nexts : List ℕ} (i n : ℕ)
    → Chained s (3 * i) heads nexts
    → i ≤ n
    → n ≤ i
    → n ≡ node_count s
    → Chained s (3 * node_count s) heads nexts
chained_all {s} {heads} {nexts} i n C a b q =
    let e : 3 * i ≡ 3 * node_count s = omega arith in subst (λ (k : ℕ). Chained s k heads nexts) e C

pub pending_none : (nexts : List ℕ) (j : ℕ) → Pending nexts 0 j → ⊥
pending_none nexts j p = by p.on refl
  where
    by : {at : ℕ} → On nexts p.slot at → at ≡ 0 → ⊥
    by (On.here e) z = omega arith
    by (On.there a e o) z = omega arith
