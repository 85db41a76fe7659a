-- Which refusals come after the order is found: 22; then 10 to 12, 13 and 16 of the mended file, and 25. 7, 8 and 20 were tried before,
-- and 9 is never given.
use Rattle.std.specs.Prelude.{Err as Refused, Ok, ◌≡◌, Bool, true, false, cond, ◌&&◌, ◌||◌, List, ◌∷◌, ℕ, ◌<◌, leb, ltb, eqb, get_or}
use Rattle.std.proofs.Math.Path.{refl}
use Rattle.std.proofs.Common.{◌∙◌}
use Rattle.operators.specs.Table.{kind_count}
use Rattle.problem.specs.declared.Refusal.{Refusal}
use Rattle.problem.specs.declared.layout.Node.{Node}
use Rattle.problem.specs.Layout.{node_count, root_count, node_at}
use Rattle.problem.specs.Refusals.{Checked, Accepted, Line, refusal, first_of, ◌then◌, first_below, division_wide, operand_above, header_fault, node_lines, fault_of, node_fault, root_lines, root_fault, repeat_lines, repeat_fault, checked}
use Rattle.problem.specs.laws.Facts.{header_right, operands_right}
use Rattle.problem.specs.laws.First.{refused_not, then_each, then_left, then_right, first_of_each, first_each, first_below_each}
use Rattle.mending.specs.Order.{operands_of, never_placed, old}
use Rattle.mending.specs.Mended.{renumbered, mended, old_ids}
use Rattle.mending.specs.Refusals.{early, early_fault, circle_fault, at_old, mended_fault, room_fault, fault_before, fault_after}
use Rattle.mending.specs.inner.Order.{AllPlaced, Inside}
use Rattle.mending.specs.laws.Order.{old_lt, operand_before}
use Rattle.mending.specs.laws.Mended.{moved_node, mended_nodes, mended_header, mended_node}
use Rattle.mending.specs.laws.Solutions.{renumbered_operand}
use Rattle.mending.specs.laws.Accepted.{Placeable, placeable, no_circle}

-- the numbers that are told once the order is found
abbrev pub is_late : ℕ → Bool
is_late n = leb 10 n && leb n 13 || eqb n 16 || eqb n 22 || eqb n 25

-- an answer that accepts, or refuses by one of them
abbrev Late : Checked → Type 0
Late (Ok tt) = Unit {0}
Late (Refused r) = is_late r.number ≡ true

-- ---- answers one after the other

then_later : (x y : Checked) → Late x → (x ≡ Accepted → Late y) → Late (x then y)
then_later (Ok tt) y p q = q refl
then_later (Refused r) y p q = p

late_same : (x y : Checked) → x ≡ Accepted → Late y → Late (x then y)
late_same x y e q = then_later x y (rw e tt) (λ z. q)

late_at : (ids : List ℕ) (x : Checked) → Late x → Late (at_old ids x)
late_at ids (Ok tt) h = tt
late_at ids (Refused r) h = either (leb r.number 12)
  where
    either : (t : Bool) → Late (cond t (refusal r.number (get_or ids r.place 0)) (Refused r))
    either true = h
    either false = h

skip : (p n : ℕ) (t : Bool) (ls : List Line) → t ≡ false → Late (first_of p ls) → Late (first_of p ((n, t) ∷ ls))
unfolding first_of
skip p n t ls e h = rw e h

-- ---- 7, 8 and 20 are not given of a node

early_lines :
    (i : ℕ) (a b c : Bool) (ls : List Line)
    → early (first_of i ((7, a) ∷ (8, b) ∷ (20, c) ∷ ls)) ≡ Accepted
    → (a ≡ false) × (b ≡ false) × (c ≡ false)
unfolding first_of
early_lines i true b c ls h = absurd (refused_not h)
early_lines i false true c ls h = absurd (refused_not h)
early_lines i false false true ls h = absurd (refused_not h)
early_lines i false false false ls h = (refl, refl, refl)

module _ (s : List ℕ) (ok : fault_before s ≡ Accepted) (all : AllPlaced s) where
  P : Placeable s
  P = placeable s ok

  early_right : (i : ℕ) → i < node_count s → early_fault s i ≡ Accepted
  unfolding fault_before
  early_right i h =
      first_each (early_fault s) (node_count s)
      (then_left (first_below (early_fault s) (node_count s)) _ (then_right (header_fault s) _ ok)) i h

  three_right :
      (i : ℕ)
      → i < node_count s
      → (leb kind_count (node_at s i).kind ≡ false) × ((eqb (node_at s i).width 0 || ltb 64 (node_at s i).width) ≡ false)
      × (division_wide (node_at s i) ≡ false)
  unfolding early_fault node_fault fault_of node_lines
  three_right i h = early_lines i _ _ _ _ (early_right i h)

  operand_first : (k : ℕ) → k < node_count s → (p : ℕ) → p < operands_of (node_at s (old s k)) → renumbered s (node_at s (old s k)) p < k
  unfolding Inside
  operand_first k h p l =
      let few = P.header.nodes in
      rw (renumbered_operand s (node_at s (old s k)) p l)
      (operand_before s few all k p h l (P.inside (old s k) (old_lt s few all k h) p l))

  below : (k : ℕ) → k < node_count s → operand_above (moved_node s (node_at s (old s k))) (operands_of (node_at s (old s k))) k ≡ false
  below k h =
      (operands_right (moved_node s (node_at s (old s k))) (operands_of (node_at s (old s k))) k).1
      ((operand_first k h 0, operand_first k h 1), operand_first k h 2)

  wide_same : (n : Node) → division_wide (moved_node s n) ≡ division_wide n
  unfolding division_wide
  wide_same n = refl

  -- the lines of a moved node
  late_lines : (k wa wb wc : ℕ) → k < node_count s → Late (fault_of (moved_node s (node_at s (old s k))) k wa wb wc)
  unfolding fault_of node_lines
  late_lines k wa wb wc h =
      let r = three_right (old s k) (old_lt s P.header.nodes all k h) in
      skip k 7 _ _ r.0
      (skip k 8 _ _ r.1
      (skip k 20 _ _ (wide_same (node_at s (old s k)) ∙ r.2)
      (skip k 9 _ _ (below k h) (first_of_each Late k is_late _ refl (λ n e. e) tt))))

  late_node : (k : ℕ) → k < node_count s → Late (node_fault (mended s) k)
  unfolding node_fault
  late_node k h = rw (mended_node s P.header P.header.nodes all k h) (late_lines k _ _ _ h)

  late_root : (j : ℕ) → Late (root_fault (mended s) j)
  unfolding root_fault root_lines
  late_root j = first_of_each Late j is_late _ refl (λ n e. e) tt

  late_repeat : (j : ℕ) → Late (repeat_fault (mended s) j)
  unfolding repeat_fault repeat_lines
  late_repeat j = first_of_each Late j is_late _ refl (λ n e. e) tt

  late_checked : Late (checked (mended s))
  unfolding checked
  late_checked =
      let few = P.header.nodes in
      late_same _ _ (header_right (mended s) (mended_header s P.header few all))
      (then_each Late _ _
      (first_below_each (node_fault (mended s)) Late tt (node_count (mended s)) (λ k h. late_node k (rw (mended_nodes s P.header few all) at h)))
      (then_each Late (first_below (root_fault (mended s)) (root_count (mended s))) (first_below (repeat_fault (mended s)) (root_count (mended s)))
      (first_below_each (root_fault (mended s)) Late tt (root_count (mended s)) (λ j h. late_root j))
      (first_below_each (repeat_fault (mended s)) Late tt (root_count (mended s)) (λ j h. late_repeat j))))

late_circle : (s : List ℕ) → Late (circle_fault s)
unfolding circle_fault
late_circle s = first_of_each Late (never_placed s) is_late _ refl (λ n e. e) tt

late_room : (s : List ℕ) (room rows : ℕ) → Late (room_fault s room rows)
unfolding room_fault
late_room s room rows = first_of_each Late 0 is_late _ refl (λ n e. e) tt

late_after : (s : List ℕ) (room rows : ℕ) → fault_before s ≡ Accepted → Late (fault_after s room rows)
unfolding fault_after mended_fault
late_after s room rows ok =
    then_later (circle_fault s) (mended_fault s then room_fault s room rows) (late_circle s)
    (λ e. then_each Late (mended_fault s) (room_fault s room rows) (late_at (old_ids s) (checked (mended s)) (late_checked s ok (no_circle s e))) (late_room s room rows))

pub late_numbers :
    (s : List ℕ) (room rows : ℕ) (r : Refusal)
    → fault_before s ≡ Accepted
    → fault_after s room rows ≡ Refused r
    → is_late r.number ≡ true
late_numbers s room rows r ok e = rw e at (late_after s room rows ok)
