-- What an accepted call has: all that the laws of the order and of the mended file ask for; and the theorems for it.
use Rattle.std.specs.Prelude.{Err as Refused, Ok, ◌≡◌, refl, Bool, true, false, cond, List, ℕ, zero, suc, ◌≤◌, ◌<◌, leb, length, get_or}
use Rattle.std.proofs.Math.Path.{ap}
use Rattle.std.proofs.Common.{◌∙◌, le_antisymm}
use native.Mathlib.Omega.{arith}
use Rattle.problem.specs.Layout.{node_count, node_at}
use Rattle.problem.specs.Refusals.{Checked, Accepted, first_below, header_fault, node_fault, checked}
use Rattle.problem.specs.inner.Facts.{HeaderFacts, Facts}
use Rattle.problem.specs.laws.Facts.{header_accepted, operands_right, accepted_facts}
use Rattle.problem.specs.laws.First.{refused_not, then_accepted, then_left, then_right, none_of, of_none, first_each, first_all}
use Rattle.problem.specs.laws.Tests.{lt_no, or_no}
use Rattle.mending.specs.Order.{operands_of, field, never_placed}
use Rattle.mending.specs.Mended.{mended, old_ids}
use Rattle.mending.specs.Refusals.{early, early_fault, operand_fault, circle_fault, at_old, mended_fault, room_fault, fault_before, fault_after, mend_fault}
use Rattle.mending.specs.inner.Order.{AllPlaced, InOrder, Inside}
use Rattle.mending.specs.laws.Order.{all_placed, never_most, never_least}
use Rattle.mending.specs.laws.InOrder.{in_order_all}
use Rattle.mending.specs.laws.Mended.{in_order_same}

-- what is so once nothing is refused before nodes are placed
pub record Placeable (s : List ℕ) : Type 0 where
  pub header : HeaderFacts s
  pub inside : Inside s

module _ (s : List ℕ) where
  -- 21 is not given: the operands' ids are nodes' ids
  operand_bounds :
      (i : ℕ)
      → operand_fault s i ≡ Accepted
      → ((0 < operands_of (node_at s i) → (node_at s i).a < node_count s) × (1 < operands_of (node_at s i) → (node_at s i).b < node_count s))
      × (2 < operands_of (node_at s i) → (node_at s i).c < node_count s)
  unfolding operand_fault
  operand_bounds i h = (operands_right (node_at s i) (operands_of (node_at s i)) (node_count s)).0 (none_of i _ h).0

  operand_inside : (i : ℕ) → operand_fault s i ≡ Accepted → (p : ℕ) → p < operands_of (node_at s i) → field (node_at s i) p < node_count s
  operand_inside i h zero l = (operand_bounds i h).0.0 l
  operand_inside i h (suc zero) l = (operand_bounds i h).0.1 l
  operand_inside i h (suc (suc p)) l = (operand_bounds i h).1 (omega arith)

  pub placeable : fault_before s ≡ Accepted → Placeable s
  unfolding fault_before Inside
  placeable h =
      let rest = then_right (header_fault s) _ h in
      record {
        header = header_accepted s (then_left (header_fault s) _ h);
        inside = λ i l. operand_inside i (first_each (operand_fault s) (node_count s) (then_right (first_below (early_fault s) (node_count s)) _ rest) i l);
      }

  -- 22 is not given: all can be placed
  pub no_circle : circle_fault s ≡ Accepted → AllPlaced s
  unfolding circle_fault
  no_circle h = all_placed s (le_antisymm (never_most s) ((lt_no (never_placed s) (node_count s)).0 (none_of (never_placed s) _ h).0))

-- 25 is not given: there is room
pub room_enough : (s : List ℕ) (room rows : ℕ) → room_fault s room rows ≡ Accepted → (length s ≤ room) × (node_count s ≤ rows)
unfolding room_fault
room_enough s room rows h = (or_no (lt_no room (length s)) (lt_no rows (node_count s))).0 (none_of 0 _ h).0

-- what nothing refused after nodes are placed gives
pub record Written (s : List ℕ) (room rows : ℕ) : Type 0 where
  pub all : AllPlaced s
  pub enough : length s ≤ room
  pub lines : node_count s ≤ rows

pub written : (s : List ℕ) (room rows : ℕ) → fault_after s room rows ≡ Accepted → Written s room rows
unfolding fault_after
written s room rows h =
    let r = room_enough s room rows (then_right (mended_fault s) _ (then_right (circle_fault s) _ h)) in
    record { all = no_circle s (then_left (circle_fault s) _ h); enough = r.0; lines = r.1 }

at_old_accepted : (ids : List ℕ) (x : Checked) → at_old ids x ≡ Accepted → x ≡ Accepted
at_old_accepted ids (Ok tt) h = refl
at_old_accepted ids (Refused r) h = absurd (either (leb r.number 12) h)
  where
    either : (t : Bool) → cond t (Refused (record { number = r.number; place = get_or ids r.place 0 })) (Refused r) ≡ Accepted → ⊥
    either true h = refused_not h
    either false h = refused_not h

-- what an accepted call has
pub record Mendable (s : List ℕ) : Type 0 where
  pub header : HeaderFacts s
  pub inside : Inside s
  pub all : AllPlaced s
  pub right : Facts (mended s)

pub mendable : (s : List ℕ) (room rows : ℕ) → mend_fault s room rows ≡ Accepted → Mendable s
unfolding mend_fault fault_after mended_fault
mendable s room rows h =
    let p = placeable s (then_left (fault_before s) _ h) in
    let rest = then_right (fault_before s) _ h in
    let more = then_right (circle_fault s) _ rest in
    record {
      header = p.header;
      inside = p.inside;
      all = no_circle s (then_left (circle_fault s) _ rest);
      right = accepted_facts (mended s) (at_old_accepted (old_ids s) (checked (mended s)) (then_left (mended_fault s) _ more));
    }

-- ---- a file that the problem check accepts

pub ordered : (s : List ℕ) → Facts s → InOrder s
unfolding InOrder
ordered s F i h zero l = (F.node i h).a_below l
ordered s F i h (suc zero) l = (F.node i h).b_below l
ordered s F i h (suc (suc p)) l = (F.node i h).c_below (omega arith)

module _ (s : List ℕ) (ok : checked s ≡ Accepted) (small : (i : ℕ) → get_or s i 0 < 256) where
  F : Facts s
  F = accepted_facts s ok

  pub same_bytes : mended s ≡ s
  same_bytes = in_order_same s F.header F.header.nodes (ordered s F) small

  header_right : header_fault s ≡ Accepted
  unfolding checked
  header_right = then_left (header_fault s) _ ok

  early_right : (i : ℕ) → i < node_count s → early_fault s i ≡ Accepted
  unfolding early_fault checked
  early_right i h =
      ap early (first_each (node_fault s) (node_count s) (then_left (first_below (node_fault s) (node_count s)) _ (then_right (header_fault s) _ ok)) i h)

  operand_right : (i : ℕ) → i < node_count s → operand_fault s i ≡ Accepted
  unfolding operand_fault
  operand_right i h =
      let n = F.node i h in
      of_none i _ (
        (operands_right (node_at s i) (operands_of (node_at s i)) (node_count s)).1
            ((λ l. let b = n.a_below l in omega arith, λ l. let b = n.b_below l in omega arith), λ l. let b = n.c_below l in omega arith),
        tt,
      )

  circle_right : circle_fault s ≡ Accepted
  unfolding circle_fault
  circle_right =
      of_none (never_placed s) _ ((lt_no (never_placed s) (node_count s)).1 (never_least s (in_order_all s F.header.nodes (ordered s F))), tt)

  mended_right : mended_fault s ≡ Accepted
  unfolding mended_fault
  mended_right = ap (at_old (old_ids s)) (ap checked same_bytes ∙ ok)

  -- "A file in order comes back byte for byte", where there is room for it
  pub in_order_accepted : (room rows : ℕ) → length s ≤ room → node_count s ≤ rows → mend_fault s room rows ≡ Accepted
  unfolding mend_fault fault_before fault_after room_fault
  in_order_accepted room rows a b =
      then_accepted _ _
      (then_accepted _ _ header_right
      ∙ then_accepted _ _ (first_all (early_fault s) _ early_right)
      ∙ first_all (operand_fault s) _ operand_right)
      ∙ then_accepted _ _ circle_right
      ∙ then_accepted _ _ mended_right
      ∙ of_none 0 _ ((or_no (lt_no room (length s)) (lt_no rows (node_count s))).1 (a, b), tt)
