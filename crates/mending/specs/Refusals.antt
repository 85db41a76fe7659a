-- Request R-12, "Refusals, in order": the problem's own tests, tried again on the file and on the mended file, and 21, 22, 25.
use Rattle.std.specs.Prelude.{Err as Refused, Ok, ◌≡◌, cond, ◌||◌, List, [], ◌∷◌, ◌++◌, ℕ, ltb, leb, eqb, length, get_or, drop}
use Rattle.problem.specs.declared.Refusal.{Refusal}
use Rattle.problem.specs.Layout.{node_count, node_at}
use Rattle.problem.specs.Refusals.{Checked, Accepted, refusal, first_of, ◌then◌, first_below, operand_above, header_fault, node_fault, checked}
use Rattle.mending.specs.Order.{operands_of, never_placed}
use Rattle.mending.specs.Mended.{mended, old_ids}

-- 7, 8 and 20 alone, of what the problem's test says of a node: they are tried before 9 to 12 on the same node
abbrev pub early : Checked → Checked
early (Ok tt) = Accepted
early (Refused r) = cond (leb r.number 8 || eqb r.number 20) (Refused r) Accepted

-- "7, 8 and 20 node by node", of node i
unfoldable pub early_fault : List ℕ → ℕ → Checked
early_fault s i = early (node_fault s i)

-- "21 for an operand id of N or more", of node i: the test of line 9 with N in place of the node's own id
unfoldable pub operand_fault : List ℕ → ℕ → Checked
operand_fault s i = first_of i ((21, operand_above (node_at s i) (operands_of (node_at s i)) (node_count s)) ∷ [])

-- "22 if operands form a circle (lowest id that can never be placed)"
unfoldable pub circle_fault : List ℕ → Checked
circle_fault s = first_of (never_placed s) ((22, ltb (never_placed s) (node_count s)) ∷ [])

-- the place of 10 to 12, a node, becomes its old id, by the map; that of 13 and 16, a root's position, stays. (1 to 9 and 20 are not given here:
-- promises/Late.)
abbrev pub at_old : List ℕ → Checked → Checked
at_old ids (Ok tt) = Accepted
at_old ids (Refused r) = cond (leb r.number 12) (refusal r.number (get_or ids r.place 0)) (Refused r)

-- "10 to 12 on the mended file, node by node in the new order with the old id as place, 13 and 16": the problem check of it
unfoldable pub mended_fault : List ℕ → Checked
mended_fault s = at_old (old_ids s) (checked (mended s))

-- "then 25 if a lent output is too short": room places for the file, rows for the map
unfoldable pub room_fault : List ℕ → ℕ → ℕ → Checked
room_fault s room rows = first_of 0 ((25, ltb room (length s) || ltb rows (node_count s)) ∷ [])

-- what is tried before nodes are placed, and what after
unfoldable pub fault_before : List ℕ → Checked
fault_before s = header_fault s then first_below (early_fault s) (node_count s) then first_below (operand_fault s) (node_count s)

unfoldable pub fault_after : List ℕ → ℕ → ℕ → Checked
fault_after s room rows = circle_fault s then mended_fault s then room_fault s room rows

unfoldable pub mend_fault : List ℕ → ℕ → ℕ → Checked
mend_fault s room rows = fault_before s then fault_after s room rows

-- a call with the bytes s and the lent places out and map: what they hold afterwards, and the answer.
-- "Nothing is written on refusal"; what lies beyond the file and the map stays untouched.
pub data Mends (s out map : List ℕ) : List ℕ → List ℕ → Checked → Type 0 where
  refuses : (r : Refusal) → mend_fault s (length out) (length map) ≡ Refused r → Mends s out map out map (Refused r)
  mends :
      mend_fault s (length out) (length map) ≡ Accepted
      → Mends s out map (mended s ++ drop (length s) out) (old_ids s ++ drop (node_count s) map) Accepted
