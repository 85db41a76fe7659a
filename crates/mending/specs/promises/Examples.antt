-- The definitions computed on small files.
use Rattle.std.specs.Prelude.{◌≡◌, refl, List, [], ◌∷◌, ◌++◌, ℕ}
use Rattle.operators.specs.Table.{rule_holds}
use Rattle.problem.specs.Layout.{le16, le32, le64, node_of, node_at, width_at, root_at}
use Rattle.problem.specs.Refusals.{Accepted, refusal, first_of, mark_wrong, division_wide, operand_above, stray_field, bit_outside, pair_broken, header_lines, header_fault, node_lines, fault_of, node_fault, root_lines, root_fault, root_before, repeat_lines, repeat_fault, checked}
use Rattle.mending.specs.Order.{least, placed, met, ready, lowest_ready, numbers, old, new, never_placed}
use Rattle.mending.specs.Mended.{joined, with_fields, renumbered, moved_bytes, node_bytes, root_bytes, mended, old_ids}
use Rattle.mending.specs.Refusals.{early_fault, operand_fault, circle_fault, mended_fault, room_fault, fault_before, fault_after, mend_fault}

-- a file of so many nodes and roots; a node of so many bits with fields below 256 and a pair below 256
file : ℕ → ℕ → List ℕ → List ℕ
file n r rest = 84 ∷ 66 ∷ 86 ∷ 1 ∷ 0 ∷ n ∷ 0 ∷ r ∷ 0 ∷ rest

node : ℕ → ℕ → ℕ → ℕ → ℕ → ℕ → List ℕ
node k w a b lo hi = k ∷ w ∷ a ∷ 0 ∷ b ∷ 0 ∷ 0 ∷ 0 ∷ lo ∷ 0 ∷ 0 ∷ 0 ∷ 0 ∷ 0 ∷ 0 ∷ 0 ∷ hi ∷ 0 ∷ 0 ∷ 0 ∷ 0 ∷ 0 ∷ 0 ∷ 0 ∷ []

root : ℕ → List ℕ
root i = i ∷ 0 ∷ []

var4 : List ℕ
var4 = node 0 4 0 0 0 15

-- not of so many bits
not4 : ℕ → List ℕ
not4 a = node 2 4 a 0 0 0

-- an eq above both its operands: they come first, and the root follows its node
turned : List ℕ
turned = file 3 1 (node 9 1 2 1 0 0 ++ var4 ++ var4 ++ root 0)

righted : List ℕ
righted = file 3 1 (var4 ++ var4 ++ node 9 1 1 0 0 0 ++ root 2)

-- 0 and 2 become ready in turn, each before 4: not by levels, always the lowest
turns : List ℕ
turns = file 5 0 (not4 3 ++ var4 ++ not4 0 ++ not4 1 ++ var4)

-- 1 and 2 read each other; 0 is on no circle, but can never be placed
circle : List ℕ
circle = file 3 0 (not4 1 ++ not4 2 ++ not4 1)

-- operand 9 of node 0 has no node; kind 18 at node 1 is tried before that; a circle that has it is not looked for
astray : List ℕ
astray = file 2 0 (not4 9 ++ not4 1)

unknown : List ℕ
unknown = file 2 0 (not4 9 ++ node 18 4 0 0 0 0)

-- a width rule broken at old node 0, which is node 1 of the mended file
narrow : List ℕ
narrow = file 2 0 (node 2 5 1 0 0 0 ++ var4)

turned_mended : (mended turned ≡ righted) × (old_ids turned ≡ 1 ∷ 2 ∷ 0 ∷ [])
unfolding le16 le32 le64 node_of node_at root_at file node root var4 not4 turned righted turns circle astray unknown narrow least placed met ready lowest_ready numbers old new never_placed joined with_fields renumbered moved_bytes node_bytes root_bytes mended old_ids
turned_mended = (refl, refl)

turns_map : old_ids turns ≡ 1 ∷ 3 ∷ 0 ∷ 2 ∷ 4 ∷ []
unfolding le16 le32 le64 node_of node_at root_at file node root var4 not4 turned righted turns circle astray unknown narrow least placed met ready lowest_ready numbers old new never_placed joined with_fields renumbered moved_bytes node_bytes root_bytes mended old_ids
turns_map = refl

answers :
    (mend_fault turned 83 3 ≡ Accepted) × (mend_fault turned 82 3 ≡ refusal 25 0) × (mend_fault turned 83 2 ≡ refusal 25 0)
    × (mend_fault circle 0 0 ≡ refusal 22 0) × (mend_fault astray 0 0 ≡ refusal 21 0) × (mend_fault unknown 0 0 ≡ refusal 7 1)
    × (mend_fault narrow 0 0 ≡ refusal 11 0)
unfolding le16 le32 le64 node_of node_at root_at file node root var4 not4 turned righted turns circle astray unknown narrow least placed met ready lowest_ready numbers old new never_placed joined with_fields renumbered moved_bytes node_bytes root_bytes mended old_ids width_at first_of mark_wrong division_wide operand_above stray_field bit_outside pair_broken header_lines header_fault node_lines fault_of node_fault root_lines root_fault root_before repeat_lines repeat_fault checked rule_holds early_fault operand_fault circle_fault mended_fault room_fault fault_before fault_after mend_fault
answers = (refl, refl, refl, refl, refl, refl, refl)
