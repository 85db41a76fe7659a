-- Document 01, "Refusal numbers, in order of checking", 1 to 13, and of document 02 20 (R-11), among the tests of a node, and 16 (R-5), after
-- all: the lines of the table as lists, and the first that is given.
use Rattle.std.specs.Prelude.{ℕ, zero, suc, ◌^◌, List, [], ◌∷◌, Bool, Result, Ok, Err as Refused, false, cond, not, ◌&&◌, ◌||◌, length, get_or, ltb, leb, eqb}
use Rattle.std.specs.Int.Bits.{bit_and}
use Rattle.operators.specs.Table.{kind_count, shape_of, rule_holds}
use Rattle.problem.specs.declared.Refusal.{Refusal}
use Rattle.problem.specs.declared.layout.Node.{Node}
use Rattle.problem.specs.Layout.{version, node_count, root_count, node_at, width_at, root_at, total_length}

-- the answer of a test, which accepts or refuses
abbrev pub Checked : Type 0
Checked = Result Unit Refusal

abbrev pub Accepted : Checked
Accepted = Ok tt

-- the answer that refuses, with a number and a place
abbrev pub refusal : ℕ → ℕ → Checked
refusal n p = Refused (record { number = n; place = p })

-- the paper's number and place of an answer; both are 0 where the problem is accepted
abbrev pub number_of : Checked → ℕ
number_of (Ok tt) = 0
number_of (Refused r) = r.number

abbrev pub place_of : Checked → ℕ
place_of (Ok tt) = 0
place_of (Refused r) = r.place

-- a line of the table: its number, and whether it is given
abbrev pub Line : Type 0
Line = ℕ × Bool

-- the first line that is given, at a place
unfoldable pub first_of : ℕ → List Line → Checked
first_of p [] = Accepted
first_of p (l ∷ ls) = cond l.1 (refusal l.0 p) (first_of p ls)

-- the first refusal of two answers
infixr 20 ◌then◌
abbrev pub ◌then◌ : Checked → Checked → Checked
◌then◌ (Ok tt) y = y
◌then◌ (Refused r) y = Refused r

-- the first refusal of f 0, f 1, .., f (n - 1)
abbrev pub first_below : (ℕ → Checked) → ℕ → Checked
first_below f zero = Accepted
first_below f (suc n) = first_below f n then f n

-- 2 "mark is not `TBV`"
unfoldable pub mark_wrong : List ℕ → Bool
mark_wrong s = not (eqb (get_or s 0 0) 84) || not (eqb (get_or s 1 0) 66) || not (eqb (get_or s 2 0) 86)

-- 20 "kind 17 with a width over 16" (02, R-11)
unfoldable pub division_wide : Node → Bool
division_wide n = eqb n.kind 17 && ltb 16 n.width

-- 9 "an operand's id is not below the node's own", of a node with so many operands and the id i
unfoldable pub operand_above : Node → ℕ → ℕ → Bool
operand_above n operands i = ltb 0 operands && leb i n.a || ltb 1 operands && leb i n.b || ltb 2 operands && leb i n.c

-- 10 "a field that the kind does not use is not zero, or lo or hi is not zero in kinds 2 to 13" (with 02: in every
-- kind from 2 on), of a node that uses so many of the fields a, b, c
unfoldable pub stray_field : Node → ℕ → Bool
stray_field n fields =
    leb fields 0 && not (eqb n.a 0)
    || leb fields 1 && not (eqb n.b 0)
    || leb fields 2 && not (eqb n.c 0)
    || leb 2 n.kind && (not (eqb n.lo 0) || not (eqb n.hi 0))

-- "lo has a bit outside hi", as code tests it; specs/Outside says that of single bits
unfoldable pub bit_outside : ℕ → ℕ → Bool
bit_outside lo hi = not (eqb (bit_and lo hi) lo)

-- 12 "kind 0 or 1: lo has a bit outside hi, or hi is 2^w or more, or a constant has lo and hi apart"
unfoldable pub pair_broken : Node → Bool
pair_broken n =
    leb n.kind 1
    && (bit_outside n.lo n.hi || leb (2 ^ n.width) n.hi || eqb n.kind 1 && not (eqb n.lo n.hi))

-- 1 to 6, whose place is 0
unfoldable pub header_lines : List ℕ → List Line
header_lines s =
    (1, ltb (length s) 9)
    ∷ (2, mark_wrong s)
    ∷ (3, not (eqb (version s) 1))
    ∷ (4, ltb 1024 (node_count s))
    ∷ (5, ltb 256 (root_count s))
    ∷ (6, not (eqb (length s) (total_length s)))
    ∷ []

unfoldable pub header_fault : List ℕ → Checked
header_fault s = first_of 0 (header_lines s)

-- 7 to 12, and 20 "tried between 8 and 9 on the same node, whose id is its place", of a node, its id i and the widths of the nodes that its fields a,
-- b, c name
unfoldable pub node_lines : Node → ℕ → ℕ → ℕ → ℕ → List Line
node_lines n i wa wb wc =
    (7, leb kind_count n.kind)
    ∷ (8, eqb n.width 0 || ltb 64 n.width)
    ∷ (20, division_wide n)
    ∷ (9, operand_above n (shape_of n.kind).operands i)
    ∷ (10, stray_field n (shape_of n.kind).fields)
    ∷ (11, not (rule_holds (shape_of n.kind).rule n.width wa wb wc n.b))
    ∷ (12, pair_broken n)
    ∷ []

unfoldable pub fault_of : Node → ℕ → ℕ → ℕ → ℕ → Checked
fault_of n i wa wb wc = first_of i (node_lines n i wa wb wc)

unfoldable pub node_fault : List ℕ → ℕ → Checked
node_fault s i = fault_of (node_at s i) i (width_at s (node_at s i).a) (width_at s (node_at s i).b) (width_at s (node_at s i).c)

-- 13 "a root's id is N or more, or its width is not 1", of root j
unfoldable pub root_lines : List ℕ → ℕ → List Line
root_lines s j = (13, leb (node_count s) (root_at s j) || not (eqb (width_at s (root_at s j)) 1)) ∷ []

unfoldable pub root_fault : List ℕ → ℕ → Checked
root_fault s j = first_of j (root_lines s j)

-- whether an id stands among the roots before root j
unfoldable pub root_before : List ℕ → ℕ → ℕ → Bool
root_before s zero id = false
root_before s (suc j) id = root_before s j id || eqb (root_at s j) id

-- 16 "a root id that occurred earlier in the file is refused, at the later position" (document 02, R-5), of root j
unfoldable pub repeat_lines : List ℕ → ℕ → List Line
repeat_lines s j = (16, root_before s j (root_at s j)) ∷ []

unfoldable pub repeat_fault : List ℕ → ℕ → Checked
repeat_fault s j = first_of j (repeat_lines s j)

-- "7 to 12 are tried node by node in ascending id, all six [and 20] on one node before the next node; 13 by root in file order"; 16 "after
-- 13 has passed for all roots ..; first repeat in file order"
unfoldable pub checked : List ℕ → Checked
checked s =
    header_fault s
    then first_below (node_fault s) (node_count s)
    then first_below (root_fault s) (root_count s)
    then first_below (repeat_fault s) (root_count s)
