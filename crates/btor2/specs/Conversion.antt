-- The conversion: a fold over the lines that gives nodes and roots, or the first refusal and its line.
use Rattle.std.specs.Prelude.{Bool, false, cond, not, ◌||◌, List, [], ◌∷◌, ◌++◌, ℕ, suc, ◌+◌, ◌-◌, ◌*◌, ltb, leb, eqb, length, get_or}
use Rattle.problem.specs.declared.layout.Node.{Node}
use Rattle.lines.specs.Lines.{Token, lines, tokens}
use Rattle.lines.specs.declared.table.Makes.{Makes}
use Rattle.lines.specs.declared.table.Makes.TheVariants.{Sort, Input, Value, Root}
use Rattle.lines.specs.Format.{Ref, Item, ◌or_else◌, given, format_fault, item}
use Rattle.spelling.specs.declared.line.Operand.{Operand}
use Rattle.spelling.specs.Nodes.{invert, constant_value, fits, own, nots, placed, is_root}
use Rattle.spelling.specs.Bytes.{little_endian, all_nodes, all_roots}

-- ---- what the lines so far have defined

-- ids of lines with what they stand for: a width, or a node
abbrev pub Table : Type 0
Table = List (ℕ × ℕ)

unfoldable pub known : ℕ → Table → Bool
known id [] = false
known id (e ∷ es) = eqb e.0 id || known id es

unfoldable pub at : ℕ → Table → ℕ
at id [] = 0
at id (e ∷ es) = cond (eqb e.0 id) e.1 (at id es)

pub record State : Type 0 where
  pub last : ℕ
  pub sorts : Table
  pub named : Table
  pub nodes : List Node
  pub roots : List ℕ

abbrev pub start : State
start = record { last = 0; sorts = []; named = []; nodes = []; roots = [] }

-- the width of a node
unfoldable pub width_in : List Node → ℕ → ℕ
width_in ns n = (get_or ns n (invert 0 0)).width

-- ---- references

-- an operand: whether a not is wanted, the node that a reference names, and its width
unfoldable pub operand_of : State → Ref → Operand
operand_of σ r =
    record { negative = r.negative; node = at r.line σ.named; width = width_in σ.nodes (at r.line σ.named) }

unfoldable pub operands : State → List Ref → List Operand
operands σ [] = []
operands σ (r ∷ rs) = operand_of σ r ∷ operands σ rs

abbrev pub width_of : List Operand → ℕ → ℕ
width_of os k = (get_or os k (record { negative = false; node = 0; width = 0 })).width

-- ---- refusals 3 and 4

unfoldable pub any_unknown : List Ref → Table → Bool
any_unknown [] t = false
any_unknown (r ∷ rs) t = not (known r.line t) || any_unknown rs t

-- an input's and a value's line names a sort
abbrev pub sort_unknown : Makes → ℕ → Table → Bool
sort_unknown Sort id t = false
sort_unknown Input id t = not (known id t)
sort_unknown Value id t = not (known id t)
sort_unknown Root id t = false

-- 3 "an id not increasing or not defined"
unfoldable pub id_fault : State → Item → Bool
id_fault σ i = leb i.id σ.last || sort_unknown i.makes i.sort σ.sorts || any_unknown i.refs σ.named

-- 4 "sorts or widths that don't fit or a value too wide"
unfoldable pub misfit : State → Item → Bool
misfit σ i =
    let os = operands σ i.refs in
    not (fits i.word (at i.sort σ.sorts) (width_of os 0) (width_of os 1) (width_of os 2) i.first i.second i.constant)

-- ---- what a line adds

-- all its nodes, in order, and the node that its id stands for: the last of them, or its operand where there are none
unfoldable pub new_nodes : State → Item → List Node
new_nodes σ i =
    let os = operands σ i.refs in
    let n = length σ.nodes in
    let ps = placed n os in
    let w = at i.sort σ.sorts in
    nots os
    ++ own i.word w (n + length (nots os)) (get_or ps 0 0) (get_or ps 1 0) (get_or ps 2 0) i.first i.second (constant_value w i.constant)

unfoldable pub node_for : State → Item → ℕ
node_for σ i =
    cond (eqb (length (new_nodes σ i)) 0) (get_or (placed (length σ.nodes) (operands σ i.refs)) 0 0)
    (length σ.nodes + length (new_nodes σ i) - 1)

-- "once for each node, at its first constraint"
unfoldable pub with_root : List ℕ → ℕ → List ℕ
with_root rs n = cond (is_root n rs) rs (rs ++ n ∷ [])

-- the line's id stands for a node
unfoldable pub naming : State → Item → State
naming σ i =
    record { last = i.id; sorts = σ.sorts; named = σ.named ++ (i.id, node_for σ i) ∷ []; nodes = σ.nodes ++ new_nodes σ i; roots = σ.roots }

-- a sort's line makes a sort, an input's and a value's names a node, a constraint's makes a root
unfoldable pub added : State → Item → Makes → State
added σ i Sort =
    record { last = i.id; sorts = σ.sorts ++ (i.id, i.first) ∷ []; named = σ.named; nodes = σ.nodes; roots = σ.roots }
added σ i Input = naming σ i
added σ i Value = naming σ i
added σ i Root =
    record { last = i.id; sorts = σ.sorts; named = σ.named; nodes = σ.nodes ++ new_nodes σ i; roots = with_root σ.roots (node_for σ i) }

unfoldable pub after : State → Item → State
after σ i = added σ i i.makes

-- ---- the fold

-- the bytes that so many nodes and roots take
abbrev pub size : State → ℕ
size σ = 9 + 24 * length σ.nodes + 2 * length σ.roots

-- 5 "more than 1,024 nodes, 256 roots or the lent bytes needed so far"
unfoldable pub too_much : ℕ → State → Bool
too_much room σ = ltb 1024 (length σ.nodes) || ltb 256 (length σ.roots) || ltb room (size σ)

-- refusals of a line with tokens
unfoldable pub item_fault : ℕ → State → Item → ℕ
item_fault room σ i = given 3 (id_fault σ i) or_else given 4 (misfit σ i) or_else given 5 (too_much room (after σ i))

-- a line without tokens passes
unfoldable pub line_fault : ℕ → State → List Token → ℕ
line_fault room σ [] = 0
line_fault room σ (t ∷ ts) = format_fault (t ∷ ts) or_else item_fault room σ (item (t ∷ ts))

unfoldable pub after_line : State → List Token → State
after_line σ [] = σ
after_line σ (t ∷ ts) = after σ (item (t ∷ ts))

-- what became of a text: the state after its last line, or a refusal's number and line
pub data Outcome : Type 0 where
  converted : State → Outcome
  refused : ℕ → ℕ → Outcome

-- from line k on
unfoldable pub convert_from : ℕ → State → ℕ → List (List ℕ) → Outcome
convert_from room σ k [] = converted σ
convert_from room σ k (l ∷ ls) =
    cond (eqb (line_fault room σ (tokens l)) 0) (convert_from room (after_line σ (tokens l)) (suc k) ls)
    (refused (line_fault room σ (tokens l)) k)

-- lines count from 1; under 9 bytes lent is refused before any line
unfoldable pub outcome : ℕ → List ℕ → Outcome
outcome room text = cond (ltb room 9) (refused 5 0) (convert_from room start 1 (lines text))

-- ---- the bytes

-- header, nodes, roots
unfoldable pub bytes_of : State → List ℕ
bytes_of σ =
    84 ∷ 66 ∷ 86 ∷ little_endian 2 1 ++ little_endian 2 (length σ.nodes) ++ little_endian 2 (length σ.roots) ++ all_nodes σ.nodes
    ++ all_roots σ.roots
