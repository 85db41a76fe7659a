-- What the promises speak of beside Conversion and Meaning: the variables among nodes, and the inputs among lines.
use Rattle.std.specs.Prelude.{List, [], ◌∷◌, ℕ, get_or, drop}
use Rattle.nodes.specs.Problem.{by_kind}
use Rattle.problem.specs.declared.layout.Node.{Node}
use Rattle.lines.specs.declared.table.Makes.{Makes}
use Rattle.lines.specs.declared.table.Makes.TheVariants.{Sort, Input, Value, Root}
use Rattle.lines.specs.Lines.{Token}
use Rattle.lines.specs.Format.{Item, item}
use Rattle.btor2.specs.Conversion.{Table, at}

-- the values of the variables where all nodes have the values vs, and the variables' widths, by ascending id
unfoldable pub inputs_of : List Node → List ℕ → List ℕ
inputs_of [] vs = []
inputs_of (n ∷ ns) vs =
    by_kind n.kind (get_or vs 0 0 ∷ inputs_of ns (drop 1 vs)) (inputs_of ns (drop 1 vs)) (inputs_of ns (drop 1 vs))

unfoldable pub variable_widths : List Node → List ℕ
variable_widths [] = []
variable_widths (n ∷ ns) = by_kind n.kind (n.width ∷ variable_widths ns) (variable_widths ns) (variable_widths ns)

-- the widths of the inputs, in the order of their lines
unfoldable pub widths_by : Table → Item → Makes → List ℕ → List ℕ
widths_by sorts i Sort ws = ws
widths_by sorts i Input ws = at i.sort sorts ∷ ws
widths_by sorts i Value ws = ws
widths_by sorts i Root ws = ws

unfoldable pub input_widths : Table → List (List Token) → List ℕ
input_widths sorts [] = []
input_widths sorts ([] ∷ ls) = input_widths sorts ls
input_widths sorts ((t ∷ ts) ∷ ls) = widths_by sorts (item (t ∷ ts)) (item (t ∷ ts)).makes (input_widths sorts ls)
