-- "Inputs become the variables, in the order of their lines", with all bits free.
use Rattle.std.specs.Prelude.{◌≡◌, List, map, ℕ, ◌<◌, length, get_or}
use Rattle.lines.specs.Lines.{lines, tokens}
use Rattle.spelling.specs.Nodes.{invert, variable_node}
use Rattle.btor2.specs.Conversion.{State, converted, outcome}
use Rattle.btor2.specs.Inputs.{variable_widths, input_widths}
use Rattle.btor2.specs.laws.Reached.{outcome_reached}
use Rattle.btor2.specs.laws.Fine.{reached_fine}
use Rattle.btor2.specs.laws.Built.{AllBuilt}
use Rattle.btor2.specs.laws.Met.{text_widths}
use Rattle.btor2.specs.laws.Searched.{built_free}

-- the variables by ascending id are as wide as the inputs in the order of their lines, one for each
pub inputs_are_variables : (room : ℕ) (text : List ℕ) (σ : State) → outcome room text ≡ converted σ
    → variable_widths σ.nodes ≡ input_widths σ.sorts (map tokens (lines text))
inputs_are_variables room text σ o = text_widths room text σ o

-- and every bit of theirs is free: lo is 0 and hi all ones
pub variables_free : (room : ℕ) (text : List ℕ) (σ : State) → outcome room text ≡ converted σ → (k : ℕ) → k < length σ.nodes
    → (get_or σ.nodes k (invert 0 0)).kind ≡ 0
    → get_or σ.nodes k (invert 0 0) ≡ variable_node (get_or σ.nodes k (invert 0 0)).width
unfolding AllBuilt
variables_free room text σ o k h e = built_free ((reached_fine (outcome_reached room text σ o)).built k h) e
