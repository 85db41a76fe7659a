-- "An assignment of the inputs meets all constraints exactly if it makes all roots 1."
use Rattle.std.specs.Prelude.{◌≡◌, List, ◌↔◌, ℕ, ◌<◌, get_or}
use Rattle.problem.specs.Layout.{root_count, root_at}
use Rattle.nodes.specs.Problem.{problem}
use Rattle.nodes.specs.Values.{Evaluated, VariablesAgree}
use Rattle.btor2.specs.Conversion.{State, converted, outcome, bytes_of}
use Rattle.btor2.specs.Meaning.{Met}
use Rattle.btor2.specs.Inputs.{inputs_of}
use Rattle.btor2.specs.laws.Reached.{outcome_reached}
use Rattle.btor2.specs.laws.Sound.{reached_sound}
use Rattle.btor2.specs.laws.Fine.{reached_fine}
use Rattle.btor2.specs.laws.Met.{text_met}
use Rattle.btor2.specs.laws.Given.{search_gives, search_kinds}
use Rattle.btor2.specs.laws.Searched.{roots_one, agree_fits, nodes_evaluated}

-- vs are values of all nodes, evaluated as a run evaluates, whose variables have values of their widths; then the text's constraints hold
-- where the inputs have the variables' values exactly if every root's value is 1
pub met_exactly : (room : ℕ) (text : List ℕ) (σ : State) → outcome room text ≡ converted σ → (vs : List ℕ)
    → Evaluated (problem (bytes_of σ)) vs → VariablesAgree (problem (bytes_of σ)) vs
    → Met text (inputs_of σ.nodes vs) ↔ ((j : ℕ) → j < root_count (bytes_of σ) → get_or vs (root_at (bytes_of σ) j) 0 ≡ 1)
met_exactly room text σ o vs E A =
    let R = outcome_reached room text σ o in
    let S = reached_sound R in
    let F = reached_fine R in
    let m = text_met search_gives search_kinds room text σ o vs (nodes_evaluated σ F S.nodes_few S.roots_few vs E) (agree_fits σ F S.nodes_few S.roots_few vs A) in
    let r = roots_one σ F S.nodes_few S.roots_few vs in
    (λ x. r.0 (m.0 x), λ x. m.1 (r.1 x))
