-- "Output bytes are always acceptable to the search."
use Rattle.std.specs.Prelude.{◌≡◌, List, ℕ}
use Rattle.problem.specs.Refusals.{Accepted, checked}
use Rattle.btor2.specs.Conversion.{State, converted, outcome, bytes_of}
use Rattle.btor2.specs.laws.Reached.{outcome_reached}
use Rattle.btor2.specs.laws.Sound.{reached_sound}
use Rattle.btor2.specs.laws.Fine.{reached_fine}
use Rattle.btor2.specs.laws.Accepted.{bytes_accepted}

-- the problem check refuses no bytes that a text is converted to, with 16 and 20 as with 1 to 13
pub always_accepted : (room : ℕ) (text : List ℕ) (σ : State) → outcome room text ≡ converted σ → checked (bytes_of σ) ≡ Accepted
always_accepted room text σ o =
    let R = outcome_reached room text σ o in
    let S = reached_sound R in
    bytes_accepted σ (reached_fine R) S.nodes_few S.roots_few
