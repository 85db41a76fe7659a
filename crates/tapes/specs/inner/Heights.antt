-- What the functions of heights.rt ask and answer, in terms of the definitions. (Not needed to read what `need` promises.)
use Rattle.std.specs.Prelude.{List, ℕ, ◌<◌, get_or}
use Rattle.nodes.specs.Problem.{problem}
use Rattle.evaluation.specs.laws.Height.{Height}

-- the heights of the first i nodes of the problem s in a list
abbrev pub Heights : List ℕ → List ℕ → ℕ → Type 0
Heights s hs i = (n : ℕ) → n < i → Height (problem s) n (get_or hs n 0)
