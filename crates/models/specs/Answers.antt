-- The paper's number, place and values of a judgement, for each case.
use Rattle.std.specs.Prelude.{ℕ}
use Rattle.models.specs.declared.Judged.{Judged}
use Rattle.models.specs.declared.Judged.TheVariants.{Yes, No, Refused}

-- a refusal's number and place; both are 0 where nothing is refused
abbrev pub number_of : Judged → ℕ
number_of Yes = 0
number_of (No j) = 0
number_of (Refused f) = f.number

abbrev pub place_of : Judged → ℕ
place_of Yes = 0
place_of (No j) = 0
place_of (Refused f) = f.place

-- "1 for yes and 0 otherwise; the first root that is 0"
abbrev pub yes_of : Judged → ℕ
yes_of Yes = 1
yes_of (No j) = 0
yes_of (Refused f) = 0

abbrev pub root_of : Judged → ℕ
root_of Yes = 0
root_of (No j) = j
root_of (Refused f) = 0
