-- What every call but the two picks answers, as a number: 0 where nothing is refused, else the refusal's number + 256 x its place.
use Rattle.std.specs.Prelude.{ℕ, ◌-◌, ◌^◌, min}
use Rattle.problem.specs.Refusals.{Checked, number_of as checked_number, place_of as checked_place}
use Rattle.search.specs.Answers.{refusal_code}
use Rattle.models.specs.declared.Judged.{Judged}
use Rattle.models.specs.Answers.{number_of as judged_number, place_of as judged_place}
use Rattle.btor2.specs.Answer.{Converted, number_of as converted_number, line_of}

-- of the problem check's answer (a run's is `outcome_code` of `search`)
abbrev pub checked_code : Checked → ℕ
checked_code c = refusal_code (checked_number c) (checked_place c)

-- of a judgement: the place may be an entry's position, or a line, in a text of any length, and the last place that 56 bits hold stands for
-- those beyond it
abbrev pub last_place : ℕ
last_place = 2 ^ 56 - 1

abbrev pub long_code : ℕ → ℕ → ℕ
long_code number place = refusal_code number (min place last_place)

abbrev pub judged_code : Judged → ℕ
judged_code j = long_code (judged_number j) (judged_place j)

-- of a conversion: the place is the line
abbrev pub converted_code : Converted → ℕ
converted_code c = long_code (converted_number c) (line_of c)

-- a number that no refusal has: an array lent for the answer is too short
abbrev pub too_short : ℕ
too_short = 255
