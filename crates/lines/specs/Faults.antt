-- The numbers of BTOR2's refusals.
use Rattle.std.specs.Prelude.{Bool, cond, ℕ, Result, Ok, Err}
use Rattle.lines.specs.declared.fault.Fault.{Fault}
use Rattle.lines.specs.declared.fault.Fault.TheVariants.{Format, Keyword, Id, Width, Room}

abbrev pub fault_number : Fault → ℕ
fault_number Format = 1
fault_number Keyword = 2
fault_number Id = 3
fault_number Width = 4
fault_number Room = 5

-- the number of an answer: 0 where nothing is refused
abbrev pub told : Result Unit Fault → ℕ
told (Ok u) = 0
told (Err f) = fault_number f

-- a refusal's number where a test is given, and 0 where it is not
abbrev pub given_by : Fault → Bool → ℕ
given_by f t = cond t (fault_number f) 0
