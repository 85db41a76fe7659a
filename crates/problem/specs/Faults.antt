-- The numbers of the refusals, by name: 1 to 15 are document 01's, in the order of its table; the others document 02's.
use Rattle.std.specs.Prelude.{ℕ}
use Rattle.problem.specs.declared.fault.Fault.{Fault}
use Rattle.problem.specs.declared.fault.Fault.TheVariants.{Short, Mark, Version, Nodes, Roots, Length, Kind, Width, Operand, Field, Rule, Pair, Root, Places, Start, Repeat, Starts, Tape, Room, Division, Beyond, Circle, Names, Name, Output, Keep, Answers}

-- the number that callers are told
abbrev pub fault_number : Fault → ℕ
fault_number Short = 1
fault_number Mark = 2
fault_number Version = 3
fault_number Nodes = 4
fault_number Roots = 5
fault_number Length = 6
fault_number Kind = 7
fault_number Width = 8
fault_number Operand = 9
fault_number Field = 10
fault_number Rule = 11
fault_number Pair = 12
fault_number Root = 13
fault_number Places = 14
fault_number Start = 15
fault_number Repeat = 16
fault_number Starts = 17
fault_number Tape = 18
fault_number Room = 19
fault_number Division = 20
fault_number Beyond = 21
fault_number Circle = 22
fault_number Names = 23
fault_number Name = 24
fault_number Output = 25
fault_number Keep = 26
fault_number Answers = 255
