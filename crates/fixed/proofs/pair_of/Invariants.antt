-- What the three shifts do, by name.
use Rattle.std.proofs.Common.{◌*◌, ◌/◌, ◌%◌, ◌^◌}
use Rattle.operators.specs.Meaning.{signed_shift}
use Rattle.fixed.proofs.pair_of.Given as goal

abbrev pub ghost-shifted_by : goal.ghost-shifted_by
ghost-shifted_by a = λ v s. v * 2 ^ s % 2 ^ a.w

abbrev pub ghost-shifted_by-2 : goal.ghost-shifted_by-2
ghost-shifted_by-2 a = λ v s. v / 2 ^ s

abbrev pub ghost-shifted_by-3 : goal.ghost-shifted_by-3
ghost-shifted_by-3 a = λ v s. signed_shift a.w v s
