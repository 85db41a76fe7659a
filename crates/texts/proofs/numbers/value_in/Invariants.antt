use Rattle.std.proofs.Common.{◌≡◌, ◌<◌, ◌^◌, drop}
use Rattle.texts.specs.Numbers.{value_from, value_in}
use Rattle.texts.proofs.numbers.value_in.Given as goal

abbrev pub invariant-loop-b : goal.invariant-loop-b
invariant-loop-b l = (value_from l.base l.n (drop l.b-index l.s) ≡ value_in l.base l.s) × (l.n < 2 ^ 64)
