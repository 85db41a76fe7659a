use Prim.Native.Nat.{◌/◌, ◌-◌}
use Rattle.boxes.specs.declared.unions.Union.TheVariants.{Dividends}
use Rattle.boxes.proofs.UnionLaws.{Passed}
use Rattle.boxes.proofs.unions.first_dividend.Given as goal

abbrev pub invariant-loop-v : goal.invariant-loop-v
invariant-loop-v l = Passed (Dividends l.t l.m) l.pair.lo l.pair.hi l.p l.from

abbrev pub decreases-loop-v : goal.decreases-loop-v
decreases-loop-v l = 256 - l.from / l.t
