use Rattle.std.proofs.Common.{◌≡◌, ℕ, ◌<◌}
use Rattle.nodes.specs.Problem.{problem, pair_hi}
use Rattle.moves.proofs.roots.closed_root.Given as goal

abbrev pub invariant-loop-j : goal.invariant-loop-j
invariant-loop-j l = (l.j-end ≡ (problem l.pairs.problem.bytes.now).entries) × ((m : ℕ) → m < l.j → pair_hi (problem l.pairs.problem.bytes.now) ((problem l.pairs.problem.bytes.now).root m) ≡ 0 → ⊥)
