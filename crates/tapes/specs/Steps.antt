-- What document 02 asks of a tape's length speaks of: the steps that a move makes, finished or not.
use Rattle.std.specs.Prelude.{List, ℕ, suc}
use Rattle.nodes.specs.Problem.{Prob}
use Rattle.moves.specs.Moves.{End, Walk, Walk.arrives, Walk.unserved, Walk.stops, Walk.onward, Move, Move.no_word, Move.from_root}

module _ {P : Prob} {vs : List ℕ} where
  -- the steps that a walk makes, whether it comes to its end or to that of the tape
  unfoldable pub steps : {n t s : ℕ} {ws : List ℕ} {r : End} → Walk P vs n t ws s r → ℕ
  steps (arrives v) = 0
  steps (unserved x h) = 0
  steps (stops x h k) = 1
  steps (onward x h k w) = suc (steps w)

  -- and those of a move
  unfoldable pub steps_of : {s : ℕ} {ws : List ℕ} {r : End} → Move P vs ws s r → ℕ
  steps_of (no_word h) = 0
  steps_of (from_root us h l w) = steps w
