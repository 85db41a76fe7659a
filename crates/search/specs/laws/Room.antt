-- Laws of the room for what is worked out of a problem: arrays of zeros are that room.
use Rattle.std.specs.Prelude.{◌≡◌, refl, List, ℕ, zero, suc, ◌*◌, ◌≤◌, length, get_or, replicate}
use Rattle.std.proofs.Common.{arith}
use Rattle.std.proofs.lemmas.List.{length-replicate}
use Rattle.nodes.specs.Problem.{problem}
use Rattle.search.specs.inner.Run.{Unprepared}

all_zero : (n k : ℕ) → ◌≡◌ {A = ℕ} (get_or (replicate n 0) k 0) 0
all_zero zero k = refl
all_zero (suc n) zero = refl
all_zero (suc n) (suc k) = all_zero n k

long : (n : ℕ) → length (replicate {A = ℕ} n 0) ≡ n
long n = length-replicate {A = ℕ} n 0

-- arrays of zeros for at least as many nodes as there are
pub unprepared :
    {s : List ℕ} (n : ℕ)
    → (problem s).nodes ≤ n
    → Unprepared s (replicate n 0) (replicate n 0) (replicate (4 * n) 0)
unprepared n h =
    record {
      unfilled = record { room_lo = rw (long n) h; room_hi = rw (long n) h };
      unindexed = record { room = rw (long (4 * n)) (omega arith); none = all_zero (4 * n) };
    }
