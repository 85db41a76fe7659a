-- The law of a reading: what was read has room.
use Rattle.std.specs.Prelude.{◌≡◌, ℕ, ◌≤◌, Result, Ok, IfOk}

pub bytes_most : {E : Type 0} (room : ℕ) {n : ℕ} {r : Result ℕ E} → r ≡ Ok n → IfOk r (λ k. k ≤ room) → n ≤ room
bytes_most room e h = rw e at h
