-- The contract of `wal_gather` determines its number and every lent place.
use Rattle.std.specs.Prelude.{◌≡◌, refl, ◌⊎◌, List, ℕ, ◌*◌, ◌≤◌, ◌<◌, length, set}
use Rattle.std.proofs.Common.{ap, inl, inr, arith}
use Rattle.search.specs.Answers.{answer_words}
use Rattle.frames.specs.declared.Gathered.{Gathered}
use Rattle.frames.specs.promises.Determined.{gather_determined}
use Rattle.walumpeh.specs.Codes.{checked_code}
use Rattle.walumpeh.specs.Gathers.{GatherCode, GatherCode.no_room, GatherCode.told}

-- room, and no room
never : (m n b : ℕ) → 3 ≤ m → b ≤ n → (m < 3) ⊎ (n < b) → ⊥
never m n b h k (inl l) = omega arith
never m n b h k (inr l) = omega arith

pub wal_gather_determined :
    (s : List ℕ) (starts : ℕ) (values tape lengths budgets names kept answers out : List ℕ) {vs vs' ks ks' qs qs' o o' : List ℕ} {r r' : ℕ}
    → GatherCode s starts values tape lengths budgets names kept answers out vs ks qs o r
    → GatherCode s starts values tape lengths budgets names kept answers out vs' ks' qs' o' r'
    → (vs ≡ vs') × (ks ≡ ks') × (qs ≡ qs') × (o ≡ o') × (r ≡ r')
wal_gather_determined s starts values tape lengths budgets names kept answers out (no_room x) (no_room x') = (refl, refl, refl, refl, refl)
wal_gather_determined s starts values tape lengths budgets names kept answers out (no_room x) (told h' k' g') =
    absurd (never (length out) (length answers) (starts * answer_words) h' k' x)
wal_gather_determined s starts values tape lengths budgets names kept answers out (told h k g) (no_room x') =
    absurd (never (length out) (length answers) (starts * answer_words) h k x')
wal_gather_determined s starts values tape lengths budgets names kept answers out (told h k g) (told h' k' g') =
    let e = gather_determined s starts values tape lengths budgets names kept answers g g' in (
      e.0,
      e.1,
      e.2,
      ap (λ (x : Gathered). set (set (set out 0 x.kept) 1 x.repeats) 2 x.unkept) e.3,
      ap (λ (x : Gathered). checked_code x.found) e.3,
    )
