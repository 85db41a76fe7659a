-- What the functions of the gathering take from the definitions.
use Rattle.std.proofs.Common.{◌≡◌, Bool, true, false, List, ◌++◌, ℕ, ◌+◌, ◌-◌, ◌*◌, ◌≤◌, ◌<◌, length, take, drop, le_trans, mul-le-mul_right, arith}
use Rattle.std.proofs.Math.Decide.{ℕ_discrete}
use Rattle.words.specs.inner.Decides.{Decides}
use Rattle.words.specs.laws.Decides.{decides_yes, decides_no}
use Rattle.batches.specs.Batch.{part}
use Rattle.batches.specs.laws.Parts.{part_length, part_inside}
use Rattle.frames.specs.declared.gathering.Tally.{Tally}
use Rattle.frames.specs.Names.{most}
use Rattle.frames.specs.Bench.{Alike}
use Rattle.frames.specs.inner.Bench.{Compared, AgreesIn, Taking, Taken, Taken.repeated, Taken.left_out, Taken.held as stored}

-- ---- a solution among those that are kept

-- none of the first j kept ones agrees
abbrev pub NoneYet : List ℕ → List ℕ → List ℕ → ℕ → Type 0
NoneYet names kept solution j = (i : ℕ) → i < j → Alike names (part (length solution) i kept) solution → ⊥

abbrev lent_part : ℕ → ℕ → List ℕ → List ℕ
lent_part from to xs = take (to - from) (drop from xs)

across : (a w : ℕ) → a + w - a ≡ w
across a w = omega arith

module _ {names kept solution : List ℕ} {held : ℕ} (c : Compared names solution kept held) {j : ℕ} (l : j < held) where
  pub there : j * length solution + length solution ≤ length kept
  there = part_inside (length solution) kept l c.room

  pub one_agrees :
      Alike names (lent_part (j * length solution) (j * length solution + length solution) kept) solution → AgreesIn names kept held solution
  one_agrees a = record { at = j; at_lt = l; alike = rw (across (j * length solution) (length solution)) at a }

  pub none_more :
      NoneYet names kept solution j
      → (Alike names (lent_part (j * length solution) (j * length solution + length solution) kept) solution → ⊥)
      → NoneYet names kept solution (j + 1)
  none_more n x i h a =
      elim (ℕ_discrete i j) [
        | yes q ↦ x (rw (across (j * length solution) (length solution)) (rw q at a))
        | no y ↦ n i (omega arith) a
      ]

-- the part of the kept places is as long as a solution
pub as_long :
    (kept solution : List ℕ) (j : ℕ) → j * length solution + length solution ≤ length kept
    → length (lent_part (j * length solution) (j * length solution + length solution) kept) ≡ length solution
as_long kept solution j h = rw (across (j * length solution) (length solution)) (part_length (length solution) j kept h)

-- ---- one model more

pub room_there : {names solution kept : List ℕ} {t : Tally} → Taking names solution kept t → t.kept < most → t.kept * length solution + length solution ≤ length kept
room_there {solution = solution} {kept = kept} k h = part_inside (length solution) kept h k.room

-- a model after the test of repeats: again, or left out
module _ {names solution kept : List ℕ} {t : Tally} {r : Bool} (d : Decides (AgreesIn names kept t.kept solution) r) where
  pub taken_again :
      r ≡ true
      → Taken names solution kept t kept (record { kept = t.kept; repeats = t.repeats + 1; unkept = t.unkept })
  taken_again e = repeated (decides_yes _ _ d e)

  pub taken_out :
      r ≡ false
      → most ≤ t.kept
      → Taken names solution kept t kept (record { kept = t.kept; repeats = t.repeats; unkept = t.unkept + 1 })
  taken_out e h = left_out (decides_no _ _ d e) h

-- a solution that was copied into its places is held
pub kept_there :
    (names solution kept : List ℕ) (t : Tally) {copied : List ℕ}
    → copied ≡ solution
    → {r : Bool}
    → Decides (AgreesIn names kept t.kept solution) r
    → r ≡ false
    → t.kept < most
    → Taken names solution kept t
    (take (t.kept * length solution) kept
    ++ (copied ++ drop (t.kept * length solution + length solution - t.kept * length solution) (drop (t.kept * length solution) kept)))
    (record { kept = t.kept + 1; repeats = t.repeats; unkept = t.unkept })
kept_there names solution kept t e d x h = rw (e, across (t.kept * length solution) (length solution)) (stored (decides_no _ _ d x) h)

-- what is asked of the comparison
pub compared : {names solution kept : List ℕ} {t : Tally} → Taking names solution kept t → Compared names solution kept t.kept
compared {solution = solution} {t = t} k =
    record { named = k.named; room = le_trans (mul-le-mul_right {m = t.kept} {n = most} (length solution) k.held) k.room }
