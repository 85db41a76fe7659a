-- A call of the run, from bytes: refusals 1 to 16 and 20, else the whole run.
use Rattle.std.specs.Prelude.{Err as Refused, ◌≡◌, Bool, ◌&&◌, ◌||◌, List, [], ◌∷◌, ℕ, eqb, ltb, length, get_or}
use Rattle.problem.specs.declared.Refusal.{Refusal}
use Rattle.problem.specs.Layout.{node_count, node_at}
use Rattle.problem.specs.Refusals.{Checked, Accepted, first_of, ◌then◌, first_below, bit_outside, checked}
use Rattle.search.specs.declared.Outcome.{Outcome}
use Rattle.search.specs.declared.Answer.{Answer}
use Rattle.nodes.specs.Problem.{problem}
use Rattle.search.specs.Run.{Whole}

-- 14: "fewer than N places lent for values"
unfoldable pub places_fault : List ℕ → List ℕ → Checked
places_fault s start = first_of 0 ((14, ltb (length start) (node_count s)) ∷ [])

-- v does not agree with lo, hi: a bit of lo is outside v, or one of v outside hi
unfoldable pub disagrees : ℕ → ℕ → ℕ → Bool
disagrees lo hi v = bit_outside lo v || bit_outside v hi

-- 15, of node i: "a variable's start does not agree with its pair"
unfoldable pub start_fault : List ℕ → List ℕ → ℕ → Checked
start_fault s start i = first_of i ((15, eqb (node_at s i).kind 0 && disagrees (node_at s i).lo (node_at s i).hi (get_or start i 0)) ∷ [])

-- 1 to 13, 16 and 20 by the problem check, then 14, then 15 by ascending id
unfoldable pub refusals : List ℕ → List ℕ → Checked
refusals s start = checked s then places_fault s start then first_below (start_fault s start) (node_count s)

-- "A refusal names its place, has all counts 0 and changes no lent place." R-7: ".. refusals add 0"
abbrev pub refused : Refusal → Answer
refused r = record { moves = 0; steps = 0; words = 0; evaluated = 0; outcome = Outcome.Refused r }

-- a call with the bytes s, the places start, the tape ws and the budget B: the places afterwards, and the answer
pub data Called (s start ws : List ℕ) (B : ℕ) : List ℕ → Answer → Type 0 where
  refuses : (r : Refusal) → refusals s start ≡ Refused r → Called s start ws B start (refused r)
  runs : {out : List ℕ} {a : Answer} → refusals s start ≡ Accepted → Whole (problem s) B start ws out a → Called s start ws B out a
