-- What a reader of a line's places answers.
use Rattle.std.specs.Prelude.{◌≡◌, cond, List, [], ℕ, zero, suc, ◌+◌, ◌-◌, ◌*◌, ◌≤◌, ◌<◌, eqb, length, get_or, take, drop, set}
use Rattle.texts.specs.declared.runs.Class.TheVariants.{Blank, Solid}
use Rattle.texts.specs.Runs.{is_in, length_of_run}
use Rattle.lines.specs.Lines.{token, tokens}

-- how long the first token is where no blank stands in front: 0 where there is none
unfoldable pub token_length : List ℕ → ℕ
token_length s = cond (eqb (get_or s 0 0) 59) 0 (length_of_run (is_in Solid) s)

-- the place after a token between two places of a line of so many bytes: the line's end where the token is empty, for then there is none
unfoldable pub past : ℕ → ℕ → ℕ → ℕ
past from end size = cond (eqb end from) size end

-- where the first token from a place on begins and ends, and the place after it
unfoldable pub begins : List ℕ → ℕ → ℕ
begins l at = at + length_of_run (is_in Blank) (drop at l)

unfoldable pub ends : List ℕ → ℕ → ℕ
ends l at = begins l at + token_length (drop (begins l at) l)

unfoldable pub beyond : List ℕ → ℕ → ℕ
beyond l at = past (begins l at) (ends l at) (length l)

-- n tokens from place `at` on stored, the first of them as token k
unfoldable pub stored : List ℕ → ℕ → ℕ → ℕ → List ℕ → List ℕ
stored l zero at k marks = marks
stored l (suc n) at k marks = stored l n (beyond l at) (k + 1) (set (set marks (2 * k) (begins l at)) (2 * k + 1) (ends l at))

-- place r is after the first token from place `at` on: one token fewer is left
pub record After (l : List ℕ) (at r : ℕ) : Type 0 where
  pub inside : r ≤ length l
  pub left : tokens (drop r l) ≡ drop 1 (tokens (drop at l))

-- token k stored: where it begins and ends, at places 2k and 2k + 1, and the place r after it
pub record MarkedAt (l : List ℕ) (at k : ℕ) (marks marks' : List ℕ) (r : ℕ) : Type 0 where
  pub from : ℕ
  pub end : ℕ
  pub from_is : from ≡ begins l at
  pub end_is : end ≡ ends l at
  pub r_is : r ≡ beyond l at
  pub stored_is : marks' ≡ set (set marks (2 * k) from) (2 * k + 1) end
  pub ordered : from ≤ end
  pub inside : end ≤ length l
  pub told : take (end - from) (drop from l) ≡ get_or (tokens (drop at l)) 0 []
  pub after : After l at r

-- the first n tokens of a line are stored
pub record Marked (l : List ℕ) (n : ℕ) (marks : List ℕ) : Type 0 where
  pub long : length marks ≡ 24
  pub ordered : (j : ℕ) → j < n → get_or marks (2 * j) 0 ≤ get_or marks (2 * j + 1) 0
  pub inside : (j : ℕ) → j < n → get_or marks (2 * j + 1) 0 ≤ length l
  pub told :
      (j : ℕ)
      → j < n
      → take (get_or marks (2 * j + 1) 0 - get_or marks (2 * j) 0) (drop (get_or marks (2 * j) 0) l)
      ≡ token (tokens l) j

-- the first 12 tokens of a line stored, and nothing else
pub record Stored (l marks marks' : List ℕ) : Type 0 where
  pub exactly : marks' ≡ stored l 12 0 0 marks
  pub marked : Marked l 12 marks'
