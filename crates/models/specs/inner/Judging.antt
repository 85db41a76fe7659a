-- What the inner functions of the judgement ask and answer, in terms of the definitions. (Not needed to read what is promised.)
use Rattle.std.specs.Prelude.{Err, Ok, Result, Option, Some, None, ◌≡◌, Bool, true, false, not, ◌&&◌, ◌||◌, List, replicate, ℕ, zero, suc, ◌≤◌, ◌<◌, eqb, length, get_or, set, take, drop, slice_index_or}
use Rattle.texts.specs.Numbers.{numbered}
use Rattle.problem.specs.Layout.{node_count, root_count, node_at}
use Rattle.problem.specs.Refusals.{Accepted, bit_outside, checked}
use Rattle.nodes.specs.Problem.{problem, zeros, evaluate}
use Rattle.entries.specs.Tokens.{tokens}
use Rattle.entries.specs.Names.{names, position, is_again, some}
use Rattle.entries.specs.Entries.{Entry, no_entry, entries_in, entries}
use Rattle.entries.specs.inner.Places.{small}
use Rattle.models.specs.declared.Fault.{Fault}
use Rattle.models.specs.declared.Judged.{Judged}
use Rattle.models.specs.declared.Judged.TheVariants.{Yes, No, Refused}
use Rattle.models.specs.Judgement.{refuse, ◌next◌, first_said, variables_below, unknown_at, again_at, misfit_at, contradicted_at, zero_at}

-- nothing is said against the model
abbrev pub is_yes : Judged → Bool
is_yes Yes = true
is_yes (No j) = false
is_yes (Refused f) = false

-- what a step says, a root that is 0, and both together
abbrev pub said : Result Unit Fault → Judged
said (Ok tt) = Yes
said (Err f) = Refused f

abbrev pub root_said : Option ℕ → Judged
root_said None = Yes
root_said (Some j) = No j

abbrev pub told : Result (Option ℕ) Fault → Judged
told (Ok r) = root_said r
told (Err f) = Refused f

-- no variable is marked
unfoldable pub unmarked : List Bool
unmarked = replicate 1024 false

-- a lent problem that is accepted
pub record Sound (s vs : List ℕ) : Type 0 where
  pub accepted : checked s ≡ Accepted
  pub places : node_count s ≤ length vs

-- the marks of the variables that the first k entries are of, and the values that they give
unfoldable pub marks_up : List (List ℕ) → List Entry → ℕ → List Bool
marks_up ns es zero = unmarked
marks_up ns es (suc k) = set (marks_up ns es k) (position (get_or es k no_entry).name ns) true

unfoldable pub words_up : List (List ℕ) → List Entry → ℕ → List ℕ
words_up ns es zero = zeros
words_up ns es (suc k) = set (words_up ns es k) (position (get_or es k no_entry).name ns) (small (numbered (get_or es k no_entry).value))

-- the first k of the ids hold their words
unfoldable pub placed_up : List ℕ → List ℕ → ℕ → List ℕ
placed_up ids words zero = zeros
placed_up ids words (suc k) = set (placed_up ids words k) (get_or ids k 0) (get_or words k 0)

-- places for values, with the ids of some variables and their values
pub record Placing (ids words values : List ℕ) (count : ℕ) : Type 0 where
  pub ids_room : count ≤ length ids
  pub words_room : count ≤ length words
  pub none : values ≡ zeros
  pub below : (k : ℕ) → k < count → get_or ids k 0 < 1024

-- the first k ids are those of the variables below i
pub record Kept (s ids : List ℕ) (i k : ℕ) : Type 0 where
  pub room : length ids ≡ 1024
  pub few : k ≤ i
  pub kept : take k ids ≡ variables_below s i

-- an accepted problem, the ids of its variables, and as many names, none of them twice
pub record Prepared (s list ids : List ℕ) (count : ℕ) : Type 0 where
  pub accepted : checked s ≡ Accepted
  pub variables : Kept s ids (node_count s) count
  pub all : count ≡ length (names list)
  pub distinct : some (is_again (names list)) count ≡ false

-- after k entries, up to the place `at`
pub record Reading (s list text : List ℕ) (marks : List Bool) (words : List ℕ) (at k : ℕ) (again misfit : Judged) : Type 0 where
  pub inside : at ≤ length text
  pub few : k ≤ at
  pub counted : k ≤ length (entries text)
  pub left : entries_in (tokens (drop at text)) ≡ drop k (entries text)
  pub known : first_said (unknown_at s (names list) (entries text)) k ≡ Yes
  pub again_first : again ≡ first_said (again_at s (names list) (entries text)) k
  pub misfit_first : misfit ≡ first_said (misfit_at s (names list) (entries text)) k
  pub marked : marks ≡ marks_up (names list) (entries text) k
  pub worded : words ≡ words_up (names list) (entries text) k

-- 32 to 34
unfoldable pub entries_said : List ℕ → List (List ℕ) → List Entry → Judged
entries_said s ns es =
    first_said (unknown_at s ns es) (length es) next first_said (again_at s ns es) (length es) next first_said (misfit_at s ns es) (length es)

-- what is said of all entries; where it is nothing, the marks and the values
pub record Read (s list text : List ℕ) (marks : List Bool) (words : List ℕ) (r : Judged) : Type 0 where
  pub said : r ≡ entries_said s (names list) (entries text)
  pub marked : r ≡ Yes → marks ≡ marks_up (names list) (entries text) (length (entries text))
  pub worded : r ≡ Yes → words ≡ words_up (names list) (entries text) (length (entries text))

-- 35, by the marks; 36 and the roots, of the values that stand
abbrev pub unmarked_at : List ℕ → List Bool → ℕ → Judged
unmarked_at ids marks k = refuse 35 (get_or ids k 0) (not (slice_index_or marks k false))

-- node i is a variable, and a bit of lo is outside its value or one of the value outside hi
unfoldable pub is_contradicted : List ℕ → List ℕ → ℕ → Bool
is_contradicted s vs i =
    eqb (node_at s i).kind 0 && (bit_outside (node_at s i).lo (get_or vs i 0) || bit_outside (get_or vs i 0) (node_at s i).hi)

unfoldable pub values_said : List ℕ → List ℕ → Judged
values_said s vs = first_said (contradicted_at s vs) (node_count s) next first_said (zero_at s (evaluate (problem s) vs)) (root_count s)
