-- What the inner functions ask and answer, in terms of the definitions: the places of tokens, names and entries. (Not needed to
-- read what is promised.)
use Rattle.std.specs.Prelude.{◌≡◌, ℕ, zero, suc, ◌+◌, ◌-◌, ◌*◌, ◌%◌, ◌^◌, ◌<◌, ◌≤◌, min, Bool, true, false, cond, List, [], ◌∷◌, ◌++◌, length, drop, ◌==◌, ◌≢◌, nat_le, nat_lt, slice_index, slice_index_or, slice_range, slice_set, fold, Option, Some, None, Result, Ok, Err}
use Rattle.texts.specs.Runs.{ascii, equal}
use Rattle.texts.specs.Numbers.{numbered}
use Rattle.entries.specs.declared.names.NameLine.{NameLine}
use Rattle.entries.specs.declared.Slot.{Slot}
use Rattle.entries.specs.declared.Places.{Places}
use Rattle.entries.specs.Tokens.{piece_length, is_gap, tokens}
use Rattle.entries.specs.Names.{is_barred, line_length, names, position}
use Rattle.entries.specs.Entries.{Entry, width_said, heading, literal, decimal, matches, entry_size, misfits, value_width, value_said, body, left_in}

-- ---- tokens.rt

-- how many bytes of white space and comments a text begins with; its first k bytes belong to one that has begun
unfoldable pub gap_length : ℕ → List ℕ → ℕ
gap_length k [] = 0
gap_length zero (b ∷ s) = cond (is_gap b) (suc (gap_length (piece_length (b ∷ s) - 1) s)) 0
gap_length (suc k) (b ∷ s) = suc (gap_length k s)

-- the place of the next token, the place after a piece, and the place after n tokens
unfoldable pub next_place : List ℕ → ℕ → ℕ
next_place text at = at + gap_length 0 (drop at text)

abbrev pub past_piece : List ℕ → ℕ → ℕ
past_piece text at = min (at + piece_length (drop at text)) (length text)

unfoldable pub place_after : List ℕ → ℕ → ℕ → ℕ
place_after text at zero = at
place_after text at (suc n) = past_piece text (next_place text (place_after text at n))

-- from `at` on, r is the place where the next token begins, or the end
pub record Skipped (text : List ℕ) (at r : ℕ) : Type 0 where
  pub onward : at ≤ r
  pub inside : r ≤ length text
  pub same : tokens (drop r text) ≡ tokens (drop at text)
  pub stops : r < length text → is_gap (slice_index text r) ≡ false
  pub exactly : r ≡ next_place text at

-- after n tokens from `at` on, r is the place; with a token there, it is past one
pub record After (text : List ℕ) (at n r : ℕ) : Type 0 where
  pub onward : at ≤ r
  pub inside : r ≤ length text
  pub left : tokens (drop r text) ≡ drop n (tokens (drop at text))
  pub exactly : r ≡ place_after text at n

-- ---- names.rt

-- a part of a text, from one place up to another
pub record Within (text : List ℕ) (from to : ℕ) : Type 0 where
  pub ordered : from ≤ to
  pub inside : to ≤ length text

unfoldable pub part : List ℕ → ℕ → ℕ → List ℕ
part text from to = slice_range text from to

-- of a line that begins at one place and ends at another: where its name stands, and where the next line begins
abbrev pub line_between : List ℕ → ℕ → ℕ → NameLine
line_between list at end =
    cond (is_barred (slice_range list at end))
    (record { from = at + 1; to = end - 1; next = min (end + 1) (length list) })
    (record { from = at; to = end; next = min (end + 1) (length list) })

unfoldable pub line_from : List ℕ → ℕ → NameLine
line_from list at = line_between list at (at + line_length (drop at list))

-- where line k begins
unfoldable pub line_start : List ℕ → ℕ → ℕ
line_start list zero = 0
line_start list (suc k) = (line_from list (line_start list k)).next

-- a line that begins at `at`
pub record OnLine (list : List ℕ) (at : ℕ) (r : NameLine) : Type 0 where
  pub exactly : r ≡ line_from list at
  pub within : Within list r.from r.to
  pub onward : at < r.next
  pub inside : r.next ≤ length list
  pub told : names (drop at list) ≡ part list r.from r.to ∷ names (drop r.next list)

-- name k of the list stands from one place up to another
pub record NamedAt (list : List ℕ) (k from to : ℕ) : Type 0 where
  pub within : Within list from to
  pub name : part list from to ≡ slice_index_or (names list) k []

-- the first k names stand where two lists of places say
abbrev pub Placed : List ℕ → List ℕ → List ℕ → ℕ → Type 0
Placed list froms tos k = (j : ℕ) → j < k → NamedAt list j (slice_index froms j) (slice_index tos j)

-- how many names there are, where there are at most 1,024
abbrev pub counted : ℕ → Option ℕ
counted n = cond (nat_le n 1024) (Some n) None

-- the places of a list's names in lists of 1,024, and how many there are
pub record Listed (list froms tos : List ℕ) (r : Option ℕ) : Type 0 where
  pub froms_room : length froms ≡ 1024
  pub tos_room : length tos ≡ 1024
  pub count : r ≡ counted (length (names list))
  pub placed : (k : ℕ) → r ≡ Some k → Placed list froms tos k

-- the first k of a list written over, each by its number
unfoldable pub filled : (ℕ → ℕ) → ℕ → List ℕ → List ℕ
filled f zero l = l
filled f (suc k) l = slice_set (filled f k l) k (f k)

-- where the first k names begin and end; the other places are as they were
unfoldable pub froms_up : List ℕ → ℕ → List ℕ → List ℕ
froms_up list k froms = filled (λ j. (line_from list (line_start list j)).from) k froms

unfoldable pub tos_up : List ℕ → ℕ → List ℕ → List ℕ
tos_up list k tos = filled (λ j. (line_from list (line_start list j)).to) k tos

-- the two lists before, and after k names were read
pub record Written (list froms tos froms' tos' : List ℕ) (k : ℕ) : Type 0 where
  pub froms_are : froms' ≡ froms_up list k froms
  pub tos_are : tos' ≡ tos_up list k tos

-- the two lists before, and after all names were read
abbrev pub Lists : List ℕ → List ℕ → List ℕ → List ℕ → List ℕ → Option ℕ → Type 0
Lists list froms tos froms' tos' r =
    Listed list froms' tos' r × Written list froms tos froms' tos' (min (length (names list)) 1024)

-- all names of a list, and where they stand
pub record Named (list froms tos : List ℕ) (count : ℕ) : Type 0 where
  pub all : count ≡ length (names list)
  pub froms_room : count ≤ length froms
  pub tos_room : count ≤ length tos
  pub placed : Placed list froms tos count

-- a number that is the same of names that are the same, in 64 bits
abbrev pub digest_more : ℕ → ℕ → ℕ
digest_more d b = (d * 11400714819323198485 % 2 ^ 64 + b) % 2 ^ 64

unfoldable pub digest_from : ℕ → List ℕ → ℕ
digest_from d [] = d
digest_from d (b ∷ s) = digest_from (digest_more d b) s

unfoldable pub digest_of : List ℕ → ℕ
digest_of s = fold digest_more 0 s

-- the digests of the first k names of a list
abbrev pub Digested : List ℕ → List ℕ → ℕ → Type 0
Digested list digests k = (j : ℕ) → j < k → slice_index digests j ≡ digest_of (slice_index_or (names list) j [])

-- the first k digests written; the other places are as they were
unfoldable pub digests_up : List ℕ → ℕ → List ℕ → List ℕ
digests_up list k digests = filled (λ j. digest_of (slice_index_or (names list) j [])) k digests

-- all names of a list, where they stand, and their digests
pub record Indexed (list froms tos digests : List ℕ) (count : ℕ) : Type 0 where
  pub named : Named list froms tos count
  pub room : count ≤ length digests
  pub digested : Digested list digests count

-- where a name stands first in a list of names, if it does
unfoldable pub place_in : List ℕ → List (List ℕ) → Option ℕ
place_in n ns = cond (nat_lt (position n ns) (length ns)) (Some (position n ns)) None

-- ---- lib.rt

-- the slots of an entry, as code has them: those of `heading`, `literal` and `decimal`
unfoldable pub form : List Slot
form = heading ++ literal ++ decimal

-- slots first to last of it, at the tokens from a place on
abbrev pub matches_part : List ℕ → ℕ → ℕ → ℕ → Bool
matches_part text at first last = matches (slice_range form first last) (tokens (drop at text))

-- what a walk over slots first to last from a place on tells
abbrev pub PassedBy : List ℕ → ℕ → ℕ → ℕ → Option ℕ → Type 0
PassedBy text at first last (Some p) = (matches_part text at first last ≡ true) × After text at (last - first) p
PassedBy text at first last None = matches_part text at first last ≡ false

-- the places of the parts of an entry that begins at `at`
pub record Parts (text : List ℕ) (at : ℕ) (r : Places) : Type 0 where
  pub name : After text at 2 r.name
  pub sort : After text at 8 r.sort
  pub value : After text at 10 r.value
  pub end : After text at r.size r.end

-- the places of such an entry, where there is one
abbrev pub places_of : List ℕ → ℕ → ℕ → Places
places_of text at size = record {
  name = place_after text at 2;
  sort = place_after text at 8;
  value = place_after text at 10;
  end = place_after text at size;
  size = size;
}

unfoldable pub places_at : List ℕ → ℕ → ℕ → Option Places
places_at text at size = cond (size == 0) None (Some (places_of text at size))

-- an entry that begins at `at`
pub record Found (text : List ℕ) (at : ℕ) (p : Places) : Type 0 where
  pub size : p.size ≡ entry_size (tokens (drop at text))
  pub some : (p.size ≢ 0)
  pub parts : Parts text at p

pub record EntryAt (text : List ℕ) (at : ℕ) (r : Option Places) : Type 0 where
  pub exactly : r ≡ places_at text at (entry_size (tokens (drop at text)))
  pub none : r ≡ None → 0 ≡ entry_size (tokens (drop at text))
  pub found : (p : Places) → r ≡ Some p → Found text at p

-- whether a number, as far as 64 bits tell it, is too large for a width
abbrev pub overflows : Option ℕ → ℕ → Bool
overflows (Some v) w = nat_le (2 ^ w) v
overflows None w = true

-- the number itself, or 0 where 64 bits do not hold it
abbrev pub small : Option ℕ → ℕ
small (Some v) = v
small None = 0

-- a value as 64 bits tell it: itself, or 0 where they do not hold it
abbrev pub word_of : Entry → ℕ
word_of e = small (numbered e.value)

-- what an entry says to a variable of so many bits: its word, by `Err` where the entry misfits
abbrev pub told_to : ℕ → Entry → Result ℕ ℕ
told_to w e = cond (misfits w e) (Err (word_of e)) (Ok (word_of e))

-- the word itself, whether it fits or not
abbrev pub word_in : Result ℕ ℕ → ℕ
word_in (Ok v) = v
word_in (Err v) = v

-- the same to a variable that takes only what fits it: its value, unless it misfits
abbrev pub word_for : ℕ → Entry → Option ℕ
word_for w e = cond (misfits w e) None (Some e.value)

-- what a sort's width and a value at two places say: an entry, its name aside
abbrev pub sort_said : List ℕ → ℕ → ℕ
sort_said text sort = width_said (slice_index_or (tokens (drop sort text)) 0 [])

abbrev pub entry_said : List ℕ → ℕ → ℕ → Entry
entry_said text sort value =
    record { name = []; sort = sort_said text sort; width = value_width (tokens (drop value text)); value = value_said (tokens (drop value text)) }

-- and what these say to a variable of so many bits
unfoldable pub item_said : List ℕ → ℕ → ℕ → ℕ → Result ℕ ℕ
item_said text sort value w = told_to w (entry_said text sort value)

-- where the entries begin, and where they end
pub record Begins (text : List ℕ) (r : ℕ) : Type 0 where
  pub inside : r ≤ length text
  pub left : tokens (drop r text) ≡ body (tokens text)
  pub exactly : r ≡ cond (equal (slice_index_or (tokens text) 1 []) (ascii "model")) (place_after text 0 2) (place_after text 0 1)

pub record Ends (text : List ℕ) (r : ℕ) : Type 0 where
  pub inside : r ≤ length text
  pub left : tokens (drop r text) ≡ left_in (body (tokens text))
