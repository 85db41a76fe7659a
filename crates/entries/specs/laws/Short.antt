-- A text has no more entries than bytes.
use Rattle.std.specs.Prelude.{ℕ, ◌≤◌, Bool, true, false, cond, List, [], ◌∷◌, length, take, drop, ◌==◌, slice_index, slice_index_or}
use Rattle.std.proofs.Common.{arith, length-drop}
use Rattle.texts.specs.Runs.{ascii, equal}
use Rattle.entries.specs.Tokens.{is_gap, piece_length, token_at, tokens}
use Rattle.entries.specs.Entries.{entry_size, entry_of, step_over, body, entries_in, entries}
use Rattle.entries.specs.laws.Pieces.{chop_short}

one_first : {A : Type 0} (t : Bool) (a : A) → length (cond t [] (a ∷ [])) ≤ 1
one_first true a = omega arith
one_first false a = omega arith

tokens_few : (text : List ℕ) → length (tokens text) ≤ length text
unfolding tokens token_at
tokens_few text = chop_short piece_length token_at (λ s. one_first (is_gap (slice_index s 0)) (take (piece_length s) s)) 0 text

entries_in_few : (ts : List (List ℕ)) → length (entries_in ts) ≤ length ts
unfolding entries_in
entries_in_few ts = chop_short step_over _ (λ us. one_first (entry_size us == 0) (entry_of us)) 0 ts

shorter : (t : Bool) (ts : List (List ℕ)) → length (cond t (drop 2 ts) (drop 1 ts)) ≤ length ts
shorter true ts = omega (arith, length-drop 2 ts)
shorter false ts = omega (arith, length-drop 1 ts)

body_few : (ts : List (List ℕ)) → length (body ts) ≤ length ts
unfolding body
body_few ts = shorter (equal (slice_index_or ts 1 []) (ascii "model")) ts

pub entries_few : (text : List ℕ) → length (entries text) ≤ length text
unfolding entries
entries_few text = omega (arith, tokens_few text, body_few (tokens text), entries_in_few (body (tokens text)))
