-- Document 02, "Frame bench": refusals of its call, "after the search's refusals of a whole call". Their place is 0.
use Rattle.std.specs.Prelude.{Bool, false, not, ◌||◌, List, [], ◌∷◌, ℕ, zero, suc, ◌*◌, eqb, leb, ltb, length, get_or}
use Rattle.problem.specs.Layout.{node_count, node_at}
use Rattle.problem.specs.Refusals.{Checked, first_of, ◌then◌, first_below}
use Rattle.batches.specs.Batch.{batch_refusals}

-- "keeps up to 64 solutions"
abbrev pub most : ℕ
most = 64

-- 23 "for no name or more than 8"
unfoldable pub count_fault : List ℕ → Checked
count_fault names = first_of 0 ((23, eqb (length names) 0 || ltb 8 (length names)) ∷ [])

-- "a name that is no variable": an id of N or more, or of another kind
unfoldable pub no_variable : List ℕ → ℕ → Bool
no_variable s id = leb (node_count s) id || not (eqb (node_at s id).kind 0)

-- whether an id stands among the first k names
unfoldable pub named_before : List ℕ → ℕ → ℕ → Bool
named_before names zero id = false
named_before names (suc k) id = named_before names k id || eqb (get_or names k 0) id

-- 24 "for a name that is no variable or is given twice", of the name at k
unfoldable pub name_fault : List ℕ → List ℕ → ℕ → Checked
name_fault s names k = first_of 0 ((24, no_variable s (get_or names k 0) || named_before names k (get_or names k 0)) ∷ [])

-- 26 "for fewer than 64 x N places lent to keep in"
unfoldable pub keep_fault : List ℕ → List ℕ → Checked
keep_fault s kept = first_of 0 ((26, ltb (length kept) (most * node_count s)) ∷ [])

-- all of them, in order
unfoldable pub gather_refusals : List ℕ → ℕ → List ℕ → List ℕ → List ℕ → List ℕ → List ℕ → List ℕ → List ℕ → Checked
gather_refusals s starts values tape lengths budgets names kept answers =
    batch_refusals s starts values tape lengths budgets answers
    then count_fault names
    then first_below (name_fault s names) (length names)
    then keep_fault s kept
