-- The contract of each public function determines its result and every lent place: any two that it allows are equal.
use Rattle.std.specs.Prelude.{Option, Result, ◌≡◌, ℕ, Bool, List, [], drop, slice_index_or}
use Rattle.std.proofs.Common.{sym, ◌∙◌}
use Rattle.entries.specs.declared.Places.{Places}
use Rattle.entries.specs.Tokens.{tokens}
use Rattle.entries.specs.Names.{inside, names, is_again, some}
use Rattle.entries.specs.Entries.{is_model}
use Rattle.entries.specs.inner.Places.{Lists, Digested, digests_up, place_in, EntryAt, item_said, Begins}

one : {A : Type 0} {v r s : A} → r ≡ v → s ≡ v → r ≡ s
one p q = p ∙ sym q

-- ---- the list of names

pub read_names_determined :
    (list froms tos froms' tos' froms'' tos'' : List ℕ) (r s : Option ℕ)
    → Lists list froms tos froms' tos' r
    → Lists list froms tos froms'' tos'' s
    → (froms' ≡ froms'') × (tos' ≡ tos'') × (r ≡ s)
read_names_determined list froms tos froms' tos' froms'' tos'' r s p q =
    (one p.1.froms_are q.1.froms_are, one p.1.tos_are q.1.tos_are, one p.0.count q.0.count)

pub read_digests_determined :
    (list digests digests' digests'' : List ℕ) (count : ℕ)
    → Digested list digests' count × (digests' ≡ digests_up list count digests)
    → Digested list digests'' count × (digests'' ≡ digests_up list count digests)
    → digests' ≡ digests''
read_digests_determined list digests digests' digests'' count p q = one p.1 q.1

pub position_of_determined :
    (list name : List ℕ) (r s : Option ℕ) → r ≡ place_in name (names list) → s ≡ place_in name (names list) → r ≡ s
position_of_determined list name r s = one

pub any_again_determined :
    (list : List ℕ) (count : ℕ) (r s : Bool) → r ≡ some (is_again (names list)) count → s ≡ some (is_again (names list)) count → r ≡ s
any_again_determined list count r s = one

-- ---- the entries of a text

pub body_start_determined : (text : List ℕ) (r s : ℕ) → Begins text r → Begins text s → r ≡ s
body_start_determined text r s p q = one p.exactly q.exactly

pub entry_at_determined : (text : List ℕ) (at : ℕ) (r s : Option Places) → EntryAt text at r → EntryAt text at s → r ≡ s
entry_at_determined text at r s p q = one p.exactly q.exactly

pub name_at_determined :
    (text : List ℕ) (at : ℕ) (r s : List ℕ)
    → r ≡ inside (slice_index_or (tokens (drop at text)) 0 [])
    → s ≡ inside (slice_index_or (tokens (drop at text)) 0 [])
    → r ≡ s
name_at_determined text at r s = one

pub item_at_determined :
    (text : List ℕ) (sort value w : ℕ) (r s : Result ℕ ℕ) → r ≡ item_said text sort value w → s ≡ item_said text sort value w → r ≡ s
item_at_determined text sort value w r s = one

pub is_model_determined : (text : List ℕ) (r s : Bool) → r ≡ is_model text → s ≡ is_model text → r ≡ s
is_model_determined text r s = one
