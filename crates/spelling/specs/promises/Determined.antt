-- The contract of each public function determines its result: any two results that it allows are equal.
use Rattle.std.specs.Prelude.{◌≡◌, Bool, true, List, ℕ, ◌≤◌, ◌<◌, get_or, take}
use Rattle.std.proofs.Common.{sym, ◌∙◌}
use Rattle.std.proofs.lemmas.List.Edits.{sets}
use Rattle.problem.specs.declared.layout.Node.{Node}
use Rattle.lines.specs.Lines.{Token}
use Rattle.lines.specs.Words.{word_of, shape}
use Rattle.lines.specs.Format.{is_constant}
use Rattle.spelling.specs.declared.constants.Literal.{Literal}
use Rattle.spelling.specs.declared.line.Line.{Line}
use Rattle.spelling.specs.Nodes.{invert, is_root}
use Rattle.spelling.specs.Bytes.{node_bytes}
use Rattle.spelling.specs.inner.Spelled.{constant_fits, count_read, new_read, standing_for, fits_read}
use Rattle.spelling.specs.inner.Constants.{Literally}
use Rattle.spelling.specs.inner.Written.{Wrote}

one : {A : Type 0} {v r s : A} → r ≡ v → s ≡ v → r ≡ s
one p q = p ∙ sym q

-- of a line that has a constant of the format which fits a width of 1 to 64: whether it fits, and its value
pub literal_of_determined : (k w : ℕ) (t : Token) (r s : Literal) → 4 < k → 0 < (shape (word_of k)).base → 1 ≤ w → w ≤ 64
    → is_constant (shape (word_of k)).base t ≡ true
    → constant_fits (shape (word_of k)).base w t ≡ true
    → Literally k w t r
    → Literally k w t s
    → (r.fits ≡ s.fits) × (r.value ≡ s.value)
literal_of_determined k w t r s a b l h i f L M =
    (one (L.fits_is b l h) (M.fits_is b l h), one (L.value_is.constant_is a b l h f i) (M.value_is.constant_is a b l h f i))

pub line_fits_determined : (x : Line) (r s : Bool) → r ≡ fits_read x → s ≡ fits_read x → r ≡ s
line_fits_determined x r s = one

pub new_count_determined : (x : Line) (r s : ℕ) → r ≡ count_read x → s ≡ count_read x → r ≡ s
new_count_determined x r s = one

-- of a node that the line has, at a width of at most 64
pub new_node_determined : (x : Line) (n j : ℕ) (r s : Node) → x.width ≤ 64 → j < count_read x
    → (x.width ≤ 64 → j < count_read x → r ≡ get_or (new_read x n) j (invert 0 0))
    → (x.width ≤ 64 → j < count_read x → s ≡ get_or (new_read x n) j (invert 0 0))
    → r ≡ s
new_node_determined x n j r s w h p q = one (p w h) (q w h)

pub node_for_determined : (x : Line) (n total r s : ℕ) → r ≡ standing_for x n total → s ≡ standing_for x n total → r ≡ s
node_for_determined x n total r s = one

pub put_node_determined : (out : List ℕ) (at : ℕ) (node : Node) (r s : List ℕ) → r ≡ sets out at (node_bytes node)
    → s ≡ sets out at (node_bytes node)
    → r ≡ s
put_node_determined out at node r s = one

pub write_all_determined : (out bytes rooted : List ℕ) (nodes roots : ℕ) (after after' : List ℕ) (r s : ℕ)
    → Wrote out bytes rooted nodes roots after r
    → Wrote out bytes rooted nodes roots after' s
    → (after ≡ after') × (r ≡ s)
write_all_determined out bytes rooted nodes roots after after' r s W X = (one W.written X.written, one W.count X.count)

pub is_root_determined : (rooted : List ℕ) (roots node : ℕ) (r s : Bool) → r ≡ is_root node (take roots rooted)
    → s ≡ is_root node (take roots rooted)
    → r ≡ s
is_root_determined rooted roots node r s = one
