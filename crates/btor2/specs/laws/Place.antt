-- What is added for a line, in the parts that code adds it in.
use Rattle.std.specs.Prelude.{◌≡◌, Bool, false, ◌||◌, List, ℕ, ◌+◌, ◌*◌, ◌≤◌, ltb, take, Ok}
use Rattle.std.proofs.Common.{sym, ◌∙◌, ltb-false}
use Rattle.std.proofs.lemmas.List.Edits.{sets}
use Rattle.lines.specs.declared.table.Makes.{Makes}
use Rattle.spelling.specs.declared.line.Line.{Line}
use Rattle.btor2.specs.declared.take.Counts.{Counts}
use Rattle.lines.specs.Words.{shape, word_of}
use Rattle.spelling.specs.Bytes.{all_nodes}
use Rattle.spelling.specs.inner.Spelled.{count_read, new_read, standing_for}
use Rattle.btor2.specs.inner.Taking.{overfull, roots_after, adds_name, NamedIf, RootIf, standing, roots_with, Placed, put}
use Rattle.btor2.specs.laws.Passed.{or_both}

pub room_left : (room nodes roots : ℕ) (b : Bool) → b ≡ overfull room nodes roots → b ≡ false
    → (nodes ≤ 1024) × (roots ≤ 256) × (9 + 24 * nodes + 2 * roots ≤ room)
unfolding overfull
room_left room nodes roots b e f =
    let p = or_both (ltb 1024 nodes || ltb 256 roots) (ltb room (9 + 24 * nodes + 2 * roots)) (sym e ∙ f) in
    let q = or_both (ltb 1024 nodes) (ltb 256 roots) p.0 in
    (ltb-false 1024 nodes q.0, ltb-false 256 roots q.1, ltb-false room _ p.1)

-- the keyword's makes m, the count, the node and the roots that code found for a line
module _ (x : Line) (n : Counts) (room : ℕ) where
  pub place_judged : (rooted : List ℕ) (m : Makes) (total node roots : ℕ) (b : Bool)
      → m ≡ (shape (word_of x.word)).makes
      → total ≡ count_read x
      → node ≡ standing_for x n.nodes total
      → roots ≡ roots_after m (take n.roots rooted) n.roots node
      → b ≡ overfull room (n.nodes + total) roots
      → {t : Bool}
      → b ≡ t
      → overfull room (n.nodes + count_read x) (roots_with x n rooted) ≡ t
  place_judged rooted m total node roots b em et en er eb {t} f =
      rw (← et, ← em, ← en, ← er) (sym eb ∙ f)

  pub place_put : (bytes ids places rooted bytes' ids' places' rooted' : List ℕ) (m : Makes) (total node roots names : ℕ) (b : Bool)
      → m ≡ (shape (word_of x.word)).makes
      → total ≡ count_read x
      → node ≡ standing_for x n.nodes total
      → roots ≡ roots_after m (take n.roots rooted) n.roots node
      → b ≡ overfull room (n.nodes + total) roots
      → b ≡ false
      → (x.width ≤ 64 → bytes' ≡ sets bytes (24 * n.nodes) (all_nodes (new_read x n.nodes)))
      → NamedIf (adds_name m total n.names) ids places n.names x.id node ids' places' names
      → RootIf n.roots roots node rooted rooted'
      → Placed x n room bytes ids places rooted bytes' ids' places' rooted'
      (Ok (record { last = x.id; nodes = n.nodes + total; roots = roots; names = names }))
  place_put bytes ids places rooted bytes' ids' places' rooted' m total node roots names b em et en er eb f w N R =
      let j = place_judged rooted m total node roots b em et en er eb f in
      let i : node ≡ standing x n = en ∙ rw et in
      let k : roots ≡ roots_with x n rooted = er ∙ rw (em, i) in
      rw (et, k) (put j w (rw (em, et, i) at N) (rw (k, i) at R))
