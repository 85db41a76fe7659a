-- What an accepted call gives, for every file and every lent places: request R-12's promises.
use Rattle.std.specs.Prelude.{◌≡◌, refl, List, ◌++◌, ◌↔◌, ℕ, ◌≤◌, ◌<◌, length, drop}
use Rattle.std.proofs.Math.Path.{sym, ap}
use Rattle.std.proofs.Common.{◌∙◌, arith}
use Rattle.std.proofs.Math.ListN.{get_or, get_or-append}
use Rattle.std.proofs.Math.Decide.{dec_lt}
use Rattle.problem.specs.Layout.{node_count, root_count, node_at, root_at}
use Rattle.problem.specs.Refusals.{Checked, Accepted, checked}
use Rattle.problem.specs.laws.Facts.{facts_accepted, accepted_facts}
use Rattle.problem.specs.laws.First.{refused_not}
use Rattle.mending.specs.Order.{operands_of, field, old, new}
use Rattle.mending.specs.Mended.{mended, old_ids}
use Rattle.mending.specs.Refusals.{mend_fault, Mends}
use Rattle.mending.specs.laws.Order.{new_beyond, old_lt, new_lt, old_new, new_old, operand_before}
use Rattle.mending.specs.inner.Order.{Inside}
use Rattle.mending.specs.promises.Placing.{Next, order_only, old_next}
use Rattle.mending.specs.laws.Mended.{moved_node, mended_nodes, mended_roots, mended_node, mended_root}
use Rattle.mending.specs.laws.Joined.{singles_length, single_at}
use Rattle.mending.specs.Solutions.{Solution, carried, returned}
use Rattle.mending.specs.laws.Solutions.{same_solutions}
use Rattle.mending.specs.laws.Accepted.{Mendable, mendable, ordered, same_bytes, in_order_accepted}
use Rattle.mending.specs.laws.InOrder.{in_order_old}

module _ (s : List ℕ) (room rows : ℕ) (accepted : mend_fault s room rows ≡ Accepted) where
  M : Mendable s
  M = mendable s room rows accepted

  few : node_count s ≤ 1024
  few = M.header.nodes

  -- the mended file is accepted by the problem check
  pub mended_accepted : checked (mended s) ≡ Accepted
  mended_accepted = facts_accepted (mended s) M.right

  -- "always placing the lowest old id that is ready": the map is such an order, and the only one
  pub placed_lowest : (k : ℕ) → k < node_count s → Next s (old s) k
  placed_lowest = old_next s few M.inside M.all

  pub placed_only : (f : ℕ → ℕ) → ((k : ℕ) → k < node_count s → Next s f k) → (k : ℕ) → k < node_count s → f k ≡ old s k
  placed_only = order_only s few M.inside M.all

  -- the map is a permutation, `new` its inverse
  pub map_below : (k : ℕ) → k < node_count s → old s k < node_count s
  map_below = old_lt s few M.all

  pub map_inverse : (k : ℕ) → k < node_count s → new s (old s k) ≡ k
  map_inverse = new_old s few M.all

  pub map_onto : (i : ℕ) → i < node_count s → (new s i < node_count s) × (old s (new s i) ≡ i)
  map_onto i h = (new_lt s few M.all i h, old_new s few M.all i h)

  -- "operands come first"
  pub operands_first :
      (k p : ℕ) → k < node_count s → p < operands_of (node_at s (old s k)) → new s (field (node_at s (old s k)) p) < k
  unfolding Inside
  operands_first k p h l = operand_before s few M.all k p h l (M.inside (old s k) (map_below k h) p l)

  root_inside : (j : ℕ) → j < root_count s → root_at s j < node_count s
  root_inside j h =
      let b = M.right.root_below j (rw (mended_roots s M.header few M.all) h) in
      let e = mended_root s M.header few M.all j h in
      let n = mended_nodes s M.header few M.all in
      elim (dec_lt (root_at s j) (node_count s)) [
        | yes l ↦ l
        | no x ↦ absurd (omega (arith, new_beyond s (root_at s j) (omega arith)))
      ]

  -- "variable for variable": new node k is old node `old s k`, with its operands renumbered
  pub node_carried : (k : ℕ) → k < node_count s → node_at (mended s) k ≡ moved_node s (node_at s (old s k))
  node_carried = mended_node s M.header few M.all

  -- "The result has the same solutions": values vs of the file and us of the mended file, where each new node has its old node's value
  pub solutions_same :
      (vs us : List ℕ)
      → ((k : ℕ) → k < node_count s → get_or us k 0 ≡ get_or vs (old s k) 0)
      → Solution s vs ↔ Solution (mended s) us
  solutions_same vs us e = same_solutions s M.header M.inside M.all vs us e root_inside

  -- and each solution has its like: carried along the map, and carried back
  pub solution_carried : (vs : List ℕ) → Solution s vs → Solution (mended s) (carried s vs)
  unfolding carried
  solution_carried vs = (solutions_same vs (carried s vs) (λ k h. single_at (λ j. get_or vs (old s j) 0) (node_count s) k h)).0

  pub solution_returned : (us : List ℕ) → Solution (mended s) us → Solution s (returned s us)
  unfolding returned
  solution_returned us =
      (solutions_same (returned s us) us
      (λ k h.
      sym (single_at (λ i. get_or us (new s i) 0) (node_count s) (old s k) (map_below k h) ∙ ap (λ (i : ℕ). get_or us i 0) (map_inverse k h)))
      ).1

-- "A file in order comes back byte for byte": any that the problem check accepts, of bytes, where there is room
pub in_order :
    (s : List ℕ) (room rows : ℕ)
    → checked s ≡ Accepted
    → ((i : ℕ) → get_or s i 0 < 256)
    → length s ≤ room
    → node_count s ≤ rows
    → (mend_fault s room rows ≡ Accepted) × (mended s ≡ s) × ((k : ℕ) → k < node_count s → old s k ≡ k)
in_order s room rows ok small a b =
    let F = accepted_facts s ok in
    (in_order_accepted s ok small room rows a b, same_bytes s ok small, in_order_old s F.header.nodes (ordered s F))

-- so a call on such a file hands it back, and the identity with it
pub comes_back :
    {s out map out' map' : List ℕ} {r : Checked}
    → Mends s out map out' map' r
    → checked s ≡ Accepted
    → ((i : ℕ) → get_or s i 0 < 256)
    → length s ≤ length out
    → node_count s ≤ length map
    → (r ≡ Accepted) × (out' ≡ s ++ drop (length s) out) × ((k : ℕ) → k < node_count s → get_or map' k 0 ≡ k)
unfolding old_ids
comes_back {s} {out} {map} (Mends.refuses q e) ok small a b =
    absurd (refused_not (sym e ∙ (in_order s (length out) (length map) ok small a b).0))
comes_back {s} {out} {map} (Mends.mends e) ok small a b =
    let i = in_order s (length out) (length map) ok small a b in (
      refl,
      ap (λ (l : List ℕ). l ++ drop (length s) out) i.1,
      λ k h.
          get_or-append (old_ids s) (drop (node_count s) map) 0 k (omega (arith, singles_length (old s) (node_count s)))
          ∙ single_at (old s) (node_count s) k h
          ∙ i.2 k h,
    )
