-- What an accepted problem's nodes and roots are, in the words of its view.
use Rattle.std.proofs.Common.{◌≡◌, refl, ℕ, ◌+◌, ◌*◌, ◌<◌, ◌≤◌, List, length, arith}
use Rattle.operators.specs.Table.{kind_count}
use Rattle.problem.specs.Layout.{node_count, root_count, node_at, width_at, root_at}
use Rattle.problem.specs.Refusals.{Accepted, checked}
use Rattle.problem.specs.laws.Facts.{accepted_facts, node_inside}

module _ (s : List ℕ) (h : checked s ≡ Accepted) where
  pub node_fits : (i : ℕ) → i < node_count s → 9 + 24 * i + 24 ≤ length s
  node_fits i l = node_inside (accepted_facts s h) i l

  pub kind_known : (i : ℕ) → i < node_count s → (node_at s i).kind < kind_count
  kind_known i l = ((accepted_facts s h).node i l).kind_known

  pub width_some : (i : ℕ) → i < node_count s → 1 ≤ (node_at s i).width
  width_some i l = omega (arith, ((accepted_facts s h).node i l).width_some)

  pub width_most : (i : ℕ) → i < node_count s → (node_at s i).width ≤ 64
  width_most i l = ((accepted_facts s h).node i l).width_most

  pub root_inside : (j : ℕ) → j < root_count s → root_at s j < node_count s
  root_inside j l = (accepted_facts s h).root_below j l

pub width_is : (s : List ℕ) (i : ℕ) → width_at s i ≡ (node_at s i).width
unfolding width_at
width_is s i = refl
