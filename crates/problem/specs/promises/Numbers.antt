-- The paper's number and place of the problem check's answer: 0 for accepted, else 1 to 13, 16 or 20, and the place that the table names.
use Rattle.std.specs.Prelude.{◌≡◌, Bool, true, false, ◌&&◌, ◌||◌, List, ◌⊎◌, ◌↔◌, ℕ, ◌≤◌, ◌<◌, leb, eqb}
use Rattle.std.proofs.Math.Path.{refl}
use Rattle.std.proofs.Common.{ap, inl, inr, leb-true, eqb-true}
use Rattle.std.proofs.lemmas.Bool.{false≢true}
use Rattle.std.proofs.Math.Logic.{⊎_elim}
use native.Mathlib.Omega.{arith}
use Rattle.problem.specs.Layout.{node_count, root_count}
use Rattle.problem.specs.Refusals.{Checked, Accepted, refusal, number_of, place_of, header_lines, header_fault, node_lines, fault_of, node_fault, root_lines, root_fault, repeat_lines, repeat_fault, checked}
use Rattle.problem.specs.laws.First.{then_each, first_of_each, first_below_each}

-- "A refusal names its place (node id for 7 to 12 .., root position for 13, else 0)" and, with 02, the node id for 20 and "the later
-- position" for 16, of an answer r to a problem with so many nodes and roots; "none is given otherwise": the number is 0 exactly if the
-- problem is accepted
pub record Numbered (nodes roots : ℕ) (r : Checked) : Type 0 where
  pub known : (number_of r ≤ 13) ⊎ ((number_of r ≡ 16) ⊎ (number_of r ≡ 20))
  pub none : (number_of r ≡ 0) ↔ (r ≡ Accepted)
  pub at_header : number_of r ≤ 6 → place_of r ≡ 0
  pub at_node : 7 ≤ number_of r → number_of r ≤ 12 → place_of r < nodes
  pub at_division : number_of r ≡ 20 → place_of r < nodes
  pub at_root : number_of r ≡ 13 → place_of r < roots
  pub at_repeat : number_of r ≡ 16 → place_of r < roots

acceptance : (nodes roots : ℕ) → Numbered nodes roots Accepted
acceptance nodes roots =
    record {
      known = inl (omega arith);
      none = (λ e. refl, λ e. refl);
      at_header = λ l. refl;
      at_node = λ l m. omega arith;
      at_division = λ e. omega arith;
      at_root = λ e. omega arith;
      at_repeat = λ e. omega arith;
    }

-- the numbers from a to b
abbrev among : ℕ → ℕ → ℕ → Bool
among a b k = leb a k && leb k b

among_true : (a b k : ℕ) → among a b k ≡ true → (a ≤ k) × (k ≤ b)
among_true a b k t = by (leb a k) (leb k b) refl refl t
  where
    by : (x y : Bool) → leb a k ≡ x → leb k b ≡ y → (x && y) ≡ true → (a ≤ k) × (k ≤ b)
    by true true e f h = (leb-true a k e, leb-true k b f)
    by true false e f h = absurd (false≢true h)
    by false y e f h = absurd (false≢true h)

-- the numbers of a node's lines
abbrev is_of_node : ℕ → Bool
is_of_node k = among 7 12 k || eqb k 20

of_node : (k : ℕ) → is_of_node k ≡ true → ((7 ≤ k) × (k ≤ 12)) ⊎ (k ≡ 20)
of_node k t = by (among 7 12 k) refl t
  where
    by : (x : Bool) → among 7 12 k ≡ x → (x || eqb k 20) ≡ true → ((7 ≤ k) × (k ≤ 12)) ⊎ (k ≡ 20)
    by true e h = inl (among_true 7 12 k e)
    by false e h = inr (eqb-true k 20 h)

-- of the bytes s
module _ (s : List ℕ) where
  abbrev P : Checked → Type 0
  P = Numbered (node_count s) (root_count s)

  accepted : P Accepted
  accepted = acceptance (node_count s) (root_count s)

  -- a refusal by line k at place p
  by_line :
      (k p : ℕ)
      → 0 < k
      → (k ≤ 13) ⊎ ((k ≡ 16) ⊎ (k ≡ 20))
      → (k ≤ 6 → p ≡ 0)
      → (7 ≤ k → k ≤ 12 → p < node_count s)
      → (k ≡ 20 → p < node_count s)
      → (k ≡ 13 → p < root_count s)
      → (k ≡ 16 → p < root_count s)
      → P (refusal k p)
  by_line k p h g a b d c r =
      record {
        known = g;
        none = (λ e. absurd (omega arith), ap number_of);
        at_header = a;
        at_node = b;
        at_division = d;
        at_root = c;
        at_repeat = r;
      }

  header : P (header_fault s)
  unfolding header_fault header_lines
  header =
      first_of_each P 0 (among 1 6) _ refl
      (λ k t. let b = among_true 1 6 k t in
      by_line k 0 b.0 (inl (omega arith)) (λ l. refl) (λ l m. omega arith) (λ e. omega arith) (λ e. omega arith) (λ e. omega arith)) accepted

  node : (i : ℕ) → i < node_count s → P (node_fault s i)
  unfolding node_fault fault_of node_lines
  node i h =
      first_of_each P i is_of_node _ refl
      (λ k t. ⊎_elim (λ (l : (7 ≤ k) × (k ≤ 12)). by_line k i (omega arith) (inl (omega arith)) (λ m. omega arith) (λ l m. h) (λ e. h) (λ e. omega arith) (λ e. omega arith))
      (λ (e : k ≡ 20). by_line k i (omega arith) (inr (inr e)) (λ m. omega arith) (λ l m. h) (λ e. h) (λ d. omega arith) (λ d. omega arith)) (of_node k t)) accepted

  root : (j : ℕ) → j < root_count s → P (root_fault s j)
  unfolding root_fault root_lines
  root j h =
      first_of_each P j (among 13 13) _ refl
      (λ k t. let l = among_true 13 13 k t in
      by_line k j (omega arith) (inl l.1) (λ m. omega arith) (λ m n. omega arith) (λ e. omega arith) (λ e. h) (λ e. omega arith)) accepted

  repeat : (j : ℕ) → j < root_count s → P (repeat_fault s j)
  unfolding repeat_fault repeat_lines
  repeat j h =
      first_of_each P j (among 16 16) _ refl
      (λ k t. let l = among_true 16 16 k t in
      let e : k ≡ 16 = omega arith in
      by_line k j (omega arith) (inr (inl e)) (λ m. omega arith) (λ m n. omega arith) (λ e. omega arith) (λ e. omega arith) (λ e. h)) accepted

  pub numbered : Numbered (node_count s) (root_count s) (checked s)
  unfolding checked
  numbered =
      then_each P _ _ header
      (then_each P _ _ (first_below_each (node_fault s) P accepted (node_count s) node)
      (then_each P _ _ (first_below_each (root_fault s) P accepted (root_count s) root)
      (first_below_each (repeat_fault s) P accepted (root_count s) repeat)))
