-- Laws of the variables' ids.
use Rattle.std.specs.Prelude.{Option, Some, ◌≡◌, refl, Bool, true, false, cond, ℕ, zero, suc, ◌+◌, ◌≤◌, ◌<◌, eqb, set}
use Rattle.std.proofs.Math.Path.{sym, ap}
use Rattle.std.proofs.Common.{◌∙◌, arith, not-suc-le-zero, length-append, take-suc-set, get_or-take}
use mathlib.Core.List.{List, [], ◌∷◌, ◌++◌}
use Rattle.std.proofs.Math.Numerals.{add-one}
use Rattle.std.proofs.Math.Decide.{dec_lt}
use Rattle.std.proofs.Math.ListN.{length, get_or, length-set, get_or-append}
use Rattle.std.proofs.lemmas.List.{length-replicate}
use Rattle.std.proofs.Math.Seq.{length-take-le, get_or-append_seam}
use borrow.Author.Tests.{eq-eqb, ne_eqb}
use Rattle.entries.specs.Names.{names}
use Rattle.entries.specs.inner.Places.{place_in}
use Rattle.entries.specs.laws.Names.{place_is}
use Rattle.problem.specs.Layout.{node_count, node_at}
use Rattle.models.specs.Judgement.{variables_below, variables}
use Rattle.problem.specs.laws.Facts.{accepted_facts}
use Rattle.nodes.specs.Problem.{zeros}
use Rattle.models.specs.inner.Judging.{Kept, Prepared}

append_nil : (l : List ℕ) → (l ++ []) ≡ l
append_nil [] = refl
append_nil (x ∷ xs) = ap (λ (m : List ℕ). x ∷ m) (append_nil xs)

pub kept_none : (s ids : List ℕ) → length ids ≡ 1024 → Kept s ids 0 0
unfolding variables_below
kept_none s ids h = record { room = h; few = omega arith; kept = refl }

module _ (s ids : List ℕ) (i k kind : ℕ) (q : Kept s ids i k) (e : kind ≡ (node_at s i).kind) where
  pub kept_more : kind ≡ 0 → i < 1024 → Kept s (set ids k i) (i + 1) (k + 1)
  unfolding variables_below
  kept_more z l =
      record {
        room = length-set ids k i ∙ q.room;
        few = omega (arith, q.few);
        kept =
            rw (add-one, add-one)
            (take-suc-set ids k i (omega (arith, q.room, q.few))
            ∙ rw (q.kept, eq-eqb (node_at s i).kind 0 (sym e ∙ z)));
      }

  pub kept_same : (kind ≡ 0 → ⊥) → Kept s ids (i + 1) k
  unfolding variables_below
  kept_same x =
      record {
        room = q.room;
        few = omega (arith, q.few);
        kept = rw add-one (q.kept ∙ rw (ne_eqb (node_at s i).kind 0 (λ z. x (e ∙ z))) (sym (append_nil (variables_below s i))));
      }

pub kept_all : (s ids : List ℕ) (i n k : ℕ) → Kept s ids i k → i ≡ n → Kept s ids n k
kept_all s ids i n k q e = rw e at q

-- ids of variables below n are below n
last_below : (l : List ℕ) (n k : ℕ) (t : Bool) → ((k < length l) → get_or l k 0 < n) → k < length (l ++ cond t (n ∷ []) [])
    → get_or (l ++ cond t (n ∷ []) []) k 0 < suc n
last_below l n k t each h =
    elim (dec_lt k (length l)) [
      | yes i ↦ rw (get_or-append l (cond t (n ∷ []) []) 0 k i) (let g = each i in omega arith)
      | no i ↦ at_end t h (omega arith)
    ]
  where
    at_end : (t : Bool) → k < length (l ++ cond t (n ∷ []) []) → length l ≤ k → get_or (l ++ cond t (n ∷ []) []) k 0 < suc n
    at_end true g m =
        let e : k ≡ length l = omega (arith, length-append l (n ∷ [])) in
        rw (e, get_or-append_seam l n [] 0) (omega arith)
    at_end false g m = absurd (omega (arith, length-append l []))

pub below : (s : List ℕ) (n k : ℕ) → k < length (variables_below s n) → get_or (variables_below s n) k 0 < n
unfolding variables_below
below s zero k h = absurd (not-suc-le-zero h)
below s (suc n) k h = last_below (variables_below s n) n k (eqb (node_at s n).kind 0) (below s n k) h

module _ (s ids : List ℕ) (count : ℕ) (q : Kept s ids (node_count s) count) (few : node_count s ≤ 1024) where
  pub variable_count : count ≡ length (variables s)
  unfolding variables
  variable_count = sym (length-take-le count ids (omega (arith, q.room, q.few))) ∙ ap length q.kept

  pub variable_at : (k : ℕ) → k < count → get_or ids k 0 ≡ get_or (variables s) k 0
  unfolding variables
  variable_at k l = sym (get_or-take count ids k 0 l) ∙ ap (λ (m : List ℕ). get_or m k 0) q.kept

  pub variable_below : (k : ℕ) → k < count → get_or (variables s) k 0 < node_count s
  unfolding variables
  variable_below k l = below s (node_count s) k (omega (arith, sym (ap length q.kept) ∙ length-take-le count ids (omega (arith, q.room, q.few))))

pub few_names : (s list ids : List ℕ) (count : ℕ) → Prepared s list ids count → (node_count s ≤ 1024) × (count ≤ 1024) × (count ≤ length ids)
few_names s list ids count p =
    let n : node_count s ≤ 1024 = (accepted_facts s p.accepted).header.nodes in
    (n, omega (arith, p.variables.few), omega (arith, p.variables.few, p.variables.room))

-- variable k of a prepared list
module _ (s list ids : List ℕ) (count : ℕ) (p : Prepared s list ids count) (k : ℕ) (l : k < count) where
  pub variable_few : k < 1024
  variable_few = omega (arith, (few_names s list ids count p).1)

  pub variable_held : k < length ids
  variable_held = omega (arith, (few_names s list ids count p).2)

  pub variable_id : get_or ids k 0 ≡ get_or (variables s) k 0
  variable_id = variable_at s ids count p.variables (few_names s list ids count p).0 k l

  pub id_below : get_or ids k 0 < node_count s
  id_below = rw variable_id (variable_below s ids count p.variables (few_names s list ids count p).0 k l)

  pub id_few : get_or ids k 0 < 1024
  id_few = omega (arith, id_below, (few_names s list ids count p).0)

-- the variable that a name is of
module _ (s list ids : List ℕ) (count : ℕ) (p : Prepared s list ids count) (n : List ℕ) (r : Option ℕ) (o : ℕ) (q : r ≡ place_in n (names list))
    (z : r ≡ Some o) where
  owner_one : o < count
  owner_one = omega (arith, (place_is n (names list) o (sym q ∙ z)).1, p.all)

  pub owner_few : o < 1024
  owner_few = variable_few s list ids count p o owner_one

  pub owner_held : o < length ids
  owner_held = variable_held s list ids count p o owner_one

  pub owner_id : get_or ids o 0 ≡ get_or (variables s) o 0
  owner_id = variable_id s list ids count p o owner_one

  pub owner_node : get_or ids o 0 < node_count s
  owner_node = id_below s list ids count p o owner_one

pub zeros_length : length zeros ≡ 1024
unfolding zeros
zeros_length = length-replicate {A = ℕ} 1024 0

pub zeros_room : (l : List ℕ) → l ≡ zeros → length l ≡ 1024
zeros_room l e = ap length e ∙ zeros_length
