-- Laws of whether a node is a root.
use Rattle.std.specs.Prelude.{◌≡◌, refl, Bool, true, false, ◌||◌, List, [], ◌∷◌, ℕ, suc, ◌+◌, ◌≤◌, ◌<◌, eqb, get_or, take, drop}
use Rattle.std.proofs.Math.Path.{sym}
use Rattle.std.proofs.Common.{ap, ◌∙◌, arith, add-one, drop_of_length-le, drop-cons, get_or-take, eq-eqb, ne_eqb}
use Rattle.std.proofs.Math.ListN.{length, length-take}
use Rattle.std.specs.List.{list_any}
use Rattle.spelling.specs.Nodes.{is_root}

root_in_place : (node : ℕ) (rs : List ℕ) (k : ℕ) → k < length rs → is_root node (drop k rs) ≡ (eqb (get_or rs k 0) node || is_root node (drop (suc k) rs))
unfolding is_root
root_in_place node rs k h = rw (drop-cons rs k 0 h)

module _ (node : ℕ) (rs : List ℕ) (n k : ℕ) (l : n ≤ length rs) (q : is_root node (take n rs) ≡ is_root node (drop k (take n rs))) where
  inside : k < n → k < length (take n rs)
  inside h = omega (arith, length-take n rs)

  pub root_turn : k < n → (get_or rs k 0 ≡ node → ⊥) → is_root node (take n rs) ≡ is_root node (drop (k + 1) (take n rs))
  root_turn h e = rw add-one (q ∙ root_in_place node (take n rs) k (inside h) ∙ rw (get_or-take n rs k 0 h, ne_eqb (get_or rs k 0) node e))

  pub root_found : k < n → get_or rs k 0 ≡ node → true ≡ is_root node (take n rs)
  root_found h e = sym (q ∙ root_in_place node (take n rs) k (inside h) ∙ rw (get_or-take n rs k 0 h, eq-eqb (get_or rs k 0) node e))

  pub root_over : n ≤ k → false ≡ is_root node (take n rs)
  unfolding is_root
  root_over h =
      let b : length (take n rs) ≤ k = omega (arith, length-take n rs) in
      sym (q ∙ rw (drop_of_length-le (take n rs) b))

pub is_root_by_any : (node : ℕ) (rs : List ℕ) → list_any (λ r. eqb r node) rs ≡ is_root node rs
unfolding is_root
is_root_by_any node [] = refl
is_root_by_any node (r ∷ rs) = ap (λ (t : Bool). eqb r node || t) (is_root_by_any node rs)
