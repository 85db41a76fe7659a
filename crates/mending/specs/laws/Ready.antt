-- What a placing does to the ready nodes: the one placed goes, the others stay, and only nodes that read it can come. So a set of
-- ready nodes is kept right by trying the readers of what was placed, each by `ready` itself.
use Rattle.std.specs.Prelude.{◌≡◌, true, List, ℕ, ◌<◌, length, set}
use Rattle.std.proofs.Common.{sym, ◌∙◌, get_or-set_same, get_or-set_other}
use Rattle.std.proofs.Math.Decide.{ℕ_discrete}
use Rattle.problem.specs.Layout.{node_at}
use Rattle.mending.specs.Order.{field, none, placed, ready}
use Rattle.mending.specs.inner.Order.{Met, Reads}
use Rattle.mending.specs.laws.Order.{placed_some, is_placed, ready_facts, facts_ready}

module _ (s l : List ℕ) (x k : ℕ) (inside : x < length l) (id : k ≡ none → ⊥) where
  pub ready_gone : ready s (set l x k) x ≡ true → ⊥
  ready_gone r = id (sym (get_or-set_same l x k 0 inside) ∙ (ready_facts s (set l x k) x r).0)

  -- what is placed stays placed
  still : (o : ℕ) → placed l o ≡ true → placed (set l x k) o ≡ true
  still o p =
      elim (ℕ_discrete o x) [
        | yes e ↦ rw e (is_placed (set l x k) x (λ z. id (sym (get_or-set_same l x k 0 inside) ∙ z)))
        | no n ↦ is_placed (set l x k) o (λ z. placed_some l o p (sym (get_or-set_other l x o k 0 n) ∙ z))
      ]

  pub ready_kept : (i : ℕ) → (i ≡ x → ⊥) → ready s l i ≡ true → ready s (set l x k) i ≡ true
  unfolding Met
  ready_kept i n r =
      let f = ready_facts s l i r in
      facts_ready s (set l x k) i (get_or-set_other l x i k 0 n ∙ f.0) (λ p b. still (field (node_at s i) p) (f.1 p b))

  -- an operand that is placed afterwards was placed before, unless it is x
  was : (o : ℕ) → (o ≡ x → ⊥) → placed (set l x k) o ≡ true → placed l o ≡ true
  was o n p = is_placed l o (λ z. placed_some (set l x k) o p (get_or-set_other l x o k 0 n ∙ z))

  pub ready_others : (i : ℕ) → (Reads s i x → ⊥) → ready s (set l x k) i ≡ true → ready s l i ≡ true
  unfolding Met
  ready_others i n r =
      let f = ready_facts s (set l x k) i r in
      facts_ready s l i
      (sym (get_or-set_other l x i k 0 (λ e. ready_gone (rw e at r))) ∙ f.0)
      (λ p b. was (field (node_at s i) p) (λ e. n (record { position = p; below = b; is = e })) (f.1 p b))
