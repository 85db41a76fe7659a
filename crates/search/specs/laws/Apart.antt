-- Laws of the distance between two assignments.
use Rattle.std.specs.Prelude.{◌≡◌, ◌⊎◌, List, eqb, get_or}
use Rattle.std.proofs.Common.{inl, inr, not-suc-le-zero, lt-suc_self, le_refl, eq-eqb, ne_eqb}
use Prim.Native.Nat.{ℕ, zero, suc, ◌≤◌, ◌<◌}
use native.Mathlib.Omega.{arith}
use Rattle.std.proofs.Math.Decide.{ℕ_discrete}
use Rattle.nodes.specs.Problem.{one_of, Prob, Variable}
use Rattle.search.specs.Reach.{apart}

module _ (P : Prob) where
  -- what node n adds to the distance
  abbrev at_node : List ℕ → List ℕ → ℕ → ℕ
  at_node vs us n = one_of (eqb (P.kind n) 0) (one_of (eqb (get_or vs n 0) (get_or us n 0)) 0 1) 0

  differs_one : (vs us : List ℕ) (n : ℕ) → Variable P n → (get_or vs n 0 ≡ get_or us n 0 → ⊥) → at_node vs us n ≡ 1
  differs_one vs us n v d = rw (eq-eqb (P.kind n) 0 v, ne_eqb _ _ d)

  same_none : (vs us : List ℕ) (n : ℕ) → (Variable P n → get_or vs n 0 ≡ get_or us n 0) → at_node vs us n ≡ 0
  same_none vs us n h =
      elim (ℕ_discrete (P.kind n) 0)
      [ yes v ↦ rw (eq-eqb (P.kind n) 0 v, eq-eqb _ _ (h v)) | no x ↦ rw (ne_eqb (P.kind n) 0 x) ]

  -- none apart: the variables are the same
  pub apart_none : (vs us : List ℕ) (n : ℕ) → apart P vs us n ≡ 0 → (m : ℕ) → m < n → Variable P m → get_or vs m 0 ≡ get_or us m 0
  unfolding apart
  apart_none vs us zero e m l v = absurd (not-suc-le-zero l)
  apart_none vs us (suc n) e m l v =
      elim (ℕ_discrete m n) [
        | yes q ↦
            elim (ℕ_discrete (get_or vs m 0) (get_or us m 0))
            [ yes s ↦ s | no d ↦ absurd (omega (arith, e, differs_one vs us n (rw q at v) (rw q at d))) ]
        | no x ↦ apart_none vs us n (omega (arith, e)) m (omega arith) v
      ]

  -- each variable keeps its value or takes the other's
  module _ (vs vs' us : List ℕ) where
    abbrev pub Closer : ℕ → Type 0
    Closer n = Variable P n → (get_or vs' n 0 ≡ get_or vs n 0) ⊎ (get_or vs' n 0 ≡ get_or us n 0)

    closer_at : (n : ℕ) → Closer n → at_node vs' us n ≤ at_node vs us n
    closer_at n h =
        elim (ℕ_discrete (P.kind n) 0) [
          | yes v ↦ elim (h v) [ inl e ↦ rw e (le_refl _) | inr e ↦ omega (arith, same_none vs' us n (λ _. e)) ]
          | no x ↦ omega (arith, same_none vs' us n (λ v. absurd (x v)))
        ]

    pub apart_le : (n : ℕ) → ((m : ℕ) → m < n → Closer m) → apart P vs' us n ≤ apart P vs us n
    unfolding apart
    apart_le zero h = omega arith
    apart_le (suc n) h = omega (arith, apart_le n (λ m l. h m (omega arith)), closer_at n (h n (lt-suc_self n)))

    -- and one takes it that did not have it
    pub apart_lt :
        (n k : ℕ)
        → ((m : ℕ) → m < n → Closer m)
        → k < n
        → Variable P k
        → (get_or vs k 0 ≡ get_or us k 0 → ⊥)
        → get_or vs' k 0 ≡ get_or us k 0
        → apart P vs' us n < apart P vs us n
    unfolding apart
    apart_lt zero k h l v d e = absurd (not-suc-le-zero l)
    apart_lt (suc n) k h l v d e =
        elim (ℕ_discrete k n) [
          | yes q ↦
              omega (
                arith,
                apart_le n (λ m l. h m (omega arith)),
                differs_one vs us n (rw q at v) (rw q at d),
                same_none vs' us n (λ _. rw q at e),
              )
          | no x ↦ omega (arith, apart_lt n k (λ m l. h m (omega arith)) (omega arith) v d e, closer_at n (h n (lt-suc_self n)))
        ]
