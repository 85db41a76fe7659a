-- Places filled upward, one by one: what evaluation and the fixed bits of all nodes have in common.
use Rattle.std.specs.Prelude.{◌≡◌, refl, ℕ, zero, suc, ◌≤◌, ◌<◌}
use Rattle.std.proofs.Common.{sym, ap, ◌∙◌, arith, not-suc-le-zero}
use Rattle.std.proofs.Math.Decide.{ℕ_discrete}

-- a store of values by places, which has room for some
pub record Store (S A : Type 0) (get : S → ℕ → A) (put : S → ℕ → A → S) (Room : S → ℕ → Type 0) : Type 0 where
  pub same : (s : S) (i : ℕ) (v : A) → Room s i → get (put s i v) i ≡ v
  pub other : (s : S) (i n : ℕ) (v : A) → (n ≡ i → ⊥) → get (put s i v) n ≡ get s n
  pub room : (s : S) (i n : ℕ) (v : A) → Room s n → Room (put s i v) n

module _ {S A : Type 0} {get : S → ℕ → A} {put : S → ℕ → A → S} {Room : S → ℕ → Type 0} (st : Store S A get put Room)
    (u : ℕ → S) (f : ℕ → A) (step : (i : ℕ) → u (suc i) ≡ put (u i) i (f i)) where
  pub up_room : (i n : ℕ) → Room (u 0) n → Room (u i) n
  up_room zero n h = h
  up_room (suc i) n h = rw (step i) (st.room (u i) i n (f i) (up_room i n h))

  passed : (i n : ℕ) → (n ≡ i → ⊥) → get (u (suc i)) n ≡ get (u i) n
  passed i n x = ap (λ (s : S). get s n) (step i) ∙ st.other (u i) i n (f i) x

  -- places not reached are as they were
  pub up_above : (i n : ℕ) → i ≤ n → get (u i) n ≡ get (u 0) n
  up_above zero n h = refl
  up_above (suc i) n h = passed i n (omega arith) ∙ up_above i n (omega arith)

  -- a place passed holds what was put there
  pub up_at : (i n : ℕ) → Room (u 0) n → n < i → get (u i) n ≡ f n
  up_at zero n r h = absurd (not-suc-le-zero h)
  up_at (suc i) n r h =
      elim (ℕ_discrete n i) [
        | yes e ↦ rw (e, step i) (st.same (u i) i (f i) (up_room i i (rw e at r)))
        | no x ↦ passed i n x ∙ up_at i n r (omega arith)
      ]

  pub up_kept : (i m n : ℕ) → Room (u 0) n → n < i → i ≤ m → get (u m) n ≡ get (u i) n
  up_kept i m n r h k = up_at m n r (omega arith) ∙ sym (up_at i n r h)
