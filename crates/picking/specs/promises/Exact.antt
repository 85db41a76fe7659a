-- Exactness of picks, in the literature's words: at every kind, position and width, with any fixed bits, target and
-- proposal, a value is found exactly if the set has a member, and it is the least one at or above the proposal, else the
-- least one.
use Rattle.std.specs.Prelude.{◌≡◌, ℕ, zero, suc, ◌%◌, ◌^◌, ◌<◌, ◌≤◌, Bool, true, false, T, ◌⊎◌, ◌≢◌, refl, Option, Some, None}
use Rattle.std.proofs.Common.{subst, sym, inl, inr, zero-le, le_refl, le_of_suc-le-suc, eq-or-lt_of_le, not-suc-le-zero, arith}
use Rattle.words.specs.laws.Bits.{lt_or_ge}
use Rattle.words.specs.laws.Cases.{Passes}
use Rattle.words.specs.Pick.{NoneFrom, FirstFrom, Pick, above, around, Picked}
use Rattle.words.specs.laws.Pick.{pick_member, picked_unique, picked_same, picked_around}
use Rattle.picking.specs.declared.spot.Spot.{Spot}
use Rattle.picking.specs.Spot.{at, Inverse, Consistent, Asked}
use Rattle.picking.specs.laws.Tests.{inverse_b, inverse_to, inverse_back, consistent_b, consistent_to, consistent_back}

-- ---- what is claimed

-- an answer is a value
pub record Finds (r : Option ℕ) : Type 0 where
  pub found : ℕ
  pub is : r ≡ Some found

-- r is an exact answer to a search in A with the proposal p
pub record Exact (A : ℕ → Type 0) (p : ℕ) (r : Option ℕ) : Type 0 where
  -- a value is found exactly if A has a member, and it is one
  pub complete : (u : ℕ) → A u → Finds r
  pub sound : (v : ℕ) → r ≡ Some v → A v
  -- where A has a member at or above p, it is the least of these
  pub from : (v u : ℕ) → r ≡ Some v → A u → p ≤ u → (p ≤ v) × (v ≤ u)
  -- else it is the least of all
  pub around : (v u : ℕ) → r ≡ Some v → NoneFrom A p → A u → v ≤ u

-- for a set A and a proposal p there is one answer that a contract by Picked allows, there is only one, and it is exact
pub record Settled (A : ℕ → Type 0) (p : ℕ) : Type 0 where
  pub answer : Option ℕ
  pub allowed : Picked A p answer
  pub sole : (r : Option ℕ) → Picked A p r → r ≡ answer
  pub exact : (r : Option ℕ) → Picked A p r → Exact A p r

-- ---- Picked is exact
pick_exact : (A : ℕ → Type 0) (p v : ℕ) → Pick A p v → Exact A p (Some v)
pick_exact A p v k = record {
  complete = λ u m. record { found = v; is = refl };
  sound = λ w e. subst A (same e) (pick_member k);
  from = λ w u e m h. subst (λ (n : ℕ). (p ≤ n) × (n ≤ u)) (same e) (first u k m h);
  around = λ w u e n m. subst (λ (n : ℕ). n ≤ u) (same e) (least u k n m);
}
  where
    same : {w : ℕ} → Some v ≡ Some w → v ≡ w
    same e = cc

    first : (u : ℕ) → Pick A p v → A u → p ≤ u → (p ≤ v) × (v ≤ u)
    first u (above l) m h = (l.from, l.least u m h)
    first u (around n l) m h = absurd (n u m h)

    least : (u : ℕ) → Pick A p v → NoneFrom A p → A u → v ≤ u
    least u (above l) n m = absurd (n v l.member l.from)
    least u (around _ l) n m = l.least u m zero-le

never : {v : ℕ} → None ≢ Some v
never e = let z : ◌≡◌ {A = ℕ} 0 1 = cc in omega arith

picked_exact : (A : ℕ → Type 0) (p : ℕ) (r : Option ℕ) → Picked A p r → Exact A p r
picked_exact A p (Some v) k = pick_exact A p v k
picked_exact A p None k = record {
  complete = λ u m. absurd (k u m);
  sound = λ v e. absurd (never e);
  from = λ v u e m h. absurd (never e);
  around = λ v u e n m. absurd (never e);
}

-- ---- a set that a test tells has an answer
module _ (f : ℕ → Bool) (p : ℕ) where
  more : (n : ℕ) (u : ℕ) → Passes (suc n) f u → (u ≡ n) ⊎ Passes n f u
  more n u m = go (eq-or-lt_of_le (le_of_suc-le-suc m.below))
    where
      go : (u ≡ n) ⊎ (u < n) → (u ≡ n) ⊎ Passes n f u
      go (inl e) = inl e
      go (inr l) = inr (record { below = l; passes = m.passes })

  first_exists : (n : ℕ) → (r : Option ℕ) × FirstFrom (Passes n f) p r
  first_exists zero = (None, λ u m h. not-suc-le-zero m.below)
  first_exists (suc n) = step (first_exists n).0 (first_exists n).1
    where
      step : (r : Option ℕ) → FirstFrom (Passes n f) p r → (r : Option ℕ) × FirstFrom (Passes (suc n) f) p r
      step (Some v) l = (
        Some v,
        record {
          member = record { below = let h = l.member.below in omega arith; passes = l.member.passes };
          from = l.from;
          least = λ u m h. go u (more n u m) h;
        },
      )
        where
          go : (u : ℕ) → (u ≡ n) ⊎ Passes n f u → p ≤ u → v ≤ u
          go u (inl e) h = let b = l.member.below in omega arith
          go u (inr m) h = l.least u m h
      step None none = last (f n) refl (lt_or_ge n p)
        where
          last : (b : Bool) → f n ≡ b → (n < p) ⊎ (p ≤ n) → (r : Option ℕ) × FirstFrom (Passes (suc n) f) p r
          last b e (inl l) = (None, λ u m h. miss u (more n u m) h)
            where
              miss : (u : ℕ) → (u ≡ n) ⊎ Passes n f u → p ≤ u → ⊥
              miss u (inl q) h = omega arith
              miss u (inr m) h = none u m h
          last false e (inr l) = (None, λ u m h. miss u m (more n u m) h)
            where
              miss : (u : ℕ) → Passes (suc n) f u → (u ≡ n) ⊎ Passes n f u → p ≤ u → ⊥
              miss u k (inl q) h = subst T e (subst (λ (x : ℕ). T (f x)) q k.passes)
              miss u k (inr m) h = none u m h
          last true e (inr l) = (Some n, record { member = record { below = le_refl (suc n); passes = subst T (sym e) tt }; from = l; least = λ u m h. go u (more n u m) h })
            where
              go : (u : ℕ) → (u ≡ n) ⊎ Passes n f u → p ≤ u → n ≤ u
              go u (inl q) h = omega arith
              go u (inr m) h = absurd (none u m h)

picked_exists : (n : ℕ) (f : ℕ → Bool) (p : ℕ) → (r : Option ℕ) × Picked (Passes n f) p r
picked_exists n f p = go (first_exists f p n).0 (first_exists f p n).1
  where
    go : (r : Option ℕ) → FirstFrom (Passes n f) p r → (r : Option ℕ) × Picked (Passes n f) p r
    go (Some v) l = (Some v, above l)
    go None none = let r = first_exists f 0 n in (r.0, picked_around (Passes n f) p r.0 none r.1)

settled : (A : ℕ → Type 0) (n : ℕ) (f : ℕ → Bool) → ((v : ℕ) → Passes n f v → A v) → ((v : ℕ) → A v → Passes n f v) → (p : ℕ) → Settled A p
settled A n f to back p =
    let r = picked_exists n f p in
    let k = picked_same (Passes n f) A to back p r.0 r.1 in
    record { answer = r.0; allowed = k; sole = λ s m. picked_unique A p s r.0 m k; exact = picked_exact A p }

-- the theorem: at every spot of an accepted problem, of whatever kind and widths, at every position, for every target of
-- the node's width and every proposal, pick_inverse's and pick_consistent's contracts settle one answer, and it is exact
pub exactness : (S : Spot) (i t p : ℕ) → Asked S i t → Settled (Inverse S t i) (p % 2 ^ at S.widths i) × Settled (Consistent S t i) (p % 2 ^ at S.widths i)
exactness S i t p A =
    let under = (A.fair.slots i A.position).under in (
      settled (Inverse S t i) (2 ^ at S.widths i) (inverse_b S t i) (inverse_to S t i under) (inverse_back S t i under) (p % 2 ^ at S.widths i),
      settled (Consistent S t i) (2 ^ at S.widths i) (consistent_b S t i) (consistent_to S t i under A.position) (consistent_back S t i under A.position) (p % 2 ^ at S.widths i),
    )
