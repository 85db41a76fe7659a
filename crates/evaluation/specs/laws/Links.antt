-- Laws of a node's links: it has one in the chain of each node that it reads, and no other.
use Rattle.std.specs.Prelude.{◌≡◌, refl, Bool, true, false, not, ◌&&◌, List, ◌∷◌, ℕ, zero, suc, ◌≤◌, ◌<◌, max, ltb, eqb}
use Rattle.std.proofs.Common.{sym, ap, ◌∙◌, true≢false, arith, ltb-true, lt-ltb, eqb-true, eq-eqb, ne_eqb}
use Rattle.picking.specs.declared.spot.Three.{Three}
use Rattle.picking.specs.laws.Positions.{few_positions}
use Rattle.nodes.specs.Problem.{Prob, count, arg}
use Rattle.evaluation.specs.Readers.{Reads}
use Rattle.evaluation.specs.inner.Lists.{ListsFrom, ListsFrom.keep, ListsFrom.skip}
use Rattle.evaluation.specs.inner.Readers.{fresh, linked}

-- a list with i before it, where b says so
abbrev pub grown : Bool → ℕ → List ℕ → List ℕ
grown true i l = i ∷ l
grown false i l = l

-- a number that is no less than e, where b says so
abbrev pub up_to : Bool → ℕ → ℕ → ℕ
up_to true e a = max a e
up_to false e a = a

one_more : (b : Bool) (e a : ℕ) → a ≤ up_to b e a
one_more true e a = omega arith
one_more false e a = omega arith

one_most : (b : Bool) (e a n : ℕ) → a ≤ n → e ≤ n → up_to b e a ≤ n
one_most true e a n p q = omega arith
one_most false e a n p q = p

-- thrice
pub up_to_more : (x y z : Bool) (e a : ℕ) → a ≤ up_to x e (up_to y e (up_to z e a))
up_to_more x y z e a = omega (arith, one_more z e a, one_more y e (up_to z e a), one_more x e (up_to y e (up_to z e a)))

pub up_to_most : (x y z : Bool) (e a n : ℕ) → a ≤ n → e ≤ n → up_to x e (up_to y e (up_to z e a)) ≤ n
up_to_most x y z e a n p q = one_most x e (up_to y e (up_to z e a)) n (one_most y e (up_to z e a) n (one_most z e a n p q) q) q

up_to_three : (x y z : Bool) (e a : ℕ) → (x ≡ false → y ≡ false → z ≡ false → ⊥) → e ≤ up_to x e (up_to y e (up_to z e a))
up_to_three true y z e a some = omega arith
up_to_three false true z e a some = omega arith
up_to_three false false true e a some = omega arith
up_to_three false false false e a some = absurd (some refl refl refl)

and_both : (a b : Bool) → (a && b) ≡ true → (a ≡ true) × (b ≡ true)
and_both true true e = (refl, refl)
and_both true false e = absurd (true≢false (sym e))
and_both false b e = absurd (true≢false (sym e))

both_true : (a b : Bool) → a ≡ true → b ≡ true → (a && b) ≡ true
both_true a b p q = rw (p, q)

not_eqb : (x y : ℕ) → not (eqb x y) ≡ true → x ≡ y → ⊥
not_eqb x y e q = true≢false (sym e ∙ ap not (eq-eqb x y q))

eqb_not : (x y : ℕ) → (x ≡ y → ⊥) → not (eqb x y) ≡ true
eqb_not x y e = ap not (ne_eqb x y e)

-- one of three tests holds if a fact does, and none if not: a list grown by each has one member more, or none
lists_three :
    {A : ℕ → Type 0} {top n : ℕ} {l : List ℕ} (x y z : Bool)
    → (x ≡ true → A n)
    → (y ≡ true → A n)
    → (z ≡ true → A n)
    → (x ≡ true → y ≡ true → ⊥)
    → (x ≡ true → z ≡ true → ⊥)
    → (y ≡ true → z ≡ true → ⊥)
    → (x ≡ false → y ≡ false → z ≡ false → A n → ⊥)
    → ListsFrom A top (suc n) l
    → ListsFrom A top n (grown x n (grown y n (grown z n l)))
lists_three true true z a b c p q r o s = absurd (p refl refl)
lists_three true false true a b c p q r o s = absurd (q refl refl)
lists_three true false false a b c p q r o s = keep (a refl) s
lists_three false true true a b c p q r o s = absurd (r refl refl)
lists_three false true false a b c p q r o s = keep (b refl) s
lists_three false false true a b c p q r o s = keep (c refl) s
lists_three false false false a b c p q r o s = skip (o refl refl refl) s

pub linked_there : (k : ℕ) (x : Three) (i : ℕ) → linked k x i ≡ true → i < k
unfolding linked
linked_there k x i e = ltb-true i k (and_both (ltb i k) (fresh x i) e).0

module _ (P : Prob) (m n : ℕ) where
  -- position i is where n's link in the chain of m is
  abbrev hits : ℕ → Bool
  hits i = linked (count P n) (P.fields n) i && eqb (arg P n i) m

  hit_there : (i : ℕ) → hits i ≡ true → i < count P n
  hit_there i e = linked_there (count P n) (P.fields n) i (and_both _ (eqb (arg P n i) m) e).0

  hit_fresh : (i : ℕ) → hits i ≡ true → fresh (P.fields n) i ≡ true
  unfolding linked
  hit_fresh i e = (and_both (ltb i (count P n)) (fresh (P.fields n) i) (and_both _ (eqb (arg P n i) m) e).0).1

  hit_is : (i : ℕ) → hits i ≡ true → arg P n i ≡ m
  hit_is i e = eqb-true (arg P n i) m (and_both (linked (count P n) (P.fields n) i) _ e).1

  hit_reads : (i : ℕ) → hits i ≡ true → Reads P m n
  hit_reads i e = record { position = i; there = hit_there i e; is = hit_is i e }

  hit_of : (i : ℕ) → i < count P n → fresh (P.fields n) i ≡ true → arg P n i ≡ m → hits i ≡ true
  unfolding linked
  hit_of i h f e = both_true _ _ (both_true _ _ (lt-ltb i (count P n) h) f) (eq-eqb (arg P n i) m e)

  -- the first position that holds m would be hit
  none_hit : hits 0 ≡ false → hits 1 ≡ false → hits 2 ≡ false → Reads P m n → ⊥
  none_hit x y z r = go r.position r.there r.is
    where
      zeroth : 0 < count P n → arg P n 0 ≡ m → ⊥
      zeroth h e = true≢false (sym (hit_of 0 h refl e) ∙ x)

      first : 1 < count P n → arg P n 1 ≡ m → ⊥
      first h e = true≢false (sym (hit_of 1 h (eqb_not _ _ (λ q. zeroth (omega arith) (sym q ∙ e))) e) ∙ y)

      second : 2 < count P n → arg P n 2 ≡ m → ⊥
      second h e =
          true≢false
          (sym
          (hit_of 2 h
          (both_true _ _ (eqb_not _ _ (λ q. zeroth (omega arith) (sym q ∙ e))) (eqb_not _ _ (λ q. first (omega arith) (sym q ∙ e))))
          e)
          ∙ z)

      go : (i : ℕ) → i < count P n → arg P n i ≡ m → ⊥
      go zero h e = zeroth h e
      go (suc zero) h e = first h e
      go (suc (suc zero)) h e = second h e
      go (suc (suc (suc i))) h e = omega (arith, few_positions (P.kind n))

  -- position 2 is hit: it holds neither what position 0 holds nor what position 1 holds
  hit_last : hits 2 ≡ true → (not (eqb (arg P n 2) (arg P n 0)) ≡ true) × (not (eqb (arg P n 2) (arg P n 1)) ≡ true)
  hit_last z = and_both (not (eqb (arg P n 2) (arg P n 0))) (not (eqb (arg P n 2) (arg P n 1))) (hit_fresh 2 z)

  -- "a reader is listed once even if it reads a node at several positions"
  pub one_hit :
      {top : ℕ} {l : List ℕ}
      → ListsFrom (Reads P m) top (suc n) l
      → ListsFrom (Reads P m) top n (grown (hits 0) n (grown (hits 1) n (grown (hits 2) n l)))
  one_hit s =
      lists_three (hits 0) (hits 1) (hits 2) (hit_reads 0) (hit_reads 1) (hit_reads 2)
      (λ x y. not_eqb _ _ (hit_fresh 1 y) (hit_is 1 y ∙ sym (hit_is 0 x)))
      (λ x z. not_eqb _ _ (hit_last z).0 (hit_is 2 z ∙ sym (hit_is 0 x)))
      (λ y z. not_eqb _ _ (hit_last z).1 (hit_is 2 z ∙ sym (hit_is 1 y)))
      none_hit
      s

  -- and hands down where what is above it ends
  pub handed_down : (e a : ℕ) → Reads P m n → e ≤ up_to (hits 0) e (up_to (hits 1) e (up_to (hits 2) e a))
  handed_down e a r = up_to_three (hits 0) (hits 1) (hits 2) e a (λ x y z. none_hit x y z r)
