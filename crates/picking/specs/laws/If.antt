-- Laws of `if`: what it gives, by the branch that is taken, and at a spot of it what a value of the condition or of a branch reaches
-- with values of the others that agree with their pairs.
use Rattle.std.specs.Prelude.{◌≡◌, ℕ, zero, suc, ◌-◌, ◌<◌, ◌≤◌, Bool, true, false, ◌⊎◌, ◌==◌, ◌≢◌, refl}
use Rattle.std.proofs.Common.{sym, ap, ◌∙◌, inl, inr, arith, eqb-true}
use Rattle.std.proofs.lemmas.Bool.{eqb-false}
use Rattle.words.specs.Agree.{Agrees}
use Rattle.words.specs.laws.Agree.{agrees_lt}
use Rattle.operators.specs.Table.{kind_of}
use Rattle.operators.specs.Meaning.{choose, meaning}
use Rattle.picking.specs.declared.spot.Three.{Three}
use Rattle.picking.specs.declared.spot.Spot.{Spot}
use Rattle.picking.specs.Spot.{at, put, Other, value, held_to_pairs, Admitted, Reaches, Fair}
use Rattle.picking.specs.inner.Asks.{branch_of, Had}
use Rattle.picking.specs.laws.Positions.{at_put_same, at_put_other}
use Rattle.picking.specs.laws.Fair.{rule_at, count_at, slot_at}

abbrev pub chosen : Three → ℕ
chosen q = choose q.a q.b q.c

-- what `if` gives stands at the branch that is taken
pub chosen_at : (q : Three) → chosen q ≡ at q (branch_of q.a)
chosen_at q = go q.a
  where
    go : (x : ℕ) → choose x q.b q.c ≡ at q (branch_of x)
    go zero = refl
    go (suc x) = refl

pub branch_low : (x : ℕ) → 1 ≤ branch_of x
branch_low zero = omega arith
branch_low (suc x) = omega arith

pub branch_few : (x : ℕ) → branch_of x < 3
branch_few zero = omega arith
branch_few (suc x) = omega arith

-- values that agree, with one put among them that does
agree_put : (S : Spot) (x : Three) → ((k : ℕ) → k < 3 → Agrees (at S.los k) (at S.his k) (at x k)) → (j v : ℕ) → j < 3 → Agrees (at S.los j) (at S.his j) v
    → (k : ℕ) → k < 3 → Agrees (at S.los k) (at S.his k) (at (put x j v) k)
agree_put S x g j v h m k l = go (k == j) refl
  where
    go : (b : Bool) → (k == j) ≡ b → Agrees (at S.los k) (at S.his k) (at (put x j v) k)
    go true e = rw (eqb-true k j e, at_put_same x j v h) m
    go false e = rw (at_put_other x j v k h l (eqb-false k j e)) (g k l)

-- branch i is taken where the condition is 2 - i
branch_way : (i : ℕ) → 1 ≤ i → i < 3 → (branch_of (2 - i) ≡ i) × (branch_of (1 - (2 - i)) ≡ 3 - i)
branch_way zero l h = absurd (omega arith)
branch_way (suc zero) l h = (refl, refl)
branch_way (suc (suc zero)) l h = (refl, refl)
branch_way (suc (suc (suc i))) l h = absurd (omega arith)

way_of : (x i : ℕ) → x < 2 → 1 ≤ i → i < 3 → (x ≡ 2 - i) ⊎ (x ≡ 1 - (2 - i))
way_of x i h l k = go (x == 2 - i) refl
  where
    go : (b : Bool) → (x == 2 - i) ≡ b → (x ≡ 2 - i) ⊎ (x ≡ 1 - (2 - i))
    go true e = inl (eqb-true x (2 - i) e)
    go false e = let f = eqb-false x (2 - i) e in inr (omega arith)

module _ (S : Spot) (t : ℕ) (F : Fair S) (key : S.kind ≡ 11) where
  now : (k : ℕ) → k < 3 → Agrees (at S.los k) (at S.his k) (at S.current k)
  now k h = (slot_at F key k h).agrees

  another : (i j : ℕ) → j < 3 → (j ≢ i) → Other S i j
  another i j h f = record { below = rw (count_at F key) h; apart = f }

  -- what is admitted is what agrees
  admit : (j v : ℕ) → j < 3 → Agrees (at S.los j) (at S.his j) v → Admitted S j v
  admit j v h g = record { fits = agrees_lt (at S.widths j) (slot_at F key j h).under g; agrees = λ _. g }

  reach : (i v : ℕ) (o : Three) → ((k : ℕ) → k < 3 → Agrees (at S.los k) (at S.his k) (at o k)) → value S (put o i v) ≡ t → Reaches S t i v
  reach i v o g m = record { others = o; admitted = λ j q. let h = rw (count_at F key) at q.below in admit j (at o j) h (g j h); gives = m }

  other_agrees : {i v : ℕ} (m : Reaches S t i v) (j : ℕ) → j < 3 → (j ≢ i) → Agrees (at S.los j) (at S.his j) (at m.others j)
  other_agrees {i} m j h f = (m.admitted j (another i j h f)).agrees (ap held_to_pairs key)

  -- what is given where branch j is taken
  given : (o : Three) (i v j : ℕ) → branch_of (put o i v).a ≡ j → value S (put o i v) ≡ at (put o i v) j
  given o i v j e = ap (λ (n : ℕ). meaning (kind_of n) S.width S.widths.a S.widths.b S.low (put o i v).a (put o i v).b (put o i v).c) key ∙ chosen_at (put o i v) ∙ ap (at (put o i v)) e

  -- the condition: the branch that it takes has to be t
  module _ (v j : ℕ) (ej : branch_of v ≡ j) (low : 1 ≤ j) (h : j < 3) where
    kept : (o : Three) → value S (put o 0 v) ≡ at o j
    kept o = given o 0 v j ej ∙ at_put_other o 0 v j (omega arith) h (λ e. omega arith)

    pub condition_to : Agrees (at S.los j) (at S.his j) t → Reaches S t 0 v
    condition_to g =
        reach 0 v (put S.current j t) (agree_put S S.current now j t h g) (kept (put S.current j t) ∙ at_put_same S.current j t h)

    pub condition_back : Reaches S t 0 v → Agrees (at S.los j) (at S.his j) t
    condition_back m = rw (sym (kept m.others) ∙ m.gives) at (other_agrees m j h (λ e. omega arith))

  -- branch i: it is taken with t, or the other way with t at the other branch
  module _ (i : ℕ) (low : 1 ≤ i) (h : i < 3) (v : ℕ) where
    abbrev HadAt : Type 0
    HadAt = Had S.los.a S.his.a (2 - i) v (at S.los (3 - i)) (at S.his (3 - i)) t

    -- the branch that the condition takes
    way : (o : Three) (j : ℕ) → branch_of o.a ≡ j → value S (put o i v) ≡ at (put o i v) j
    way o j e = given o i v j (ap branch_of (at_put_other o i v 0 h (omega arith) (λ q. omega arith)) ∙ e)

    taken : (o : Three) → o.a ≡ 2 - i → value S (put o i v) ≡ v
    taken o e = way o i (ap branch_of e ∙ (branch_way i low h).0) ∙ at_put_same o i v h

    passed : (o : Three) → o.a ≡ 1 - (2 - i) → value S (put o i v) ≡ at o (3 - i)
    passed o e =
        way o (3 - i) (ap branch_of e ∙ (branch_way i low h).1) ∙ at_put_other o i v (3 - i) h (omega arith) (λ q. omega arith)

    pub branch_back : Reaches S t i v → HadAt
    branch_back m = go (way_of m.others.a i short low h)
      where
        first : Agrees S.los.a S.his.a m.others.a
        first = other_agrees m 0 (omega arith) (λ e. omega arith)

        short : m.others.a < 2
        short = rw (rule_at F key).0 at (agrees_lt S.widths.a (slot_at F key 0 (omega arith)).under first)

        go : (m.others.a ≡ 2 - i) ⊎ (m.others.a ≡ 1 - (2 - i)) → HadAt
        go (inl e) = inl (rw e at first, sym (taken m.others e) ∙ m.gives)
        go (inr e) = inr (rw e at first, rw (sym (passed m.others e) ∙ m.gives) at (other_agrees m (3 - i) (omega arith) (λ q. omega arith)))

    pub branch_to : HadAt → Reaches S t i v
    branch_to (inl q) =
        let o = put S.current 0 (2 - i) in
        reach i v o (agree_put S S.current now 0 (2 - i) (omega arith) q.0) (taken o refl ∙ q.1)
    branch_to (inr q) =
        let p = put S.current 0 (1 - (2 - i)) in
        let o = put p (3 - i) t in
        let g = agree_put S S.current now 0 (1 - (2 - i)) (omega arith) q.0 in
        reach i v o (agree_put S p g (3 - i) t (omega arith) q.1)
        (passed o (at_put_other p (3 - i) t 0 (omega arith) (omega arith) (λ d. omega arith)) ∙ at_put_same p (3 - i) t (omega arith))
