-- The inverse and the consistent set of a position as tests that can be computed, for any spot: each value of the other
-- positions that is admitted is tried.
use Rattle.std.specs.Prelude.{◌≡◌, ℕ, zero, suc, ◌^◌, ◌<◌, Bool, true, false, not, ◌&&◌, ◌||◌, T, ◌⊎◌, ◌==◌, bit_and, nat_eq, nat_lt, refl}
use Rattle.std.proofs.Common.{sym, ap, ◌∙◌, subst, inl, inr, eq-or-lt_of_le, le_of_suc-le-suc, le_refl, not-suc-le-zero, arith, T_not, ltb→lt, eqb→eq, eqb-true, lt-ltb, ne_eqb}
use Rattle.std.proofs.Math.Dec.{eqb_refl}
use Rattle.std.specs.Float.Ieee.Fits.{and_l, and_r}
use Rattle.std.proofs.lemmas.Bool.{eqb-false}
use Rattle.words.specs.Agree.{Agrees}
use Rattle.words.specs.laws.Agree.{agrees_of_within, lo_within, within_hi, agrees_lt}
use Rattle.words.specs.laws.Cases.{Passes, passed}
use Rattle.picking.specs.declared.spot.Three.{Three}
use Rattle.picking.specs.declared.spot.Spot.{Spot}
use Rattle.picking.specs.Spot.{at, put, positions, Other, value, held_to_pairs, Inverse, Admitted, Reaches, Consistent}
use Rattle.picking.specs.laws.Positions.{few_positions, at_put_same, at_put_other, value_used}

-- ---- tests and facts
and_of : (a b : Bool) → T a → T b → T (a && b)
and_of true b p q = q
and_of false b p q = p

-- a test that is asked for only where a first one passes
asked : (a b : Bool) → (a ≡ true → T b) → T (not a || b)
asked true b f = f refl
asked false b f = tt

same_of : {x y : ℕ} → x ≡ y → T (x == y)
same_of {x} {y} e = subst (λ (n : ℕ). T (x == n)) e (eqb_refl x)

-- a number below n passes the test
abbrev pub any_b : ℕ → (ℕ → Bool) → Bool
any_b zero f = false
any_b (suc n) f = f n || any_b n f

any_to : (n : ℕ) (f : ℕ → Bool) → T (any_b n f) → (x : ℕ) × (x < n) × T (f x)
any_to zero f t = absurd t
any_to (suc n) f t = go (f n) refl t (any_to n f)
  where
    go : (b : Bool) → f n ≡ b → T (b || any_b n f) → (T (any_b n f) → (x : ℕ) × (x < n) × T (f x)) → (x : ℕ) × (x < suc n) × T (f x)
    go true e k ih = (n, le_refl (suc n), subst T (sym e) tt)
    go false e k ih = let r = ih k in (r.0, (let l = r.1 in omega arith), r.2)

any_back : (n : ℕ) (f : ℕ → Bool) (x : ℕ) → x < n → T (f x) → T (any_b n f)
any_back zero f x h k = absurd (not-suc-le-zero h)
any_back (suc n) f x h k = go (f n) refl (eq-or-lt_of_le (le_of_suc-le-suc h)) (λ l. any_back n f x l k)
  where
    go : (b : Bool) → f n ≡ b → (x ≡ n) ⊎ (x < n) → (x < n → T (any_b n f)) → T (b || any_b n f)
    go true e q ih = tt
    go false e (inl q) ih = absurd (subst T e (subst (λ (m : ℕ). T (f m)) q k))
    go false e (inr q) ih = ih q

abbrev pub agrees_b : ℕ → ℕ → ℕ → Bool
agrees_b lo hi v = bit_and lo v == lo && bit_and v hi == v

pub agrees_to : (lo hi v : ℕ) → T (agrees_b lo hi v) → Agrees lo hi v
agrees_to lo hi v t =
    agrees_of_within (record { is = eqb→eq (bit_and lo v) lo (and_l (bit_and lo v == lo) (bit_and v hi == v) t) })
    (record { is = eqb→eq (bit_and v hi) v (and_r (bit_and lo v == lo) (bit_and v hi == v) t) })

agrees_back : (lo hi v : ℕ) → Agrees lo hi v → T (agrees_b lo hi v)
agrees_back lo hi v g = and_of (bit_and lo v == lo) (bit_and v hi == v) (same_of (lo_within g).is) (same_of (within_hi g).is)

-- ---- some values of the other positions
abbrev three : ℕ → ℕ → ℕ → Three
three x y z = record { a = x; b = y; c = z }

abbrev other_b : Spot → ℕ → ℕ → Bool
other_b S i j = nat_lt j (positions S) && not (j == i)

abbrev one_of : Bool → ℕ → ℕ → ℕ
one_of true a b = a
one_of false a b = b

-- how many values are tried at a position: all of its width at another position, else only 0
abbrev tried : Spot → ℕ → ℕ → ℕ
tried S i j = one_of (other_b S i j) (2 ^ at S.widths j) 1

-- and which of them pass: at another position, where the kind is held to pairs, those that agree
abbrev pass_b : Spot → ℕ → ℕ → ℕ → Bool
pass_b S i j x = not (other_b S i j) || (not (held_to_pairs S.kind) || agrees_b (at S.los j) (at S.his j) x)

record Tried (S : Spot) (i j x : ℕ) : Type 0 where
  below : x < tried S i j
  pass : T (pass_b S i j x)

-- one of them at position j has a property
abbrev try_b : Spot → ℕ → ℕ → (ℕ → Bool) → Bool
try_b S i j f = any_b (tried S i j) (λ x. pass_b S i j x && f x)

try_to : (S : Spot) (i j : ℕ) (f : ℕ → Bool) → T (try_b S i j f) → (x : ℕ) × Tried S i j x × T (f x)
try_to S i j f k =
    let r = any_to (tried S i j) (λ x. pass_b S i j x && f x) k in
    (r.0, record { below = r.1; pass = and_l (pass_b S i j r.0) (f r.0) r.2 }, and_r (pass_b S i j r.0) (f r.0) r.2)

try_back : (S : Spot) (i j : ℕ) (f : ℕ → Bool) (x : ℕ) → Tried S i j x → T (f x) → T (try_b S i j f)
try_back S i j f x m k = any_back (tried S i j) (λ x. pass_b S i j x && f x) x m.below (and_of (pass_b S i j x) (f x) m.pass k)

abbrev pub reach_b : Spot → ℕ → ℕ → ℕ → Bool
reach_b S t i v = try_b S i 0 (λ x. try_b S i 1 (λ y. try_b S i 2 (λ z. nat_eq (value S (put (three x y z) i v)) t)))

-- what holds of each of three positions
each_of : (P : ℕ → Type 0) → P 0 → P 1 → P 2 → (j : ℕ) → j < 3 → P j
each_of P a b c zero h = a
each_of P a b c (suc zero) h = b
each_of P a b c (suc (suc zero)) h = c
each_of P a b c (suc (suc (suc j))) h = absurd (omega arith)

module _ (S : Spot) (t i v : ℕ) (here : i < positions S) where
  few : (j : ℕ) → j < positions S → j < 3
  few j h = omega (arith, few_positions S.kind)

  other_test : (j : ℕ) → Other S i j → other_b S i j ≡ true
  other_test j q = rw (lt-ltb j (positions S) q.below, ne_eqb j i q.apart)

  test_other : (j : ℕ) → other_b S i j ≡ true → Other S i j
  test_other j e =
      let k = subst T (sym e) tt in
      record {
        below = ltb→lt j (positions S) (and_l (nat_lt j (positions S)) (not (j == i)) k);
        apart = λ q. T_not (j == i) (and_r (nat_lt j (positions S)) (not (j == i)) k) (same_of q);
      }

  admitted_to : (j x : ℕ) → Other S i j → Tried S i j x → Admitted S j x
  admitted_to j x q m = record {
    fits = subst (λ (b : Bool). x < one_of b (2 ^ at S.widths j) 1) (other_test j q) m.below;
    agrees = λ e. agrees_to (at S.los j) (at S.his j) x (passed (held_to_pairs S.kind) _ (subst T (sym e) tt) (passed (other_b S i j) _ (subst T (sym (other_test j q)) tt) m.pass));
  }

  reach_to : T (reach_b S t i v) → Reaches S t i v
  reach_to k =
      let x = try_to S i 0 (λ x. try_b S i 1 (λ y. try_b S i 2 (λ z. nat_eq (value S (put (three x y z) i v)) t))) k in
      let y = try_to S i 1 (λ y. try_b S i 2 (λ z. nat_eq (value S (put (three x.0 y z) i v)) t)) x.2 in
      let z = try_to S i 2 (λ z. nat_eq (value S (put (three x.0 y.0 z) i v)) t) y.2 in
      let o = three x.0 y.0 z.0 in
      let l : (j : ℕ) → j < 3 → Tried S i j (at o j) = each_of (λ j. Tried S i j (at o j)) x.1 y.1 z.1 in
      record {
        others = o;
        admitted = λ j q. admitted_to j (at o j) q (l j (few j q.below));
        gives = eqb→eq (value S (put o i v)) t z.2;
      }

  -- back: at the other positions the values that are given, elsewhere 0
  module _ (m : Reaches S t i v) where
    abbrev keep : ℕ → ℕ
    keep j = one_of (other_b S i j) (at m.others j) 0

    abbrev kept : Three
    kept = three (keep 0) (keep 1) (keep 2)

    kept_at : (j : ℕ) → j < 3 → at kept j ≡ keep j
    kept_at = each_of (λ j. at kept j ≡ keep j) refl refl refl

    keep_tried : (j : ℕ) → Tried S i j (keep j)
    keep_tried j = record { below = go (other_b S i j) refl; pass = asked (other_b S i j) _ (λ e. asked (held_to_pairs S.kind) _ (λ d. pass e d)) }
      where
        go : (b : Bool) → other_b S i j ≡ b → one_of b (at m.others j) 0 < one_of b (2 ^ at S.widths j) 1
        go true e = (m.admitted j (test_other j e)).fits
        go false e = omega arith

        pass : other_b S i j ≡ true → held_to_pairs S.kind ≡ true → T (agrees_b (at S.los j) (at S.his j) (keep j))
        pass e d =
            subst (λ (b : Bool). T (agrees_b (at S.los j) (at S.his j) (one_of b (at m.others j) 0))) (sym e)
            (agrees_back (at S.los j) (at S.his j) (at m.others j) ((m.admitted j (test_other j e)).agrees d))

    same : (j : ℕ) → j < positions S → at (put kept i v) j ≡ at (put m.others i v) j
    same j h = go (j == i) refl
      where
        go : (b : Bool) → (j == i) ≡ b → at (put kept i v) j ≡ at (put m.others i v) j
        go true e = rw (eqb-true j i e) (at_put_same kept i v (few i here) ∙ sym (at_put_same m.others i v (few i here)))
        go false e =
            let f = eqb-false j i e in
            at_put_other kept i v j (few i here) (few j h) f ∙ kept_at j (few j h)
            ∙ ap (λ (b : Bool). one_of b (at m.others j) 0) (other_test j (record { below = h; apart = f }))
            ∙ sym (at_put_other m.others i v j (few i here) (few j h) f)

    reach_back : T (reach_b S t i v)
    reach_back =
        try_back S i 0 (λ x. try_b S i 1 (λ y. try_b S i 2 (λ z. nat_eq (value S (put (three x y z) i v)) t))) (keep 0) (keep_tried 0)
        (try_back S i 1 (λ y. try_b S i 2 (λ z. nat_eq (value S (put (three (keep 0) y z) i v)) t)) (keep 1) (keep_tried 1)
        (try_back S i 2 (λ z. nat_eq (value S (put (three (keep 0) (keep 1) z) i v)) t) (keep 2) (keep_tried 2)
        (same_of (value_used S (put kept i v) (put m.others i v) same ∙ m.gives))))

-- ---- the two sets
abbrev pub inverse_b : Spot → ℕ → ℕ → ℕ → Bool
inverse_b S t i v = agrees_b (at S.los i) (at S.his i) v && value S (put S.current i v) == t

abbrev pub consistent_b : Spot → ℕ → ℕ → ℕ → Bool
consistent_b S t i v = agrees_b (at S.los i) (at S.his i) v && reach_b S t i v

module _ (S : Spot) (t i : ℕ) (under : at S.his i < 2 ^ at S.widths i) where
  abbrev agrees_at : ℕ → Bool
  agrees_at v = agrees_b (at S.los i) (at S.his i) v

  -- agreement and a second test are a test of both facts
  both_to : {P : Type 0} (v : ℕ) (b : Bool) → (T b → P) → T (agrees_at v && b) → Agrees (at S.los i) (at S.his i) v × P
  both_to v b f k = (agrees_to (at S.los i) (at S.his i) v (and_l (agrees_at v) b k), f (and_r (agrees_at v) b k))

  both_back : (v : ℕ) (f : ℕ → Bool) → Agrees (at S.los i) (at S.his i) v → T (f v) → Passes (2 ^ at S.widths i) (λ v. agrees_at v && f v) v
  both_back v f g k = record { below = agrees_lt (at S.widths i) under g; passes = and_of (agrees_at v) (f v) (agrees_back (at S.los i) (at S.his i) v g) k }

  pub inverse_to : (v : ℕ) → Passes (2 ^ at S.widths i) (inverse_b S t i) v → Inverse S t i v
  inverse_to v m =
      let k = both_to v (value S (put S.current i v) == t) (eqb→eq (value S (put S.current i v)) t) m.passes in
      record { agrees = k.0; gives = k.1 }

  pub inverse_back : (v : ℕ) → Inverse S t i v → Passes (2 ^ at S.widths i) (inverse_b S t i) v
  inverse_back v m = both_back v (λ v. nat_eq (value S (put S.current i v)) t) m.agrees (same_of m.gives)

  module _ (here : i < positions S) where
    pub consistent_to : (v : ℕ) → Passes (2 ^ at S.widths i) (consistent_b S t i) v → Consistent S t i v
    consistent_to v m =
        let k = both_to v (reach_b S t i v) (reach_to S t i v here) m.passes in
        record { agrees = k.0; reaches = k.1 }

    pub consistent_back : (v : ℕ) → Consistent S t i v → Passes (2 ^ at S.widths i) (consistent_b S t i) v
    consistent_back v m = both_back v (reach_b S t i) m.agrees (reach_back S t i v here m.reaches)
