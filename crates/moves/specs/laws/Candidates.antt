-- Which positions of a node are essential, and which are candidates, can be decided: by a search, never run, among the
-- values up to the operands' hi, and 0 at the positions that do not bear.
use Rattle.std.specs.Prelude.{◌≡◌, refl, ◌⊎◌, ℕ, suc, ◌≤◌, ◌<◌}
use Rattle.std.proofs.Common.{sym, ◌∙◌, inl, inr, zero-le, arith}
use Rattle.std.proofs.Math.Decide.{ℕ_discrete, dec_lt}
use Rattle.words.specs.Agree.{Agrees}
use Rattle.words.specs.laws.Agree.{within_hi, within_le}
use Rattle.picking.specs.declared.spot.Three.{Three}
use Rattle.picking.specs.declared.spot.Spot.{Spot}
use Rattle.picking.specs.Spot.{at, put, positions, Other, value, Essential, NoneEssential, Candidate}
use Rattle.nodes.specs.Problem.{three}
use Rattle.picking.specs.laws.Positions.{few_positions, at_put_same, at_put_other, value_used}
use Rattle.nodes.specs.laws.Positions.{at_three}
use Rattle.evaluation.specs.laws.Decide.{dec_not, dec_both, dec_either, dec_map, dec_agrees, Some, dec_some, dec_all, DecBelow}

-- v where A holds, else 0
abbrev keep : {A : Type 0} → Dec A → ℕ → ℕ
keep (yes a) v = v
keep (no x) v = 0

keep_yes : {A : Type 0} (d : Dec A) (v : ℕ) → A → keep d v ≡ v
keep_yes (yes a) v h = refl
keep_yes (no x) v h = absurd (x h)

keep_le : {A : Type 0} (d : Dec A) (v m : ℕ) → (A → v ≤ m) → keep d v ≤ m
keep_le (yes a) v m h = h a
keep_le (no x) v m h = zero-le

module _ (S : Spot) (t i : ℕ) (il : i < positions S) where
  abbrev Agree : Three → ℕ → Type 0
  Agree o j = Agrees (at S.los j) (at S.his j) (at o j)

  -- others that give t while position i keeps its current value
  record Others (o : Three) : Type 0 where
    agree : (j : ℕ) → Other S i j → Agree o j
    give : value S (put o i (at S.current i)) ≡ t

  inside : (j : ℕ) → j < positions S → j < 3
  inside j h = omega (arith, few_positions S.kind)

  dec_other : (j : ℕ) → Dec (Other S i j)
  dec_other j =
      dec_map (λ p. record { below = p.0; apart = p.1 }) (λ o. (o.below, o.apart))
      (dec_both (dec_lt j (positions S)) (dec_not (ℕ_discrete j i)))

  dec_others : (o : Three) → Dec (Others o)
  dec_others o =
      dec_map
      (λ p. record { agree = λ j k. elim (p.0 j k.below) [ inl e ↦ absurd (k.apart e) | inr a ↦ a ]; give = p.1 })
      (λ q. ((λ j l. elim (ℕ_discrete j i) [ yes e ↦ inl e | no x ↦ inr (q.agree j (record { below = l; apart = x })) ]), q.give))
      (dec_both
      (dec_all (λ j. (j ≡ i) ⊎ Agree o j) (positions S) (λ j l. dec_either (ℕ_discrete j i) (dec_agrees _ _ _)))
      (ℕ_discrete _ t))

  -- o with 0 where its value does not bear
  trimmed : Three → Three
  trimmed o = three 3 (λ j. keep (dec_other j) (at o j))

  at_trimmed : (o : Three) (j : ℕ) → j < 3 → at (trimmed o) j ≡ keep (dec_other j) (at o j)
  unfolding trimmed
  at_trimmed o j l = at_three 3 (λ j. keep (dec_other j) (at o j)) j l (omega arith)

  at_kept : (o : Three) (j : ℕ) → Other S i j → at (trimmed o) j ≡ at o j
  at_kept o j k = at_trimmed o j (inside j k.below) ∙ keep_yes (dec_other j) (at o j) k

  others_trimmed : (o : Three) → Others o → Others (trimmed o)
  others_trimmed o q =
      record {
        agree = λ j k. rw (at_kept o j k) (q.agree j k);
        give = value_used S _ _ same ∙ q.give;
      }
    where
      c : ℕ
      c = at S.current i

      same : (j : ℕ) → j < positions S → at (put (trimmed o) i c) j ≡ at (put o i c) j
      same j l =
          elim (ℕ_discrete j i) [
            | yes e ↦ rw e (at_put_same (trimmed o) i c (inside i il) ∙ sym (at_put_same o i c (inside i il)))
            | no x ↦
                at_put_other (trimmed o) i c j (inside i il) (inside j l) x
                ∙ at_kept o j (record { below = l; apart = x })
                ∙ sym (at_put_other o i c j (inside i il) (inside j l) x)
          ]

  trimmed_le : (o : Three) → Others o → (j : ℕ) → j < 3 → at (trimmed o) j < suc (at S.his j)
  trimmed_le o q j l =
      omega (arith, at_trimmed o j l, keep_le (dec_other j) (at o j) (at S.his j) (λ k. within_le (within_hi (q.agree j k))))

  -- the search, position by position
  abbrev At-c : ℕ → ℕ → ℕ → Type 0
  At-c x y z = Others (record { a = x; b = y; c = z })

  abbrev At-b : ℕ → ℕ → Type 0
  At-b x y = Some (At-c x y) (suc S.his.c)

  abbrev At-a : ℕ → Type 0
  At-a x = Some (At-b x) (suc S.his.b)

  dec_search : Dec (Some At-a (suc S.his.a))
  dec_search =
      dec_some At-a _ (λ x _. dec_some (At-b x) _ (λ y _. dec_some (At-c x y) _ (λ z _. dec_others (record { a = x; b = y; c = z }))))

  searched : (o : Three) → Others o → Some At-a (suc S.his.a)
  searched o q =
      let le = trimmed_le o q in
      record {
        at = at (trimmed o) 0;
        at_lt = le 0 (omega arith);
        holds =
            record {
              at = at (trimmed o) 1;
              at_lt = le 1 (omega arith);
              holds = record { at = at (trimmed o) 2; at_lt = le 2 (omega arith); holds = others_trimmed o q };
            };
      }

  pub dec_essential : Dec (Essential S t i)
  unfolding Essential
  dec_essential =
      elim dec_search [
        | yes s ↦
            let q = s.holds.holds.holds in
            no (λ e. e (record { a = s.at; b = s.holds.at; c = s.holds.holds.at }) q.agree q.give)
        | no x ↦ yes (λ o ag gi. x (searched o (record { agree = ag; give = gi })))
      ]

module _ (S : Spot) (t : ℕ) where
  pub dec_none : Dec (NoneEssential S t)
  unfolding NoneEssential
  dec_none = dec_all (λ j. Essential S t j → ⊥) (positions S) (λ j l. dec_not (dec_essential S t j l))

  pub dec_candidate : DecBelow (Candidate S t) (positions S)
  dec_candidate i l =
      dec_map (λ p. record { wanted = p.0; open_bits = p.1 }) (λ c. (c.wanted, c.open_bits))
      (dec_both (dec_either (dec_essential S t i l) dec_none) (dec_not (ℕ_discrete (at S.los i) (at S.his i))))
