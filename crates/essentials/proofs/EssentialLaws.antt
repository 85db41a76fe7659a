-- Laws of essential positions: of one, of two, and of the positions of `if`.
use Rattle.std.specs.Prelude.{Option, Some, None, is_some, ◌||◌}
use mathlib.Core.Path.{◌≡◌, refl, sym, ap, ◌∙◌}
use mathlib.Core.Bool.{Bool, true, false, not}
use mathlib.Core.Logic.{◌⊎◌, inl, inr, ⊎_elim}
use Prim.Native.Nat.{ℕ, ◌-◌, ◌^◌, ◌≤◌, ◌<◌}
use native.Mathlib.Nat.{le_of_lt}
use native.Mathlib.Omega.{arith}
use lib.Dec.{eqb}
use Rattle.words.specs.Agree.{Agrees}
use Rattle.words.specs.laws.Agree.{agrees_lt}
use Rattle.words.specs.inner.Decides.{Decides}
use Rattle.words.specs.laws.Decides.{decides_same, decides_not, decides_eq}
use Rattle.words.specs.Pick.{Empty, Picked}
use Rattle.words.specs.laws.Pick.{pick_member}
use Rattle.picking.specs.declared.spot.Three.{Three}
use Rattle.picking.specs.declared.spot.Spot.{Spot}
use Rattle.picking.specs.Spot.{at, put, positions, value, held_to_pairs, Inverse, Reaches, Essential, Fair, Asked}
use Rattle.picking.specs.laws.Positions.{at_put_same, value_used, two_by_two, other_of}
use Rattle.picking.specs.inner.Asks.{branch_of, Had}
use Rattle.essentials.specs.inner.Asks.{Alone}
use Rattle.picking.specs.laws.If.{condition_to, condition_back, branch_to, branch_back}
use Rattle.picking.specs.laws.Fair.{slot_lt, count_at, rule_at, slot_at}

-- ---- of one position, as not, extract and sign extension have: no others can help
module _ (S : Spot) (F : Fair S) where
  -- what code asks of the operator, and what it is told
  pub not_fits : S.kind ≡ 2 → S.current.a < 2 ^ S.width
  not_fits e = rw (rule_at F e) at (slot_lt (slot_at F e 0 (omega arith)))

  pub sext_fits : S.kind ≡ 16 → (1 ≤ S.widths.a) × (S.widths.a ≤ S.width) × (S.width ≤ 64) × (S.current.a < 2 ^ S.widths.a)
  sext_fits e = let s = slot_at F e 0 (omega arith) in (s.some, le_of_lt (rule_at F e), F.wide, slot_lt s)

  pub alone_one : Alone S.kind → positions S ≡ 1
  alone_one = ⊎_elim (count_at F) (⊎_elim (count_at F) (count_at F))

-- a test of what agrees, with the pair as it was read
pub decides_read : {l h x y : ℕ} (t : ℕ) (b : Bool) → l ≡ x → h ≡ y → Decides (Agrees l h t) b → Decides (Agrees x y t) b
decides_read t b e f d = rw (e, f) at d

-- a test of either
pub decides_either : (A B : Type 0) (a b : Bool) → Decides A a → Decides B b → Decides (A ⊎ B) (a || b)
decides_either A B true b p q = inl p
decides_either A B false true p q = inr q
decides_either A B false false p q = ⊎_elim p q

-- the last of the three kinds
pub third : {n : ℕ} → Alone n → (n ≡ 2 → ⊥) → (n ≡ 13 → ⊥) → n ≡ 16
third (inl e) f g = absurd (f e)
third (inr (inl e)) f g = absurd (g e)
third (inr (inr e)) f g = e

pub alone : (S : Spot) (t r : ℕ) → positions S ≡ 1 → r ≡ value S S.current → Decides (Essential S t 0) (not (eqb r t))
unfolding Essential
alone S t r one e =
    decides_same (r ≡ t → ⊥) (Essential S t 0) (λ f o g m. f (e ∙ sym (same o) ∙ m))
    (λ E q. E S.current (λ j l. absurd (l.apart (omega (arith, l.below, one)))) (same S.current ∙ sym e ∙ q)) (not (eqb r t))
    (decides_not (r ≡ t) (eqb r t) (decides_eq r t))
  where
    same : (o : Three) → value S (put o 0 S.current.a) ≡ value S S.current
    same o = value_used S (put o 0 S.current.a) S.current (λ j l. first j (omega (arith, l, one)))
      where
        first : (j : ℕ) → j ≡ 0 → at (put o 0 S.current.a) j ≡ at S.current j
        first j e = rw e

-- ---- of two: the other position's value, with this one's current one
module _ (S : Spot) (t i : ℕ) (two : positions S ≡ 2) (h : i < 2) where
  swapped : (o : Three) → value S (put S.current (1 - i) (at o (1 - i))) ≡ value S (put o i (at S.current i))
  swapped o =
      value_used S (put S.current (1 - i) (at o (1 - i))) (put o i (at S.current i))
      (λ j l. two_by_two (λ i j. at (put S.current (1 - i) (at o (1 - i))) j ≡ at (put o i (at S.current i)) j) i j h (rw two at l) refl refl refl refl)

  two_yes : Empty (Inverse S t (1 - i)) → Essential S t i
  unfolding Essential
  two_yes f o g m = f (at o (1 - i)) (record { agrees = g (1 - i) (record { below = rw two (omega arith); apart = λ e. omega arith }); gives = swapped o ∙ m })

  two_no : (v : ℕ) → Inverse S t (1 - i) v → Essential S t i → ⊥
  unfolding Essential
  two_no v m E =
      E (put S.current (1 - i) v)
      (λ j l. let e = other_of i j h (rw two at l.below) l.apart in rw (e, at_put_same S.current (1 - i) v (omega arith)) m.agrees)
      (sym (swapped (put S.current (1 - i) v)) ∙ ap (λ (n : ℕ). value S (put S.current (1 - i) n)) (at_put_same S.current (1 - i) v (omega arith)) ∙ m.gives)

-- as code finds it out, by a pick at the other position
pub two_told : {S : Spot} {t i : ℕ} → Asked S i t → positions S ≡ 2 → (r : Option ℕ) → Picked (Inverse S t (1 - i)) 0 r → (b : Bool) → is_some r ≡ not b → Decides (Essential S t i) b
two_told {S} {t} {i} A two None k true e = two_yes S t i two (rw two at A.position) k
two_told {S} {t} {i} A two (Some v) k false e = two_no S t i two (rw two at A.position) v (pick_member k)
two_told A two None k false e = cc
two_told A two (Some v) k true e = cc

-- ---- of a kind that is held to pairs: what the current value does not reach with them
held_essential : (S : Spot) (t i : ℕ) → Fair S → held_to_pairs S.kind ≡ true → (b : Bool) → Decides (Reaches S t i (at S.current i)) b → Decides (Essential S t i) (not b)
unfolding Essential
held_essential S t i F held b d =
    decides_same (Reaches S t i (at S.current i) → ⊥) (Essential S t i)
    (λ f o g m. f (record { others = o; admitted = λ j q. record { fits = agrees_lt (at S.widths j) (F.slots j q.below).under (g j q); agrees = λ _. g j q }; gives = m }))
    (λ E m. E m.others (λ j q. (m.admitted j q).agrees held) m.gives) (not b)
    (decides_not (Reaches S t i (at S.current i)) b d)

-- of `if`
module _ (S : Spot) (t : ℕ) (F : Fair S) (key : S.kind ≡ 11) where
  pub condition : (j : ℕ) → branch_of S.current.a ≡ j → 1 ≤ j → j < 3 → (b : Bool) → Decides (Agrees (at S.los j) (at S.his j) t) b → Decides (Essential S t 0) (not b)
  condition j e l h b d =
      held_essential S t 0 F (ap held_to_pairs key) b
      (decides_same (Agrees (at S.los j) (at S.his j) t) (Reaches S t 0 S.current.a) (condition_to S t F key S.current.a j e l h) (condition_back S t F key S.current.a j e l h) b d)

  pub branch : (i : ℕ) → 1 ≤ i → i < 3 → (b : Bool) → Decides (Had S.los.a S.his.a (2 - i) (at S.current i) (at S.los (3 - i)) (at S.his (3 - i)) t) b → Decides (Essential S t i) (not b)
  branch i l h b d =
      held_essential S t i F (ap held_to_pairs key) b
      (decides_same (Had S.los.a S.his.a (2 - i) (at S.current i) (at S.los (3 - i)) (at S.his (3 - i)) t) (Reaches S t i (at S.current i)) (branch_to S t F key i l h (at S.current i)) (branch_back S t F key i l h (at S.current i)) b d)
