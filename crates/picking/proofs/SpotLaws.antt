-- Laws of spots: what the arms of a match on the kind know, and what an arm's set comes to at the spot.
use Rattle.std.specs.Prelude.{Option}
use Rattle.std.proofs.Common.{◌≡◌, ℕ, zero, suc, ◌+◌, ◌-◌, ◌%◌, ◌^◌, ◌<◌, ◌≤◌, true, false, T, sym, refl, ap, ◌∙◌, subst, le_of_eq, le_refl, mod-lt, mod-eq_of_lt, arith, pow_pos}
use native.Mathlib.Nat.{add-mod-mod, add-mod_right}
use Rattle.words.specs.Agree.{Agrees}
use Rattle.words.specs.laws.Agree.{agrees_lt}
use Rattle.words.specs.Pick.{Picked}
use Rattle.words.specs.laws.Pick.{picked_same}
use Rattle.operators.specs.declared.table.Rule.TheVariants.{Equal}
use Rattle.operators.specs.Table.{kind_of, row, shape_of}
use Rattle.operators.specs.laws.Table.{evenly, even_widths}
use Rattle.operators.specs.laws.Meaning.{even_two}
use Rattle.operators.specs.Meaning.{meaning}
use Rattle.fixed.specs.Fixed.{pair}
use Rattle.fixed.specs.inner.Pairs.{Ternary}
use Rattle.picking.specs.declared.spot.Three.{Three}
use Rattle.picking.specs.declared.spot.Spot.{Spot}
use Rattle.boxes.specs.declared.Set.{Set}
use Rattle.picking.specs.Spot.{at, put, positions, value, held_to_pairs, Admitted, Reaches, Slot, Asked}
use Rattle.picking.specs.laws.Positions.{at_put_same, value_used, two_of, two_by_two, other_of}
use Rattle.picking.specs.laws.Fair.{slot_lt, rule_at, count_at, slot_at, place}
use Rattle.boxes.specs.inner.Boxes.{Solves, Chosen, Every, SomeOf, SomeWord, SomeAgreeing}
use Rattle.picking.specs.declared.picks.Values.{Values}
use Rattle.picking.specs.declared.picks.Values.TheVariants.{Inverse as InverseOnes, Consistent as ConsistentOnes}
use Rattle.picking.specs.inner.Asks.{Short, joint, side_of, Joined, Meets, Wanted}
use Rattle.picking.proofs.ArithmeticLaws.{sum_comm}
use Rattle.boxes.specs.laws.Solves.{solves_by, solves_all}

-- ---- by position

joint_at : (i v s : ℕ) → i < 2 → at (joint i v s) (1 - i) ≡ s
joint_at i v s h = two_of (λ i. at (joint i v s) (1 - i) ≡ s) i h refl refl

-- ---- what an arm knows of a spot of its kind
pub wide_at : {S : Spot} {i t : ℕ} → Asked S i t → at S.widths i ≤ 64
wide_at {S} {i} A = (A.fair.slots i A.position).wide

module _ {S : Spot} {i t m : ℕ} (A : Asked S i t) (key : S.kind ≡ m) where
  -- the other operand's current value
  other_lt : {y : ℕ} → 1 < (shape_of m).operands → y ≡ at S.current (1 - i) → y < 2 ^ at S.widths (1 - i)
  other_lt h e = rw e (slot_lt (slot_at A.fair key (1 - i) (omega arith)))

  -- the other operand's pair
  pub other_pair : {l h : ℕ} → 1 < (shape_of m).operands → l ≡ at S.los (1 - i) → h ≡ at S.his (1 - i) → Ternary (at S.widths (1 - i)) (pair l h)
  other_pair h el eh = let s = slot_at A.fair key (1 - i) (omega arith) in record { ordered = rw (el, eh) s.ordered; short = rw eh s.under }

  -- both operands have the node's width
  module _ (both : evenly (shape_of m).rule ≡ true) where
    both_two : (shape_of m).operands ≡ 2
    both_two = even_two (kind_of m) both

    both_width : (j : ℕ) → j < 2 → at S.widths j ≡ S.width
    both_width j h =
        let e = even_widths (shape_of m).rule _ _ _ _ _ both (rule_at A.fair key) in
        two_of (λ j. at S.widths j ≡ S.width) j h e.0 e.1

    both_wide : at S.widths i ≤ S.width
    both_wide = le_of_eq (both_width i (rw both_two at (place A key)))

    both_other : at S.widths (1 - i) ≡ S.width
    both_other = both_width (1 - i) (omega arith)

    pub both_lt : {y : ℕ} → y ≡ at S.current (1 - i) → y < 2 ^ S.width
    both_lt e = rw both_other at (other_lt (rw both_two (omega arith)) e)

  -- a test has operands of one width, and its target is a bit
  module _ (equal : shape_of m ≡ row 2 2 Equal) where
    equal_rule : (S.widths.a ≡ S.widths.b) × (S.width ≡ 1)
    equal_rule = rw equal at (rule_at A.fair key)

    equal_width : (j : ℕ) → j < 2 → at S.widths j ≡ S.widths.a
    equal_width j h = two_of (λ j. at S.widths j ≡ S.widths.a) j h refl (sym equal_rule.0)

    pub flag_target : t < 2
    flag_target = rw equal_rule.1 at A.target

-- concat
pub joined_at : {S : Spot} {i t : ℕ} → Asked S i t → S.kind ≡ 12 → Joined i S.widths.a S.widths.b t
joined_at {S} {i} {t} A key =
    let e : S.widths.a + S.widths.b ≡ S.width = rule_at A.fair key in
    record {
      position = place A key;
      some = (slot_at A.fair key 0 (omega arith)).some;
      wide = omega (arith, e, A.fair.wide);
      fits = rw e A.target;
    }

-- division
pub short_at : {S : Spot} {i t : ℕ} → Asked S i t → S.kind ≡ 17 → Short S.width t
short_at A key = record { some = A.fair.some; short = (rule_at A.fair key).2; fits = A.target }

side_at : (S : Spot) (i : ℕ) → i < 2 → side_of i S.widths.a S.widths.b ≡ at S.widths i
side_at S i h = two_of (λ i. side_of i S.widths.a S.widths.b ≡ at S.widths i) i h refl refl

-- ---- what an arm's set comes to: with the others at their current values

-- an operator of two operands sees v and what stands at the other position
value_joint : (S : Spot) (x : Three) (i v : ℕ) → positions S ≡ 2 → i < 2 → value S (put x i v) ≡ value S (joint i v (at x (1 - i)))
value_joint S x i v two h =
    value_used S (put x i v) (joint i v (at x (1 - i)))
    (λ j l. two_by_two (λ i j. at (put x i v) j ≡ at (joint i v (at x (1 - i))) j) i j h (rw two at l) refl refl refl refl)

module _ {S : Spot} {i t m : ℕ} (A : Asked S i t) (key : S.kind ≡ m) where
  abbrev pub op_at : Three → ℕ
  op_at q = meaning (kind_of m) S.width S.widths.a S.widths.b S.low q.a q.b q.c

  op_at_lem : (q : Three) → value S q ≡ op_at q
  op_at_lem q = ap (λ (n : ℕ). meaning (kind_of n) S.width S.widths.a S.widths.b S.low q.a q.b q.c) key

  pub arm : {u : ℕ} {r : Set} → at S.widths i ≤ u → Solves u (λ v. op_at (put S.current i v) ≡ t) r → Solves (at S.widths i) (λ v. value S (put S.current i v) ≡ t) r
  arm h s = solves_by h s (λ v l e. op_at_lem (put S.current i v) ∙ e) (λ v l e. sym (op_at_lem (put S.current i v)) ∙ e)

  pub arm_one : {u : ℕ} {r : Set} → (shape_of m).operands ≡ 1 → S.widths.a ≤ u → Solves u (λ v. op_at (put S.current 0 v) ≡ t) r → Solves (at S.widths i) (λ v. value S (put S.current i v) ≡ t) r
  arm_one {u} one h s = let e : i ≡ 0 = omega (arith, place A key, one) in arm {u = u} (rw e h) (rw e s)

  module _ (two : (shape_of m).operands ≡ 2) where
    place_two : i < 2
    place_two = rw two at (place A key)

    arm_two : {u y : ℕ} {r : Set} → at S.widths i ≤ u → y ≡ at S.current (1 - i) → Solves u (λ v. op_at (joint i v y) ≡ t) r
        → Solves (at S.widths i) (λ v. value S (put S.current i v) ≡ t) r
    arm_two {u} {y} h e s = solves_by h s (λ v l k. same v ∙ k) (λ v l k. sym (same v) ∙ k)
      where
        same : (v : ℕ) → value S (put S.current i v) ≡ op_at (joint i v y)
        same v = value_joint S S.current i v (count_at A.fair key ∙ two) place_two ∙ ap (λ (n : ℕ). value S (joint i v n)) (sym e) ∙ op_at_lem (joint i v y)

    -- ---- and with some values of the others, where B is what is admitted at the other position
    module _ {B : ℕ → Type 0} (to : (s : ℕ) → B s → Admitted S (1 - i) s) (back : (s : ℕ) → Admitted S (1 - i) s → B s) where
      to_reach : (v : ℕ) → SomeOf B (λ s. op_at (joint i v s) ≡ t) → Reaches S t i v
      to_reach v m = record {
        others = joint i v m.by;
        admitted = λ j q. let d = other_of i j place_two (rw (count_at A.fair key, two) at q.below) q.apart in rw (d, joint_at i v m.by place_two) (to m.by m.fits);
        gives = two_of (λ i. value S (put (joint i v m.by) i v) ≡ value S (joint i v m.by)) i place_two refl refl ∙ op_at_lem (joint i v m.by) ∙ m.gives;
      }

      of_reach : (v : ℕ) → Reaches S t i v → SomeOf B (λ s. op_at (joint i v s) ≡ t)
      of_reach v m = record {
        by = at m.others (1 - i);
        fits = back (at m.others (1 - i)) (m.admitted (1 - i) (record { below = rw (count_at A.fair key, two) (omega arith); apart = λ q. omega (arith, place_two) }));
        gives = sym (op_at_lem (joint i v (at m.others (1 - i)))) ∙ sym (value_joint S m.others i v (count_at A.fair key ∙ two) place_two) ∙ m.gives;
      }

      reach_two : {u : ℕ} {r : Set} → at S.widths i ≤ u → Solves u (λ v. SomeOf B (λ s. op_at (joint i v s) ≡ t)) r → Solves (at S.widths i) (λ v. Reaches S t i v) r
      reach_two h s = solves_by h s (λ v l m. to_reach v m) (λ v l m. of_reach v m)

    other_slot : Slot (at S.widths (1 - i)) (at S.los (1 - i)) (at S.his (1 - i)) (at S.current (1 - i))
    other_slot = slot_at A.fair key (1 - i) (rw two (omega arith))

    -- a kind that is held to pairs: what agrees
    pub held_reach : {u l h : ℕ} {r : Set} → held_to_pairs m ≡ true → l ≡ at S.los (1 - i) → h ≡ at S.his (1 - i) → at S.widths i ≤ u
        → Solves u (λ v. SomeAgreeing l h (λ s. op_at (joint i v s) ≡ t)) r → Solves (at S.widths i) (λ v. Reaches S t i v) r
    held_reach held el eh =
        reach_two
        (λ s g. let a : Agrees (at S.los (1 - i)) (at S.his (1 - i)) s = rw (el, eh) at g in record { fits = agrees_lt (at S.widths (1 - i)) other_slot.under a; agrees = λ _. a })
        (λ s g. rw (el, eh) (g.agrees (ap held_to_pairs key ∙ held)))

    -- any other kind: what has the width
    free_reach : {u k : ℕ} {r : Set} → held_to_pairs m ≡ false → at S.widths (1 - i) ≡ k → at S.widths i ≤ u
        → Solves u (λ v. SomeWord k (λ s. op_at (joint i v s) ≡ t)) r → Solves (at S.widths i) (λ v. Reaches S t i v) r
    free_reach free e = reach_two (λ s l. record { fits = rw e l; agrees = λ q. absurd (subst T (sym q ∙ ap held_to_pairs key ∙ free) tt) }) (λ s g. rw e at g.fits)

-- the same by width: sets of 64 bits, operands of the node's width, the two sides of a concat
module _ {S : Spot} {i t m : ℕ} (A : Asked S i t) (key : S.kind ≡ m) where
  pub wide_arm : {y : ℕ} {r : Set} → (shape_of m).operands ≡ 2 → y ≡ at S.current (1 - i) → Solves 64 (λ v. op_at A key (joint i v y) ≡ t) r
      → Solves (at S.widths i) (λ v. value S (put S.current i v) ≡ t) r
  wide_arm two = arm_two A key two (wide_at A)

  module _ (both : evenly (shape_of m).rule ≡ true) where
    pub both_arm : {y : ℕ} {r : Set} → y ≡ at S.current (1 - i) → Solves S.width (λ v. op_at A key (joint i v y) ≡ t) r → Solves (at S.widths i) (λ v. value S (put S.current i v) ≡ t) r
    both_arm = arm_two A key (both_two A key both) (both_wide A key both)

    pub both_reach : {r : Set} → held_to_pairs m ≡ false → Solves S.width (λ v. SomeWord S.width (λ s. op_at A key (joint i v s) ≡ t)) r → Solves (at S.widths i) (λ v. Reaches S t i v) r
    both_reach free = free_reach A key (both_two A key both) free (both_other A key both) (both_wide A key both)

  pub equal_lt : {y : ℕ} → shape_of m ≡ row 2 2 Equal → y ≡ at S.current (1 - i) → y < 2 ^ S.widths.a
  equal_lt equal e = rw (equal_width A key equal (1 - i) (omega arith)) at (other_lt A key (rw equal (omega arith)) e)

  pub equal_arm : {y : ℕ} {r : Set} → shape_of m ≡ row 2 2 Equal → y ≡ at S.current (1 - i) → Solves S.widths.a (λ v. op_at A key (joint i v y) ≡ t) r
      → Solves (at S.widths i) (λ v. value S (put S.current i v) ≡ t) r
  equal_arm equal = arm_two A key (rw equal) (le_of_eq (equal_width A key equal i (rw equal at (place A key))))

  pub wide_reach : {l h : ℕ} {r : Set} → (shape_of m).operands ≡ 2 → held_to_pairs m ≡ true → l ≡ at S.los (1 - i) → h ≡ at S.his (1 - i) → Solves 64 (λ v. SomeAgreeing l h (λ s. op_at A key (joint i v s) ≡ t)) r
      → Solves (at S.widths i) (λ v. Reaches S t i v) r
  wide_reach two held el eh = held_reach A key two held el eh (wide_at A)

  pub equal_reach : {l h : ℕ} {r : Set} → shape_of m ≡ row 2 2 Equal → held_to_pairs m ≡ true → l ≡ at S.los (1 - i) → h ≡ at S.his (1 - i) → Solves S.widths.a (λ v. SomeAgreeing l h (λ s. op_at A key (joint i v s) ≡ t)) r
      → Solves (at S.widths i) (λ v. Reaches S t i v) r
  equal_reach equal held el eh = held_reach A key (rw equal) held el eh (le_of_eq (equal_width A key equal i (rw equal at (place A key))))

  module _ (two : (shape_of m).operands ≡ 2) where
    here : side_of i S.widths.a S.widths.b ≡ at S.widths i
    here = side_at S i (rw two at (place A key))

    there : side_of (1 - i) S.widths.a S.widths.b ≡ at S.widths (1 - i)
    there = side_at S (1 - i) (omega arith)

    pub side_lt : {y : ℕ} → y ≡ at S.current (1 - i) → y < 2 ^ side_of (1 - i) S.widths.a S.widths.b
    side_lt e = rw there (other_lt A key (rw two (omega arith)) e)

    pub side_short : {l h : ℕ} → l ≡ at S.los (1 - i) → h ≡ at S.his (1 - i) → h < 2 ^ side_of (1 - i) S.widths.a S.widths.b
    side_short el eh = rw there (other_pair A key (rw two (omega arith)) el eh).short

    pub side_arm : {y : ℕ} {r : Set} → y ≡ at S.current (1 - i) → Solves (side_of i S.widths.a S.widths.b) (λ v. op_at A key (joint i v y) ≡ t) r
        → Solves (at S.widths i) (λ v. value S (put S.current i v) ≡ t) r
    side_arm = arm_two A key two (le_of_eq (sym here))

    pub side_reach : {l h : ℕ} {r : Set} → held_to_pairs m ≡ true → l ≡ at S.los (1 - i) → h ≡ at S.his (1 - i) → Solves (side_of i S.widths.a S.widths.b) (λ v. SomeAgreeing l h (λ s. op_at A key (joint i v s) ≡ t)) r
        → Solves (at S.widths i) (λ v. Reaches S t i v) r
    side_reach held el eh = held_reach A key two held el eh (le_of_eq (sym here))

-- an operator that does not mind the order
alike : {f : ℕ → ℕ → ℕ} → ((x y : ℕ) → f x y ≡ f y x) → (i v s : ℕ) → f (joint i v s).a (joint i v s).b ≡ f v s
alike comm zero v s = refl
alike comm (suc i) v s = comm s v

module _ {f : ℕ → ℕ → ℕ} (comm : (x y : ℕ) → f x y ≡ f y x) (i : ℕ) {u t : ℕ} {r : Set} where
  pub alike_by : {s : ℕ} → Solves u (λ v. f v s ≡ t) r → Solves u (λ v. f (joint i v s).a (joint i v s).b ≡ t) r
  alike_by {s} m = solves_by (le_refl u) m (λ v l e. alike comm i v s ∙ e) (λ v l e. sym (alike comm i v s) ∙ e)

  pub alike_some : {B : ℕ → Type 0} → Solves u (λ v. SomeOf B (λ s. f v s ≡ t)) r → Solves u (λ v. SomeOf B (λ s. f (joint i v s).a (joint i v s).b ≡ t)) r
  alike_some m =
      solves_by (le_refl u) m (λ v l e. record { by = e.by; fits = e.fits; gives = alike comm i v e.by ∙ e.gives })
      (λ v l e. record { by = e.by; fits = e.fits; gives = sym (alike comm i v e.by) ∙ e.gives })

-- no others: consistent is inverse
pub reach_one : {S : Spot} {i t : ℕ} {r : Set} → Asked S i t → positions S ≡ 1 → Solves (at S.widths i) (λ v. value S (put S.current i v) ≡ t) r → Solves (at S.widths i) (λ v. Reaches S t i v) r
reach_one {S} {i} {t} A one s =
    solves_by (le_refl _) s
    (λ v l e. record { others = S.current; admitted = λ j q. absurd (q.apart (omega (arith, q.below, A.position, one))); gives = e })
    (λ v l m. value_used S (put S.current i v) (put m.others i v) (λ j h. same v m.others j (omega (arith, h, A.position, one))) ∙ m.gives)
  where
    few : i < 3
    few = omega (arith, A.position, one)

    same : (v : ℕ) (o : Three) (j : ℕ) → j ≡ i → at (put S.current i v) j ≡ at (put o i v) j
    same v o j e = rw e (at_put_same S.current i v few ∙ sym (at_put_same o i v few))

-- ---- of add the other makes up for any value
pub reach_add : {S : Spot} {i t : ℕ} {r : Set} (A : Asked S i t) (key : S.kind ≡ 5) → Solves 64 Every r → Solves (at S.widths i) (λ v. Reaches S t i v) r
reach_add {S} {i} {t} A key s = both_reach A key refl refl (alike_some (sum_comm S.width) i (solves_all A.fair.wide s other))
  where
    other : (v : ℕ) → v < 2 ^ S.width → SomeWord S.width (λ s. (v + s) % 2 ^ S.width ≡ t)
    other v l =
        let w = S.width in
        let e : v + (t + (2 ^ w - v)) ≡ t + 2 ^ w = omega arith in
        record {
          by = (t + (2 ^ w - v)) % 2 ^ w;
          fits = mod-lt (t + (2 ^ w - v)) (pow_pos w);
          gives = add-mod-mod v (t + (2 ^ w - v)) (2 ^ w) ∙ ap (λ (n : ℕ). n % 2 ^ w) e ∙ add-mod_right t (2 ^ w) ∙ mod-eq_of_lt A.target;
        }

-- ---- the pick from what a set holds and a pair allows
picked_at : {S : Spot} {i t : ℕ} {set : Set} {P Q : ℕ → Type 0} (p : ℕ) (r : Option ℕ) → Asked S i t → Solves (at S.widths i) P set
    → ((v : ℕ) → Agrees (at S.los i) (at S.his i) v → P v → Q v) → ((v : ℕ) → Q v → Agrees (at S.los i) (at S.his i) v × P v)
    → Picked (Chosen set (at S.los i) (at S.his i)) p r → Picked Q p r
picked_at {S} {i} {t} {set} {P} {Q} p r A s to back =
    picked_same (Chosen set (at S.los i) (at S.his i)) Q (λ v m. to v m.agrees (s.to v (short v m.agrees) m.has))
    (λ v m. let k = back v m in record { agrees = k.0; has = s.back v (short v k.0) k.1 }) p r
  where
    short : (v : ℕ) → Agrees (at S.los i) (at S.his i) v → v < 2 ^ at S.widths i
    short v g = agrees_lt (at S.widths i) (A.fair.slots i A.position).under g

module _ {S : Spot} {i t : ℕ} {set : Set} (p : ℕ) (r : Option ℕ) (A : Asked S i t) where
  pub wanted_picked : (b : Values) → Solves (at S.widths i) (Meets b S t i) set → Picked (Chosen set (at S.los i) (at S.his i)) p r → Picked (Wanted b S t i) p r
  wanted_picked InverseOnes s = picked_at p r A s (λ v g m. record { agrees = g; gives = m }) (λ v m. (m.agrees, m.gives))
  wanted_picked ConsistentOnes s = picked_at p r A s (λ v g m. record { agrees = g; reaches = m }) (λ v m. (m.agrees, m.reaches))
