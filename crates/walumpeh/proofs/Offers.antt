-- What each test of a spot from outside decides, over the answers of the tests that it joins.
use mathlib.Core.Path.{◌≡◌, refl, sym, ap, ◌∙◌, subst}
use mathlib.Core.Bool.{Bool, true, false, ◌&&◌, ◌||◌}
use Prim.Native.Nat.{ℕ, zero, suc, ◌%◌, ◌^◌, ◌≤◌, ◌<◌}
use native.Mathlib.Nat.{mod-lt, mod-eq_of_lt}
use native.Mathlib.Omega.{arith}
use lib.Dec.{leb, ltb, eqb}
use lib.Pow.{pow_pos}
use borrow.Author.Tests.{lt-ltb, le-ltb, ltb-true, ltb-false}
use Rattle.words.specs.Agree.{Agrees}
use Rattle.words.specs.laws.Agree.{within_trans, lo_within, within_hi}
use Rattle.words.specs.inner.Decides.{Decides}
use Rattle.operators.specs.declared.table.Shape.{Shape}
use Rattle.operators.specs.Table.{kind_count, shape_of, RuleMet, rule_holds}
use Rattle.operators.specs.laws.Table.{rule_met, rule_tested}
use Rattle.picking.specs.declared.spot.Spot.{Spot}
use Rattle.picking.specs.Spot.{at, positions, Slot}
use Rattle.walumpeh.specs.Offered.{Empty, Offered, Short, Placed, Slots, Headed}
use Rattle.walumpeh.specs.laws.Rules.{low_law}
use Rattle.walumpeh.proofs.Tests.{told, both, where_most, at_most, less, same, is_true, as_fact}

pub fits_law : (x w r : ℕ) → 1 ≤ w → w ≤ 64 → r ≡ x % 2 ^ w → Decides (Short x w) (eqb r x)
fits_law x w r s h e =
    as_fact (Short x w)
    (λ q. record { some = s; wide = h; short = subst (λ (n : ℕ). n < 2 ^ w) (sym e ∙ q) (mod-lt x (pow_pos w)) })
    (λ f. e ∙ mod-eq_of_lt f.short) (same r x)

module _ (w lo hi v : ℕ) where
  pub slot_law : Short hi w → (r : Bool) → Decides (Agrees lo hi v) r → Decides (Slot w lo hi v) r
  slot_law f r d =
      as_fact (Slot w lo hi v)
      (λ g. record { some = f.some; wide = f.wide; ordered = within_trans (lo_within g) (within_hi g); under = f.short; agrees = g })
      (λ s. s.agrees) (told (Agrees lo hi v) r d)

  pub slot_none : (Short hi w → ⊥) → Slot w lo hi v → ⊥
  slot_none f s = f (record { some = s.some; wide = s.wide; short = s.under })

  pub empty_law : Decides (Empty w lo hi v) (eqb w 0 && eqb lo 0 && eqb hi 0 && eqb v 0)
  empty_law =
      as_fact (Empty w lo hi v) (λ f. record { no_width = f.0.0.0; no_lo = f.0.0.1; no_hi = f.0.1; no_value = f.1 })
      (λ e. (((e.no_width, e.no_lo), e.no_hi), e.no_value)) (both (both (both (same w 0) (same lo 0)) (same hi 0)) (same v 0))

  -- by whether the position is there
  pub there_law : (t r : Bool) → t ≡ true → Decides (Slot w lo hi v) r → Decides (Placed t w lo hi v) r
  there_law t r e d = rw e d

  pub not_there_law : (t r : Bool) → t ≡ false → Decides (Empty w lo hi v) r → Decides (Placed t w lo hi v) r
  not_there_law t r e d = rw e d

  placed_slot : (j n : ℕ) → j < n → Placed (ltb j n) w lo hi v → Slot w lo hi v
  placed_slot j n h p = rw (lt-ltb j n h) at p

  placed_empty : (j n : ℕ) → n ≤ j → Placed (ltb j n) w lo hi v → Empty w lo hi v
  placed_empty j n h p = rw (le-ltb j n h) at p

  placed_of : (j n : ℕ) → (j < n → Slot w lo hi v) → (n ≤ j → Empty w lo hi v) → Placed (ltb j n) w lo hi v
  placed_of j n s e = by (ltb j n) refl
    where
      by : (t : Bool) → ltb j n ≡ t → Placed t w lo hi v
      by true q = s (ltb-true j n q)
      by false q = e (ltb-false j n q)

module _ (S : Spot) where
  abbrev SlotAt : ℕ → Type 0
  SlotAt j = Slot (at S.widths j) (at S.los j) (at S.his j) (at S.current j)

  abbrev EmptyAt : ℕ → Type 0
  EmptyAt j = Empty (at S.widths j) (at S.los j) (at S.his j) (at S.current j)

  abbrev PlacedAt : ℕ → ℕ → Type 0
  PlacedAt n j = Placed (ltb j n) (at S.widths j) (at S.los j) (at S.his j) (at S.current j)

  pub slots_law :
      (n : ℕ) → n ≤ 3 → (a b c : Bool) → Decides (PlacedAt n 0) a → Decides (PlacedAt n 1) b → Decides (PlacedAt n 2) c
      → Decides (Slots S n) (a && b && c)
  slots_law n few a b c p q r =
      as_fact (Slots S n) (λ f. record { used = used f; unused = unused f }) (λ s. ((place s 0 (omega arith), place s 1 (omega arith)), place s 2 (omega arith)))
      (both (both (told (PlacedAt n 0) a p) (told (PlacedAt n 1) b q)) (told (PlacedAt n 2) c r))
    where
      used : (PlacedAt n 0 × PlacedAt n 1) × PlacedAt n 2 → (j : ℕ) → j < n → SlotAt j
      used f zero h = placed_slot _ _ _ _ 0 n h f.0.0
      used f (suc zero) h = placed_slot _ _ _ _ 1 n h f.0.1
      used f (suc (suc zero)) h = placed_slot _ _ _ _ 2 n h f.1
      used f (suc (suc (suc j))) h = absurd (omega arith)

      unused : (PlacedAt n 0 × PlacedAt n 1) × PlacedAt n 2 → (j : ℕ) → n ≤ j → j < 3 → EmptyAt j
      unused f zero h l = placed_empty _ _ _ _ 0 n h f.0.0
      unused f (suc zero) h l = placed_empty _ _ _ _ 1 n h f.0.1
      unused f (suc (suc zero)) h l = placed_empty _ _ _ _ 2 n h f.1
      unused f (suc (suc (suc j))) h l = absurd (omega arith)

      place : Slots S n → (j : ℕ) → j < 3 → PlacedAt n j
      place s j l = placed_of _ _ _ _ j n (s.used j) (λ h. s.unused j h l)

  abbrev HeadTests : Bool
  HeadTests = leb 2 S.kind && ltb S.kind kind_count && leb 1 S.width && leb S.width 64 && leb S.low 65535

  pub headed_law : Decides (Headed S) HeadTests
  headed_law =
      as_fact (Headed S)
      (λ f. record {
        kind_from = f.0.0.0.0;
        kind_below = f.0.0.0.1;
        some = f.0.0.1;
        wide = f.0.1;
        low_field = omega (arith, f.1);
      })
      (λ h. ((((h.kind_from, h.kind_below), h.some), h.wide), omega (arith, h.low_field)))
      (both (both (both (both (at_most 2 S.kind) (less S.kind kind_count)) (at_most 1 S.width)) (at_most S.width 64)) (at_most S.low 65535))

  -- a width at any position
  pub narrow : (n j : ℕ) → j < 3 → Slots S n → at S.widths j ≤ 64
  narrow n j h s = by (ltb j n) refl
    where
      by : (t : Bool) → ltb j n ≡ t → at S.widths j ≤ 64
      by true q = (s.used j (ltb-true j n q)).wide
      by false q = omega (arith, (s.unused j (ltb-false j n q) h).no_width)

  abbrev Rule : Type 0
  Rule = RuleMet (shape_of S.kind).rule S.width S.widths.a S.widths.b S.widths.c S.low

  abbrev rule_test : Shape → Bool
  rule_test r = rule_holds r.rule S.width S.widths.a S.widths.b S.widths.c S.low

  rule_law : Decides Rule (rule_test (shape_of S.kind))
  rule_law = as_fact Rule (rule_met _ _ _ _ _ _) (rule_tested _ _ _ _ _ _) (is_true (rule_test (shape_of S.kind)))

  -- the tests that need the kind's row, of which the slots come first
  shaped_here :
      (i t : ℕ) → Headed S → Slots S (positions S) → (b c : Bool) → b ≡ rule_test (shape_of S.kind) → Decides (Short t S.width) c
      → Decides (Offered S i t) (b && (ltb (positions S) (shape_of S.kind).fields || eqb S.low 0) && ltb i (positions S) && c)
  shaped_here i t h p b c q s =
      as_fact (Offered S i t)
      (λ f. record {
        asked = record {
          fair = record {
            kind_from = h.kind_from;
            kind_below = h.kind_below;
            some = h.some;
            wide = h.wide;
            rule = f.0.0.0;
            slots = p.used;
          };
          position = f.0.1;
          target = f.1.short;
        };
        unused = p.unused;
        low_unused = f.0.0.1;
      })
      (λ o. (((o.asked.fair.rule, o.low_unused), o.asked.position), record { some = h.some; wide = h.wide; short = o.asked.target }))
      (both (both (both (told Rule b (rw q rule_law)) (where_most (positions S) (shape_of S.kind).fields (same S.low 0))) (less i (positions S))) (told (Short t S.width) c s))

  pub shaped_law :
      (i t : ℕ) (r : Shape) → Headed S → r ≡ shape_of S.kind → Slots S r.operands → (b c : Bool) → b ≡ rule_test r
      → Decides (Short t S.width) c
      → Decides (Offered S i t) (b && (ltb r.operands r.fields || eqb S.low 0) && ltb i r.operands && c)
  shaped_law i t r h e p b c q s = rw e (shaped_here i t h (rw e at p) b c (q ∙ ap rule_test e) s)

  pub offered_headed : (i t : ℕ) → Offered S i t → Headed S
  offered_headed i t o =
      let f = o.asked.fair in
      record {
        kind_from = f.kind_from;
        kind_below = f.kind_below;
        some = f.some;
        wide = f.wide;
        low_field =
            low_law S.kind S.width S.widths.a S.widths.b S.widths.c S.low f.kind_below
            (narrow (positions S) 0 (omega arith) (record { used = f.slots; unused = o.unused })) f.rule o.low_unused;
      }
