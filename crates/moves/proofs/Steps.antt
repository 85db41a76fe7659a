-- What the code of one step takes from the definitions: the candidates as bits, the candidate followed, the pick.
use Rattle.std.specs.Prelude.{Option, Some, None, count_ones}
use Rattle.std.specs.Int.Count.{ones}
use mathlib.Core.Path.{◌≡◌, refl, sym, ap, ◌∙◌, subst}
use mathlib.Core.Logic.{◌⊎◌, inl, inr, ⊎_elim}
use mathlib.Core.Bool.{Bool, true, false, not, ◌&&◌, ◌||◌}
use mathlib.Core.List.{List, [], ◌∷◌}
use Prim.Native.Nat.{ℕ, zero, suc, ◌+◌, ◌-◌, ◌*◌, ◌/◌, ◌%◌, ◌^◌, ◌≤◌, ◌<◌}
use native.Mathlib.Omega.{arith}
use native.Mathlib.Nat.{mod-lt, lt_of_lt_of_le}
use native.Mathlib.Decide.{ℕ_discrete}
use lib.Bits.{bit_and}
use lib.Dec.{T, eqb, ltb, eqb→eq, ltb→lt}
use lib.ListN.{length, get_or}
use lib.Pow.{pow_mono}
use Rattle.words.specs.Bits.{bit}
use Rattle.words.specs.laws.Bits.{bit_high}
use Rattle.words.specs.laws.Cases.{every, every_at}
use Rattle.words.specs.inner.Decides.{Decides}
use Rattle.words.specs.laws.Decides.{decides_unique, decides_not, decides_eq}
use Rattle.words.specs.Agree.{Agrees}
use Rattle.words.specs.laws.Agree.{agrees_only}
use Rattle.words.specs.Pick.{Picked, Empty}
use Rattle.picking.specs.declared.spot.Spot.{Spot}
use Rattle.picking.specs.declared.spot.Three.{Three}
use Rattle.picking.specs.Spot.{at, put, positions, Other, value, Inverse, Consistent, Essential, NoneEssential, Candidate, Fair}
use Rattle.picking.specs.laws.Positions.{few_positions, at_put_same, at_put_other, put_same, value_used}
use Rattle.essentials.specs.inner.Marks.{marked, Marks, mark}
use Rattle.essentials.specs.laws.Marks.{marks_three, marks_none, marks_some, marks_same, marks_both, marks_fewer}
use Rattle.evaluation.specs.Lists.{Lists, Lists.done, Lists.keep, Lists.skip}
use Rattle.moves.specs.Step.{Out, blocked, Follows, Follows.consistent, Follows.nothing, Step, Step.none_left, Step.followed}
use Rattle.evaluation.specs.laws.Decide.{lists_member}
use Rattle.moves.specs.laws.Candidates.{dec_essential}
use Rattle.moves.specs.inner.Moves.{out_of, grown, members, listed, Open, FixedPast}

-- ---- the marked positions

lists_grown : {A : ℕ → Type 0} {i : ℕ} {l : List ℕ} (b : Bool) → Lists A i l → Decides (A i) b → Lists A (suc i) (grown b l i)
lists_grown true r d = keep r d
lists_grown false r d = skip r d

lists_members : {A : ℕ → Type 0} (m n : ℕ) → ((i : ℕ) → i < n → Decides (A i) (marked m i)) → Lists A n (members n m)
lists_members m zero d = done
lists_members m (suc n) d = lists_grown (marked m n) (lists_members m n (λ i h. d i (omega arith))) (d n (omega arith))

-- past its bits a number marks nothing
members_more : (n m : ℕ) → m < 2 ^ n → (k : ℕ) → members (n + k) m ≡ members n m
members_more n m h zero = let e : n + 0 ≡ n = omega arith in rw e
members_more n m h (suc k) =
    let e : n + suc k ≡ suc (n + k) = omega arith in
    let z = bit_high (n + k) m n h (omega arith) in
    rw (e, z) (members_more n m h k)

lists_marked : {A : ℕ → Type 0} {n m : ℕ} → n ≤ 3 → Marks A n m → Lists A n (listed m)
unfolding listed
lists_marked {A} {n} {m} h g =
    let e : n + (3 - n) ≡ 3 = omega arith in
    subst (Lists A n) (sym (members_more n m g.short (3 - n)) ∙ ap (λ (k : ℕ). members k m) e) (lists_members m n g.each)

-- how many there are, and which: each by one computed test

pub count_is : (m : ℕ) → m < 8 → m - m / 2 - m / 4 ≡ length (listed m)
unfolding bit listed
count_is m h = eqb→eq _ _ (every_at 8 (λ x. eqb (x - x / 2 - x / 4) (length (members 3 x))) tt m h)

pub ones_are : (m : ℕ) → m < 8 → count_ones m ≡ length (listed m)
unfolding bit listed ones
ones_are m h = eqb→eq _ _ (every_at 8 (λ x. eqb (count_ones x) (length (members 3 x))) tt m h)

pub few_listed : (m : ℕ) → m < 8 → length (listed m) ≤ 3
few_listed m h = omega (arith, count_is m h)

abbrev placed : ℕ → ℕ → ℕ
placed m k = 0x800068401210 / 2 ^ (2 * m + 16 * k) % 4

pub place_is : (m k : ℕ) → m < 8 → k < length (listed m) → placed m k ≡ get_or (listed m) k 0
unfolding bit listed
place_is m k h l =
    eqb→eq _ _
    (every_at (length (members 3 m)) (λ y. eqb (placed m y) (get_or (members 3 m) y 0))
    (every_at 8 (λ x. every (length (members 3 x)) (λ y. eqb (placed x y) (get_or (members 3 x) y 0))) tt m h) k l)

-- where at most one is marked, any two that are marked are the same
abbrev alone : ℕ → ℕ → ℕ → Bool
alone m i j = ltb 1 (length (members 3 m)) || (not (marked m i && marked m j) || eqb i j)

or_right : (a b : Bool) → (T a → ⊥) → T (a || b) → T b
or_right true b f t = absurd (f tt)
or_right false b f t = t

sole_marked : (m i j : ℕ) → m < 8 → i < 3 → j < 3 → length (listed m) ≤ 1 → marked m i ≡ true → marked m j ≡ true → i ≡ j
unfolding bit listed
sole_marked m i j h k l few a b =
    let t = every_at 3 (alone m i) (every_at 3 (λ x. every 3 (alone m x)) (every_at 8 (λ z. every 3 (λ x. every 3 (alone z x))) tt m h) i k) j l in
    let u = or_right (ltb 1 (length (members 3 m))) (not (marked m i && marked m j) || eqb i j) (λ v. omega (arith, few, ltb→lt 1 (length (members 3 m)) v)) t in
    eqb→eq i j (or_right (not (marked m i && marked m j)) (eqb i j) (λ v. (rw (a, b) at v)) u)

pub few_marks : {A : ℕ → Type 0} {n m : ℕ} → n ≤ 3 → Marks A n m → m < 8
few_marks h g = lt_of_lt_of_le g.short (pow_mono h)

-- ---- the candidates

abbrev differ : ℕ → ℕ → Bool
differ x y = not (eqb x y)

marks_apart : (l h : Three) → Marks (λ i. at l i ≡ at h i → ⊥) 3 (mark (differ l.a h.a) (differ l.b h.b) (differ l.c h.c))
marks_apart l h =
    marks_three (differ l.a h.a) (differ l.b h.b) (differ l.c h.c) (apart l.a h.a) (apart l.b h.b) (apart l.c h.c)
  where
    apart : (x y : ℕ) → Decides (x ≡ y → ⊥) (differ x y)
    apart x y = decides_not (x ≡ y) (eqb x y) (decides_eq x y)

pub marks_open :
    (S : Spot) {m : ℕ}
    → FixedPast S
    → m ≡ mark (differ S.los.a S.his.a) (differ S.los.b S.his.b) (differ S.los.c S.his.c)
    → Marks (Open S) (positions S) m
marks_open S x e = rw e (marks_fewer (marks_apart S.los S.his) (few_positions S.kind) (λ i l u n. n (x i l u)))

module _ (S : Spot) (t : ℕ) {o : ℕ} (g : Marks (Open S) (positions S) o) where
  pub fair_open : (0 < positions S → Fair S) → 1 < length (listed o) → Fair S
  fair_open f h = let z = marks_some g (omega (arith, h, count_is o (few_marks (few_positions S.kind) g))) in f (omega (arith, z.1))

  inside : (i : ℕ) → i < positions S → i < 3
  inside i l = omega (arith, few_positions S.kind)

  -- at most one is open: the others keep their values, so that, where any position is essential, the open one is
  module _ (fair : 0 < positions S → Fair S) (one : length (listed o) ≤ 1) where
    open_marked : (i : ℕ) → i < positions S → Open S i → marked o i ≡ true
    open_marked i l n = decides_unique (Open S i) (marked o i) true (g.each i l) n

    module _ (i : ℕ) (l : i < positions S) (n : Open S i) where
      fixed : (j : ℕ) → j < positions S → (j ≡ i → ⊥) → at S.los j ≡ at S.his j
      fixed j k x =
          elim (ℕ_discrete (at S.los j) (at S.his j)) [
            | yes e ↦ e
            | no y ↦ absurd (x (sole_marked o j i (few_marks (few_positions S.kind) g) (inside j k) (inside i l) one (open_marked j k y) (open_marked i l n)))
          ]

      slot : (j : ℕ) → j < positions S → Agrees (at S.los j) (at S.his j) (at S.current j)
      slot j k = ((fair (omega arith)).slots j k).agrees

      -- others that agree are the current ones
      as_they_are :
          (x : Three)
          → ((j : ℕ) → Other S i j → Agrees (at S.los j) (at S.his j) (at x j))
          → value S (put x i (at S.current i)) ≡ value S S.current
      as_they_are x ag = value_used S _ _ same
        where
          same : (j : ℕ) → j < positions S → at (put x i (at S.current i)) j ≡ at S.current j
          same j k =
              elim (ℕ_discrete j i) [
                | yes e ↦ rw e (at_put_same x i _ (inside i l))
                | no y ↦
                    at_put_other x i _ j (inside i l) (inside j k) y
                    ∙ agrees_only (ag j (record { below = k; apart = y })) (fixed j k y)
                    ∙ sym (agrees_only (slot j k) (fixed j k y))
              ]

      essential_too : (j : ℕ) → j < positions S → Essential S t j → Essential S t i
      unfolding Essential
      essential_too j k e =
          λ x ag gi. e S.current (λ m q. slot m q.below) (rw (put_same S.current j _ refl) (sym (as_they_are x ag) ∙ gi))

      wanted : Essential S t i ⊎ NoneEssential S t
      unfolding NoneEssential
      wanted = elim (dec_essential S t i l) [ yes e ↦ inl e | no x ↦ inr (λ j k e. x (essential_too j k e)) ]

    pub sole_open : Marks (Candidate S t) (positions S) o
    sole_open = marks_same g (λ i l n. record { wanted = wanted i l n; open_bits = n }) (λ i l c. c.open_bits)

  module _ {m : ℕ} (h : Marks (Essential S t) (positions S) m) where
    pub none_essential : m ≡ 0 → Marks (Candidate S t) (positions S) o
    unfolding NoneEssential
    none_essential e = marks_same g (λ i l n. record { wanted = inr (marks_none h e); open_bits = n }) (λ i l c. c.open_bits)

    pub some_essential : 0 < m → Marks (Candidate S t) (positions S) (bit_and m o)
    unfolding NoneEssential
    some_essential u =
        let z = marks_some h u in
        marks_same (marks_both h g) (λ i l p. record { wanted = inl p.0; open_bits = p.1 })
        (λ i l c. (⊎_elim (λ e. e) (λ x. absurd (x z.0 z.1 z.2)) c.wanted, c.open_bits))

-- ---- the candidate that is followed

module _ (S : Spot) (t : ℕ) {m : ℕ} (g : Marks (Candidate S t) (positions S) m) where
  pub few : m < 8
  few = few_marks (few_positions S.kind) g

  lists : Lists (Candidate S t) (positions S) (listed m)
  lists = lists_marked (few_positions S.kind) g

  pub step_none : (e p : ℕ) → length (listed m) ≡ 0 → Step S t e p blocked
  step_none e p z = none_left (subst (Lists (Candidate S t) (positions S)) (empty (listed m) z) lists) refl
    where
      empty : (l : List ℕ) → length l ≡ 0 → l ≡ []
      empty [] q = refl
      empty (x ∷ l) q = absurd (omega arith)

  -- the number that is chosen is one of theirs
  pub chosen_in : (e : ℕ) {k n : ℕ} → k ≡ e % n → n ≡ length (listed m) → 0 < n → k < length (listed m)
  chosen_in e q c h = rw (q, ← c) (mod-lt e h)

  pub step_below : {i : ℕ} (k : ℕ) → k < length (listed m) → i ≡ get_or (listed m) k 0 → i < positions S
  step_below k h q = rw q (lists_member lists k h).below

  pub step_followed :
      {i : ℕ} (e p : ℕ) (o : Out)
      → 0 < length (listed m)
      → i ≡ get_or (listed m) (e / 2 % length (listed m)) 0
      → Follows S t e p i o
      → Step S t e p o
  step_followed e p o h q k = followed (listed m) lists h (rw q at k)

-- ---- the pick

pub follows_consistent :
    (S : Spot) (t e p i : ℕ) (r : Option ℕ)
    → (e % 2 ≡ 1) ⊎ Empty (Inverse S t i)
    → Picked (Consistent S t i) (p % 2 ^ at S.widths i) r
    → Follows S t e p i (out_of i r)
follows_consistent S t e p i (Some v) w k = consistent w k
follows_consistent S t e p i None w k = nothing w k
