-- A problem is accepted exactly if it has the facts, and what the layers above draw from them.
use Rattle.std.specs.Prelude.{◌≡◌, refl, false, not, ◌&&◌, ◌||◌, List, ◌↔◌, ℕ, zero, suc, ◌+◌, ◌*◌, ◌^◌, ◌≤◌, ◌<◌, ltb, leb, eqb, length, get_or}
use Rattle.std.proofs.Common.{sym, subst, ◌∙◌, ⊎_elim, not-suc-le-zero, le_of_suc-le-suc, eq-or-lt_of_le}
use native.Mathlib.Omega.{arith}
use Rattle.words.specs.Agree.{Within}
use Rattle.operators.specs.Table.{shape_of, RuleMet, rule_holds}
use Rattle.operators.specs.laws.Table.{rule_met, rule_tested}
use Rattle.problem.specs.declared.layout.Node.{Node}
use Rattle.problem.specs.Layout.{node_count, root_count, node_at, width_at, root_start, root_at}
use Rattle.problem.specs.Refusals.{Checked, Accepted, ◌then◌, first_below, bit_outside, mark_wrong, division_wide, operand_above, stray_field, pair_broken, header_lines, header_fault, node_lines, fault_of, node_fault, root_lines, root_fault, root_before, repeat_lines, repeat_fault, checked}
use Rattle.problem.specs.inner.Facts.{HeaderFacts, NodeFacts, Facts}
use Rattle.problem.specs.laws.Tests.{lt_yes, lt_no, le_yes, le_no, eq_yes, eq_no, not_no, or_no, and_no}
use Rattle.problem.specs.laws.First.{then_left, then_right, then_accepted, NoneOf, none_of, of_none, first_each, first_all}

-- a number is the one asked for
same : (m n : ℕ) → (not (eqb m n) ≡ false) ↔ (m ≡ n)
same m n = not_no (eq_yes m n)

-- six lines of which none is given, as `NoneOf` has them
six : {A B C D E F : Type 0} → A → B → C → D → E → F → A × (B × (C × (D × (E × (F × Unit {0})))))
six a b c d e f = (a, (b, (c, (d, (e, (f, tt))))))

seven : {A B C D E F G : Type 0} → A → B → C → D → E → F → G → A × (B × (C × (D × (E × (F × (G × Unit {0}))))))
seven a b c d e f g = (a, six b c d e f g)

-- 1 to 6

mark_right : (s : List ℕ) → (mark_wrong s ≡ false) ↔ (((get_or s 0 0 ≡ 84) × (get_or s 1 0 ≡ 66)) × (get_or s 2 0 ≡ 86))
unfolding mark_wrong
mark_right s = or_no (or_no (same (get_or s 0 0) 84) (same (get_or s 1 0) 66)) (same (get_or s 2 0) 86)

header_facts : (s : List ℕ) → NoneOf (header_lines s) → HeaderFacts s
unfolding header_lines
header_facts s f =
    let m = (mark_right s).0 f.1.0 in
    record {
      long = (lt_no _ _).0 f.0;
      mark_t = m.0.0;
      mark_b = m.0.1;
      mark_v = m.1;
      version_one = (same _ _).0 f.1.1.0;
      nodes = (lt_no _ _).0 f.1.1.1.0;
      roots = (lt_no _ _).0 f.1.1.1.1.0;
      whole = (same _ _).0 f.1.1.1.1.1.0;
    }

facts_header : (s : List ℕ) → HeaderFacts s → NoneOf (header_lines s)
unfolding header_lines
facts_header s h =
    six ((lt_no _ _).1 h.long) ((mark_right s).1 ((h.mark_t, h.mark_b), h.mark_v)) ((same _ _).1 h.version_one)
    ((lt_no _ _).1 h.nodes) ((lt_no _ _).1 h.roots) ((same _ _).1 h.whole)

-- 7 to 12, and 20

width_right : (w : ℕ) → ((eqb w 0 || ltb 64 w) ≡ false) ↔ ((w ≡ 0 → ⊥) × (w ≤ 64))
width_right w = or_no (eq_no w 0) (lt_no 64 w)

narrow_right : (n : Node) → (division_wide n ≡ false) ↔ (n.kind ≡ 17 → n.width ≤ 16)
unfolding division_wide
narrow_right n = and_no (eq_yes n.kind 17) (lt_no 16 n.width)

-- an operand that the kind has is below the node
below_right : (k m x i : ℕ) → ((ltb m k && leb i x) ≡ false) ↔ (m < k → x < i)
below_right k m x i = and_no (lt_yes m k) (le_no i x)

pub operands_right :
    (n : Node) (k i : ℕ)
    → (operand_above n k i ≡ false) ↔ (((0 < k → n.a < i) × (1 < k → n.b < i)) × (2 < k → n.c < i))
unfolding operand_above
operands_right n k i = or_no (or_no (below_right k 0 n.a i) (below_right k 1 n.b i)) (below_right k 2 n.c i)

-- a field that the kind does not use is 0
unused_right : (f m x : ℕ) → ((leb f m && not (eqb x 0)) ≡ false) ↔ (f ≤ m → x ≡ 0)
unused_right f m x = and_no (le_yes f m) (same x 0)

fields_right :
    (n : Node) (f : ℕ)
    → (stray_field n f ≡ false)
    ↔ ((((f ≤ 0 → n.a ≡ 0) × (f ≤ 1 → n.b ≡ 0)) × (f ≤ 2 → n.c ≡ 0)) × (2 ≤ n.kind → (n.lo ≡ 0) × (n.hi ≡ 0)))
unfolding stray_field
fields_right n f =
    or_no (or_no (or_no (unused_right f 0 n.a) (unused_right f 1 n.b)) (unused_right f 2 n.c))
    (and_no (le_yes 2 n.kind) (or_no (same n.lo 0) (same n.hi 0)))

rule_right : (n : Node) (wa wb wc : ℕ)
    → (not (rule_holds (shape_of n.kind).rule n.width wa wb wc n.b) ≡ false)
    ↔ RuleMet (shape_of n.kind).rule n.width wa wb wc n.b
rule_right n wa wb wc = not_no (rule_met _ _ _ _ _ _, rule_tested _ _ _ _ _ _)

pub within_right : (lo hi : ℕ) → (bit_outside lo hi ≡ false) ↔ Within lo hi
unfolding bit_outside
within_right lo hi = (λ h. record { is = (same _ _).0 h }, λ h. (same _ _).1 h.is)

pair_right :
    (n : Node)
    → (pair_broken n ≡ false)
    ↔ (n.kind ≤ 1 → (Within n.lo n.hi × (n.hi < 2 ^ n.width)) × (n.kind ≡ 1 → n.lo ≡ n.hi))
unfolding pair_broken
pair_right n =
    and_no (le_yes n.kind 1)
    (or_no (or_no (within_right n.lo n.hi) (le_no (2 ^ n.width) n.hi)) (and_no (eq_yes n.kind 1) (same n.lo n.hi)))

module _ (n : Node) (i wa wb wc : ℕ) where
  node_facts : NoneOf (node_lines n i wa wb wc) → NodeFacts n i wa wb wc
  unfolding node_lines
  node_facts f =
      let w = (width_right n.width).0 f.1.0 in
      let o = (operands_right n (shape_of n.kind).operands i).0 f.1.1.1.0 in
      let u = (fields_right n (shape_of n.kind).fields).0 f.1.1.1.1.0 in
      let p = (pair_right n).0 f.1.1.1.1.1.1.0 in
      record {
        kind_known = (le_no _ _).0 f.0;
        width_some = let z : (n.width ≡ 0 → ⊥) = w.0 in omega arith;
        width_most = w.1;
        a_below = o.0.0;
        b_below = o.0.1;
        c_below = o.1;
        a_unused = u.0.0.0;
        b_unused = u.0.0.1;
        c_unused = u.0.1;
        lo_unused = λ k. (u.1 k).0;
        hi_unused = λ k. (u.1 k).1;
        rule = (rule_right n wa wb wc).0 f.1.1.1.1.1.0;
        lo_inside = λ k. (p k).0.0;
        hi_fits = λ k. (p k).0.1;
        constant_fixed = λ e. (p (omega arith)).1 e;
      }

  facts_node : NodeFacts n i wa wb wc → NoneOf (node_lines n i wa wb wc)
  unfolding node_lines
  facts_node h =
      seven ((le_no _ _).1 h.kind_known) ((width_right n.width).1 (λ e. let l = h.width_some in omega arith, h.width_most))
      ((narrow_right n).1 (λ e. (rw e at h.rule).2))
      ((operands_right n _ i).1 ((h.a_below, h.b_below), h.c_below))
      ((fields_right n _).1 (((h.a_unused, h.b_unused), h.c_unused), λ k. (h.lo_unused k, h.hi_unused k)))
      ((rule_right n wa wb wc).1 h.rule) ((pair_right n).1 (λ k. ((h.lo_inside k, h.hi_fits k), h.constant_fixed)))

-- 13

root_right :
    (s : List ℕ) (j : ℕ) → (NoneOf (root_lines s j)) ↔ ((root_at s j < node_count s) × (width_at s (root_at s j) ≡ 1))
unfolding root_lines
root_right s j =
    let e = or_no (le_no (node_count s) (root_at s j)) (same (width_at s (root_at s j)) 1) in (λ h. e.0 h.0, λ h. (e.1 h, tt))

-- 16

-- what holds of each number below j, and of j, holds of each below the next
below_suc : (P : ℕ → Type 0) (j : ℕ) → ((i : ℕ) → i < j → P i) → P j → (i : ℕ) → i < suc j → P i
below_suc P j h p i l = ⊎_elim (λ (e : i ≡ j). subst P (sym e) p) (λ (m : i < j). h i m) (eq-or-lt_of_le (le_of_suc-le-suc l))

before_right : (s : List ℕ) (j id : ℕ) → (root_before s j id ≡ false) ↔ ((i : ℕ) → i < j → root_at s i ≡ id → ⊥)
unfolding root_before
before_right s zero id = (λ h i l e. absurd (not-suc-le-zero l), λ h. refl)
before_right s (suc j) id =
    let both = or_no (before_right s j id) (eq_no (root_at s j) id) in (
      λ h. below_suc (λ i. root_at s i ≡ id → ⊥) j (both.0 h).0 (both.0 h).1,
      λ h. both.1 (λ i l. h i (omega arith), h j (omega arith)),
    )

repeat_right : (s : List ℕ) (j : ℕ) → (NoneOf (repeat_lines s j)) ↔ ((i : ℕ) → i < j → root_at s i ≡ root_at s j → ⊥)
unfolding repeat_lines
repeat_right s j = let e = before_right s j (root_at s j) in (λ h. e.0 h.0, λ h. (e.1 h, tt))

-- the four parts of the check
module _ (s : List ℕ) where
  abbrev heads : Checked
  heads = header_fault s

  abbrev nodes : Checked
  nodes = first_below (node_fault s) (node_count s)

  abbrev roots : Checked
  roots = first_below (root_fault s) (root_count s)

  abbrev repeats : Checked
  repeats = first_below (repeat_fault s) (root_count s)

  pub header_accepted : header_fault s ≡ Accepted → HeaderFacts s
  unfolding header_fault
  header_accepted h = header_facts s (none_of 0 _ h)

  pub header_right : HeaderFacts s → header_fault s ≡ Accepted
  unfolding header_fault
  header_right h = of_none 0 _ (facts_header s h)

  node_accepted : (i : ℕ) → node_fault s i ≡ Accepted → NodeFacts (node_at s i) i (width_at s (node_at s i).a) (width_at s (node_at s i).b) (width_at s (node_at s i).c)
  unfolding node_fault fault_of
  node_accepted i h = node_facts _ i _ _ _ (none_of i _ h)

  root_accepted : (j : ℕ) → root_fault s j ≡ Accepted → (root_at s j < node_count s) × (width_at s (root_at s j) ≡ 1)
  unfolding root_fault
  root_accepted j h = (root_right s j).0 (none_of j _ h)

  repeat_accepted : (j : ℕ) → repeat_fault s j ≡ Accepted → (i : ℕ) → i < j → root_at s i ≡ root_at s j → ⊥
  unfolding repeat_fault
  repeat_accepted j h = (repeat_right s j).0 (none_of j _ h)

  -- once 13 has passed, each root's id has a mark among 1,024
  pub ids_small : header_fault s ≡ Accepted → (n : ℕ) → first_below (root_fault s) n ≡ Accepted → (j : ℕ) → j < n → root_at s j < 1024
  ids_small h n r j l = omega (arith, (header_accepted h).nodes, (root_accepted j (first_each (root_fault s) n r j l)).0)

  -- what an accepted problem has
  pub accepted_facts : checked s ≡ Accepted → Facts s
  unfolding checked
  accepted_facts h =
      let inner = then_right heads (nodes then roots then repeats) h in
      let ends = then_right nodes (roots then repeats) inner in
      let ns = first_each (node_fault s) (node_count s) (then_left nodes (roots then repeats) inner) in
      let rs = first_each (root_fault s) (root_count s) (then_left roots repeats ends) in
      let ds = first_each (repeat_fault s) (root_count s) (then_right roots repeats ends) in
      record {
        header = header_accepted (then_left heads (nodes then roots then repeats) h);
        node = λ i l. node_accepted i (ns i l);
        root_below = λ j l. (root_accepted j (rs j l)).0;
        root_bit = λ j l. (root_accepted j (rs j l)).1;
        roots_differ = λ i j m l. repeat_accepted j (ds j l) i m;
      }

  -- "None is given otherwise": what has the facts is accepted
  pub facts_accepted : Facts s → checked s ≡ Accepted
  unfolding checked header_fault node_fault fault_of root_fault repeat_fault
  facts_accepted F =
      then_accepted _ _ (of_none 0 _ (facts_header s F.header))
      ∙ then_accepted _ _ (first_all (node_fault s) _ (λ i l. of_none i _ (facts_node _ i _ _ _ (F.node i l))))
      ∙ then_accepted _ _ (first_all (root_fault s) _ (λ j l. of_none j _ ((root_right s j).1 (F.root_below j l, F.root_bit j l))))
      ∙ first_all (repeat_fault s) _ (λ j l. of_none j _ ((repeat_right s j).1 (λ i m. F.roots_differ i j m l)))

-- where an accepted problem's parts stand, and the widths of its nodes
module _ {s : List ℕ} (F : Facts s) where
  pub node_inside : (i : ℕ) → i < node_count s → 9 + 24 * i + 24 ≤ length s
  node_inside i l = let w = F.header.whole in omega arith

  pub root_inside : (j : ℕ) → j < root_count s → root_start s j + 2 ≤ length s
  root_inside j l = let w = F.header.whole in omega arith
