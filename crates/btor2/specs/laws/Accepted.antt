-- That the search accepts the bytes of every state that lines lead to.
use Rattle.std.specs.Prelude.{◌≡◌, refl, Bool, true, false, ◌||◌, List, [], ◌∷◌, ℕ, zero, suc, ◌-◌, ◌^◌, ◌≤◌, ◌<◌, T, eqb, length, get_or}
use Rattle.std.proofs.Common.{sym, ◌∙◌, arith, pow_mono, eqb-true}
use Rattle.std.proofs.Math.Path.{ap}
use Rattle.std.specs.Int.Bits.{bit_and, and_self}
use Rattle.std.proofs.lemmas.Nat.{and_le_l}
use Rattle.std.proofs.Math.Pow.{ones_lt}
use mir.Val.{has_key}
use Rattle.operators.specs.Table.{shape_of, row, RuleMet}
use Rattle.operators.specs.declared.table.Rule.TheVariants.{Both, Equal}
use Rattle.problem.specs.declared.layout.Node.{Node}
use Rattle.problem.specs.Layout.{node_at, width_at, root_at}
use Rattle.problem.specs.Refusals.{Accepted, checked}
use Rattle.problem.specs.inner.Facts.{NodeFacts}
use Rattle.problem.specs.laws.Facts.{facts_accepted}
use Rattle.spelling.specs.Nodes.{operator, invert}
use Rattle.btor2.specs.Conversion.{State, width_in, bytes_of}
use Rattle.btor2.specs.laws.Built.{is_both, is_test, Built, is_variable, is_a_constant, is_not, is_of_both, is_a_test, is_choice, is_sum, is_part, is_signs, AllBuilt}
use Rattle.btor2.specs.laws.Fine.{AllRoots, Fine, distinct_apart}
use Rattle.btor2.specs.laws.Bytes.{Sized, mark_t, mark_b, mark_v, version_one, nodes_told, roots_told, whole, node_told, root_told}

-- ---- which kinds they are

-- what holds at each of a list of numbers holds at one that is among them
unfoldable Each : (ℕ → Type 0) → List ℕ → Type 0
Each P [] = Unit {0}
Each P (x ∷ xs) = P x × Each P xs

among : (P : ℕ → Type 0) (ks : List ℕ) → Each P ks → (k : ℕ) → T (has_key ks k) → P k
unfolding Each
among P [] e k t = absurd t
among P (x ∷ ks) e k t = by (eqb x k) refl t (among P ks e.1 k)
  where
    by : (b : Bool) → eqb x k ≡ b → T (b || has_key ks k) → (T (has_key ks k) → P k) → P k
    by true q t f = let z : x ≡ k = eqb-true x k q in rw (← z) e.0
    by false q t f = f t

pub both_kinds : (P : ℕ → Type 0) (k : ℕ) → T (is_both k) → P 3 → P 4 → P 5 → P 6 → P 7 → P 8 → P 15 → P k
unfolding is_both Each
both_kinds P k t p3 p4 p5 p6 p7 p8 p15 = among P (3 ∷ 4 ∷ 5 ∷ 6 ∷ 7 ∷ 8 ∷ 15 ∷ []) (p3, (p4, (p5, (p6, (p7, (p8, (p15, tt))))))) k t

pub test_kinds : (P : ℕ → Type 0) (k : ℕ) → T (is_test k) → P 9 → P 10 → P 14 → P k
unfolding is_test Each
test_kinds P k t p9 p10 p14 = among P (9 ∷ 10 ∷ 14 ∷ []) (p9, (p10, (p14, tt))) k t

-- ---- facts of a node

-- a node with operands: lo and hi are 0
operator_facts : (k w a b c i wa wb wc : ℕ) → 2 ≤ k → k < 18 → 1 ≤ w → w ≤ 64
    → (0 < (shape_of k).operands → a < i) → (1 < (shape_of k).operands → b < i) → (2 < (shape_of k).operands → c < i)
    → ((shape_of k).fields ≤ 0 → a ≡ 0) → ((shape_of k).fields ≤ 1 → b ≡ 0) → ((shape_of k).fields ≤ 2 → c ≡ 0)
    → RuleMet (shape_of k).rule w wa wb wc b
    → NodeFacts (operator k w a b c) i wa wb wc
operator_facts k w a b c i wa wb wc l h lo hi ab bb cb au bu cu r =
    record {
      kind_known = omega arith;
      width_some = lo;
      width_most = hi;
      a_below = ab;
      b_below = bb;
      c_below = cb;
      a_unused = au;
      b_unused = bu;
      c_unused = cu;
      lo_unused = λ z. refl;
      hi_unused = λ z. refl;
      rule = r;
      lo_inside = λ z. absurd (omega arith);
      hi_fits = λ z. absurd (omega arith);
      constant_fixed = λ z. absurd (omega arith);
    }

-- what the widths that the bytes tell are
pub record Told (ns : List Node) (m : Node) (i wa wb wc : ℕ) : Type 0 where
  pub a_told : m.a < i → wa ≡ width_in ns m.a
  pub b_told : m.b < i → wb ≡ width_in ns m.b
  pub c_told : m.c < i → wc ≡ width_in ns m.c

both_facts : (k w a b i wa wb wc : ℕ) → T (is_both k) → 1 ≤ w → w ≤ 64 → a < i → b < i → wa ≡ w → wb ≡ w → NodeFacts (operator k w a b 0) i wa wb wc
both_facts k w a b i wa wb wc t lo hi ai bi ea eb =
    both_kinds (λ x. NodeFacts (operator x w a b 0) i wa wb wc) k t (of 3 (omega arith) (omega arith) refl) (of 4 (omega arith) (omega arith) refl)
    (of 5 (omega arith) (omega arith) refl) (of 6 (omega arith) (omega arith) refl) (of 7 (omega arith) (omega arith) refl) (of 8 (omega arith) (omega arith) refl) (of 15 (omega arith) (omega arith) refl)
  where
    of : (x : ℕ) → 2 ≤ x → x < 18 → shape_of x ≡ row 2 2 Both → NodeFacts (operator x w a b 0) i wa wb wc
    of x l m e =
        operator_facts x w a b 0 i wa wb wc l m lo hi (λ z. ai) (λ z. bi) (λ z. absurd (omega (arith, rw e at z))) (λ z. absurd (omega (arith, rw e at z)))
        (λ z. absurd (omega (arith, rw e at z))) (λ z. refl) (rw e (ea, eb))

test_facts : (k w a b i wa wb wc : ℕ) → T (is_test k) → w ≡ 1 → a < i → b < i → wa ≡ wb → NodeFacts (operator k w a b 0) i wa wb wc
test_facts k w a b i wa wb wc t ew ai bi e =
    test_kinds (λ x. NodeFacts (operator x w a b 0) i wa wb wc) k t (of 9 (omega arith) (omega arith) refl) (of 10 (omega arith) (omega arith) refl) (of 14 (omega arith) (omega arith) refl)
  where
    of : (x : ℕ) → 2 ≤ x → x < 18 → shape_of x ≡ row 2 2 Equal → NodeFacts (operator x w a b 0) i wa wb wc
    of x l m q =
        operator_facts x w a b 0 i wa wb wc l m (omega arith) (omega arith) (λ z. ai) (λ z. bi) (λ z. absurd (omega (arith, rw q at z)))
        (λ z. absurd (omega (arith, rw q at z))) (λ z. absurd (omega (arith, rw q at z))) (λ z. refl) (rw q (e, ew))

and_zero : (x : ℕ) → bit_and 0 x ≡ 0
and_zero x = let h : bit_and 0 x ≤ 0 = and_le_l 0 x in omega arith

pub node_facts : {ns : List Node} {i : ℕ} {m : Node} (wa wb wc : ℕ) → Built ns i m → Told ns m i wa wb wc → NodeFacts m i wa wb wc
node_facts {ns} {i} wa wb wc (is_variable {w} l g) t =
    record {
      kind_known = omega arith;
      width_some = l;
      width_most = g;
      a_below = λ z. absurd (omega arith);
      b_below = λ z. absurd (omega arith);
      c_below = λ z. absurd (omega arith);
      a_unused = λ z. refl;
      b_unused = λ z. refl;
      c_unused = λ z. refl;
      lo_unused = λ z. absurd (omega arith);
      hi_unused = λ z. absurd (omega arith);
      rule = tt;
      lo_inside = λ z. record { is = and_zero (2 ^ w - 1) };
      hi_fits = λ z. ones_lt w;
      constant_fixed = λ z. absurd (omega arith);
    }
node_facts {ns} {i} wa wb wc (is_a_constant {w} {v} l g f) t =
    record {
      kind_known = omega arith;
      width_some = l;
      width_most = g;
      a_below = λ z. absurd (omega arith);
      b_below = λ z. absurd (omega arith);
      c_below = λ z. absurd (omega arith);
      a_unused = λ z. refl;
      b_unused = λ z. refl;
      c_unused = λ z. refl;
      lo_unused = λ z. absurd (omega arith);
      hi_unused = λ z. absurd (omega arith);
      rule = tt;
      lo_inside = λ z. record { is = and_self v };
      hi_fits = λ z. f;
      constant_fixed = λ z. refl;
    }
node_facts {ns} {i} wa wb wc (is_not {w} {a} l g ai e) t =
    operator_facts 2 w a 0 0 i wa wb wc (omega arith) (omega arith) l g (λ z. ai) (λ z. absurd (omega arith)) (λ z. absurd (omega arith)) (λ z. absurd (omega arith)) (λ z. refl) (λ z. refl) (t.a_told ai ∙ e)
node_facts {ns} {i} wa wb wc (is_of_both {k} {w} {a} {b} y l g ai bi ea eb) t =
    both_facts k w a b i wa wb wc y l g ai bi (t.a_told ai ∙ ea) (t.b_told bi ∙ eb)
node_facts {ns} {i} wa wb wc (is_a_test {k} {w} {a} {b} y ew ai bi e) t =
    test_facts k w a b i wa wb wc y ew ai bi (t.a_told ai ∙ e ∙ sym (t.b_told bi))
node_facts {ns} {i} wa wb wc (is_choice {w} {a} {b} {c} l g ai bi ci ea eb ec) t =
    operator_facts 11 w a b c i wa wb wc (omega arith) (omega arith) l g (λ z. ai) (λ z. bi) (λ z. ci) (λ z. absurd (omega arith)) (λ z. absurd (omega arith)) (λ z. absurd (omega arith)) (t.a_told ai ∙ ea, t.b_told bi ∙ eb, t.c_told ci ∙ ec)
node_facts {ns} {i} wa wb wc (is_sum {w} {a} {b} l g ai bi e) t =
    operator_facts 12 w a b 0 i wa wb wc (omega arith) (omega arith) l g (λ z. ai) (λ z. bi) (λ z. absurd (omega arith)) (λ z. absurd (omega arith)) (λ z. absurd (omega arith)) (λ z. refl) (rw (t.a_told ai, t.b_told bi) e)
node_facts {ns} {i} wa wb wc (is_part {w} {a} {q} l g ai e f) t =
    operator_facts 13 w a q 0 i wa wb wc (omega arith) (omega arith) l g (λ z. ai) (λ z. absurd (omega arith)) (λ z. absurd (omega arith)) (λ z. absurd (omega arith)) (λ z. absurd (omega arith)) (λ z. refl) (rw (t.a_told ai) e)
node_facts {ns} {i} wa wb wc (is_signs {w} {a} l g ai e) t =
    operator_facts 16 w a 0 0 i wa wb wc (omega arith) (omega arith) l g (λ z. ai) (λ z. absurd (omega arith)) (λ z. absurd (omega arith)) (λ z. absurd (omega arith)) (λ z. refl) (λ z. refl) (rw (t.a_told ai) e)

-- ---- sizes

below_64 : (w v : ℕ) → w ≤ 64 → v < 2 ^ w → v < 18446744073709551616
below_64 w v h l = let p : 2 ^ w ≤ 2 ^ 64 = pow_mono h in omega arith

operator_sized : (k w a b c : ℕ) → k < 256 → w ≤ 64 → a < 65536 → b < 65536 → c < 65536 → Sized (operator k w a b c)
operator_sized k w a b c x y p q r =
    record { kind_fits = x; width_fits = omega arith; a_fits = p; b_fits = q; c_fits = r; lo_fits = omega arith; hi_fits = omega arith }

both_small : (k : ℕ) → T (is_both k) → k < 256
both_small k t = both_kinds (λ (x : ℕ). x < 256) k t (omega arith) (omega arith) (omega arith) (omega arith) (omega arith) (omega arith) (omega arith)

test_small : (k : ℕ) → T (is_test k) → k < 256
test_small k t = test_kinds (λ (x : ℕ). x < 256) k t (omega arith) (omega arith) (omega arith)

pub built_sized : {ns : List Node} {i : ℕ} {m : Node} → Built ns i m → i ≤ 1024 → Sized m
built_sized (is_variable {w} l g) h =
    record { kind_fits = omega arith; width_fits = omega arith; a_fits = omega arith; b_fits = omega arith; c_fits = omega arith; lo_fits = omega arith; hi_fits = below_64 w _ g (ones_lt w) }
built_sized (is_a_constant {w} {v} l g f) h =
    record { kind_fits = omega arith; width_fits = omega arith; a_fits = omega arith; b_fits = omega arith; c_fits = omega arith; lo_fits = below_64 w v g f; hi_fits = below_64 w v g f }
built_sized (is_not {w} {a} l g ai e) h = operator_sized 2 w a 0 0 (omega arith) g (omega arith) (omega arith) (omega arith)
built_sized (is_of_both {k = x} {w} {a} {b} y l g ai bi ea eb) h = operator_sized x w a b 0 (both_small x y) g (omega arith) (omega arith) (omega arith)
built_sized (is_a_test {k = x} {w} {a} {b} y ew ai bi e) h = operator_sized x w a b 0 (test_small x y) (omega arith) (omega arith) (omega arith) (omega arith)
built_sized (is_choice {w} {a} {b} {c} l g ai bi ci ea eb ec) h = operator_sized 11 w a b c (omega arith) g (omega arith) (omega arith) (omega arith)
built_sized (is_sum {w} {a} {b} l g ai bi e) h = operator_sized 12 w a b 0 (omega arith) g (omega arith) (omega arith) (omega arith)
built_sized (is_part {w} {a} {q} l g ai e f) h = operator_sized 13 w a q 0 (omega arith) g (omega arith) (omega arith) (omega arith)
built_sized (is_signs {w} {a} l g ai e) h = operator_sized 16 w a 0 0 (omega arith) g (omega arith) (omega arith) (omega arith)

-- ---- the whole

roots_at : (ns : List Node) (rs : List ℕ) → AllRoots ns rs → (j : ℕ) → j < length rs → (get_or rs j 0 < length ns) × (width_in ns (get_or rs j 0) ≡ 1)
unfolding AllRoots
roots_at ns [] a j h = absurd (omega arith)
roots_at ns (r ∷ rs) a zero h = a.0
roots_at ns (r ∷ rs) a (suc j) h = roots_at ns rs a.1 j (omega arith)

module _ (σ : State) (F : Fine σ) (fn : length σ.nodes ≤ 1024) (fr : length σ.roots ≤ 256) where
  abbrev s : List ℕ
  s = bytes_of σ

  built_at : (i : ℕ) → i < length σ.nodes → Built σ.nodes i (get_or σ.nodes i (invert 0 0))
  unfolding AllBuilt
  built_at i h = F.built i h

  pub read_at : (i : ℕ) → i < length σ.nodes → node_at s i ≡ get_or σ.nodes i (invert 0 0)
  read_at i h = node_told σ fn fr i h (built_sized (built_at i h) (omega arith))

  pub told_width : (i : ℕ) → i < length σ.nodes → width_at s i ≡ width_in σ.nodes i
  unfolding width_at width_in
  told_width i h = ap (λ (m : Node). m.width) (read_at i h)

  pub facts_at : (i : ℕ) → i < length σ.nodes
      → NodeFacts (node_at s i) i (width_at s (node_at s i).a) (width_at s (node_at s i).b) (width_at s (node_at s i).c)
  facts_at i h =
      rw (read_at i h)
      (node_facts _ _ _ (built_at i h)
      (record { a_told = λ z. told_width _ (omega arith); b_told = λ z. told_width _ (omega arith); c_told = λ z. told_width _ (omega arith) }))

  pub root_in_place : (j : ℕ) → j < length σ.roots → root_at s j ≡ get_or σ.roots j 0
  root_in_place j h = let r = (roots_at σ.nodes σ.roots F.roots j h).0 in root_told σ fn fr j h (omega arith)

  pub bytes_accepted : checked s ≡ Accepted
  bytes_accepted =
      facts_accepted s
      (record {
        header =
            record {
              long = let w = whole σ fn fr in omega arith;
              mark_t = mark_t σ fn fr;
              mark_b = mark_b σ fn fr;
              mark_v = mark_v σ fn fr;
              version_one = version_one σ fn fr;
              nodes = rw (nodes_told σ fn fr) fn;
              roots = rw (roots_told σ fn fr) fr;
              whole = rw (nodes_told σ fn fr, roots_told σ fn fr) (whole σ fn fr);
            };
        node = λ i h. facts_at i (rw (nodes_told σ fn fr) at h);
        root_below = λ j h. let l : j < length σ.roots = rw (roots_told σ fn fr) at h in rw (root_in_place j l, nodes_told σ fn fr) (roots_at σ.nodes σ.roots F.roots j l).0;
        root_bit = λ j h.
            let l : j < length σ.roots = rw (roots_told σ fn fr) at h in
            let r = roots_at σ.nodes σ.roots F.roots j l in
            rw (root_in_place j l) (told_width (get_or σ.roots j 0) r.0 ∙ r.1);
        roots_differ = λ i j l h e.
            let m : j < length σ.roots = rw (roots_told σ fn fr) at h in
            distinct_apart σ.roots F.distinct i j l m (sym (root_in_place i (omega arith)) ∙ e ∙ root_in_place j m);
      })
