-- Laws behind specs/Had: a node of an accepted problem is offered; and for what is offered a problem of three variables and the node,
-- which is accepted and has it.
use Rattle.std.specs.Prelude.{◌≡◌, refl, Bool, true, false, List, [], ◌∷◌, ℕ, zero, suc, ◌+◌, ◌-◌, ◌^◌, ◌≤◌, ◌<◌, ltb}
use Rattle.std.proofs.Math.Path.{sym, ap}
use Rattle.std.proofs.Common.{◌∙◌, lt_of_lt_of_le, lt_of_le_of_lt, arith, pow_mono, lt-ltb, le-ltb}
use Rattle.std.proofs.Math.Decide.{dec_lt}
use Rattle.std.proofs.Math.ListN.{get_or}
use Rattle.words.specs.laws.Agree.{agrees_of_within, agrees_lt, within_le, within_zero}
use Rattle.fixed.specs.declared.Pair.{Pair}
use Rattle.operators.specs.Table.{shape_of}
use Rattle.problem.specs.declared.layout.Node.{Node}
use Rattle.problem.specs.Layout.{node_count, node_at, width_at}
use Rattle.problem.specs.inner.Facts.{NodeFacts, Facts}
use Rattle.problem.specs.laws.Facts.{facts_accepted}
use Rattle.picking.specs.declared.spot.Three.{Three}
use Rattle.picking.specs.declared.spot.Spot.{Spot}
use Rattle.picking.specs.Spot.{at, positions, Slot, Fair}
use Rattle.picking.specs.laws.Positions.{few_positions}
use Rattle.nodes.specs.Problem.{one_of, three, Prob, problem, count, arg, Variable, evaluate, pairs, spot_of, spot}
use Rattle.search.specs.Call.{refusals}
use Rattle.nodes.specs.Values.{VariablesAgree}
use Rattle.nodes.specs.inner.Good.{Good}
use Rattle.nodes.specs.laws.Good.{good_of}
use Rattle.evaluation.specs.laws.Values.{evaluate_variable, held_evaluate}
use Rattle.nodes.specs.laws.Pairs.{pairs_own}
use Rattle.nodes.specs.laws.Spot.{spot_fair}
use Rattle.search.specs.promises.Accepted.{Accepts, accepted_start, start_accepted}
use Rattle.walumpeh.specs.Offered.{Empty, Offered, plain}
use Rattle.walumpeh.specs.laws.Rules.{operands_fields, one_operand, rule_of_lem, low_law}
use Rattle.walumpeh.specs.laws.Built.{Fields, four, four_counts, four_header, four_first, four_second, four_third, four_last, four_small}
use Rattle.problem.specs.Refusals.{Accepted}

-- ---- what stands at the positions

three_used : (n : ℕ) (f : ℕ → ℕ) (j : ℕ) → j < 3 → j < n → at (three n f) j ≡ f j
unfolding three
three_used n f zero l h = rw (lt-ltb 0 n h)
three_used n f (suc zero) l h = rw (lt-ltb 1 n h)
three_used n f (suc (suc zero)) l h = rw (lt-ltb 2 n h)
three_used n f (suc (suc (suc j))) l h = absurd (omega arith)

three_none : (n : ℕ) (f : ℕ → ℕ) (j : ℕ) → j < 3 → n ≤ j → at (three n f) j ≡ 0
unfolding three
three_none n f zero l h = rw (le-ltb 0 n h)
three_none n f (suc zero) l h = rw (le-ltb 1 n h)
three_none n f (suc (suc zero)) l h = rw (le-ltb 2 n h)
three_none n f (suc (suc (suc j))) l h = absurd (omega arith)

joined_three : {a a' b b' c c' : ℕ} → a ≡ a' → b ≡ b' → c ≡ c' → ◌≡◌ {A = Three} (record { a = a; b = b; c = c }) (record { a = a'; b = b'; c = c' })
joined_three p q r = cc

same_three : (x y : Three) → ((j : ℕ) → j < 3 → at x j ≡ at y j) → x ≡ y
same_three x y e = joined_three (e 0 (omega arith)) (e 1 (omega arith)) (e 2 (omega arith))

column_is : (n : ℕ) (f : ℕ → ℕ) (x : Three) → ((j : ℕ) → j < n → f j ≡ at x j) → ((j : ℕ) → n ≤ j → j < 3 → at x j ≡ 0) → x ≡ three n f
column_is n f x e z =
    same_three x (three n f)
    (λ j l.
    elim (dec_lt j n) [
      | yes h ↦ sym (three_used n f j l h ∙ e j h)
      | no h ↦ z j (omega arith) l ∙ sym (three_none n f j l (omega arith))
    ])

at_each : (f : ℕ → ℕ) (x : Three) (j : ℕ) → at (record { a = f x.a; b = f x.b; c = f x.c }) j ≡ f (at x j)
at_each f x zero = refl
at_each f x (suc zero) = refl
at_each f x (suc (suc j)) = refl

joined_spot :
    {k k' w w' l l' : ℕ} {a a' b b' c c' d d' : Three}
    → k ≡ k'
    → w ≡ w'
    → l ≡ l'
    → a ≡ a'
    → b ≡ b'
    → c ≡ c'
    → d ≡ d'
    → ◌≡◌ {A = Spot} (record { kind = k; width = w; low = l; widths = a; los = b; his = c; current = d })
    (record { kind = k'; width = w'; low = l'; widths = a'; los = b'; his = c'; current = d' })
joined_spot p q r s t u v = cc

-- ---- what accepted problems have is offered

low_plain : (n m b : ℕ) → m ≤ n → one_of (ltb n m) b 0 ≡ 0
low_plain n m b h = rw (le-ltb n m h)

low_kept : (n m b : ℕ) → n < m → b ≡ one_of (ltb n m) b 0
low_kept n m b h = rw (lt-ltb n m h)

module _ (bytes start : List ℕ) (node : ℕ) (e : refusals bytes start ≡ Accepted) (inside : node < node_count bytes)
    (operator : 2 ≤ (node_at bytes node).kind) where
  abbrev P : Prob
  P = problem bytes

  abbrev vs : List ℕ
  vs = evaluate P start

  abbrev T : Spot
  T = spot P vs node

  accepts : Accepts bytes start
  accepts = accepted_start bytes start e

  good : Good P
  good = good_of bytes accepts.problem_good

  seen : Fair T
  unfolding problem
  seen = spot_fair P good vs (held_evaluate P good start accepts.room accepts.agrees) node inside operator

  fair : Fair (plain T)
  fair =
      record {
        kind_from = seen.kind_from;
        kind_below = seen.kind_below;
        some = seen.some;
        wide = seen.wide;
        rule = rule_of_lem T.kind T.width T.low (plain T).low T.widths T.widths (λ j l. refl) (low_kept _ _ _) seen.rule;
        slots = seen.slots;
      }

  empty : (j : ℕ) → positions T ≤ j → j < 3 → Empty (at T.widths j) (at T.los j) (at T.his j) (at T.current j)
  unfolding spot_of
  empty j l m =
      record {
        no_width = three_none _ _ j m l;
        no_lo = three_none _ _ j m l;
        no_hi = three_none _ _ j m l;
        no_value = three_none _ _ j m l;
      }

  pub accepted_offered : (i t : ℕ) → i < positions T → t < 2 ^ T.width → Offered (plain T) i t
  accepted_offered i t p q =
      record {
        asked = record { fair = fair; position = p; target = q };
        unused = empty;
        low_unused = λ l. low_plain _ _ _ l;
      }

-- ---- what is offered can be had: three variables and the node

small_of : (t : Bool) (x : ℕ) → x < 65536 → one_of t x 0 < 65536
small_of true x h = h
small_of false x h = omega arith

-- a variable of one bit that is fixed at 0
one_bit : Slot 1 0 0 0
one_bit =
    record {
      some = omega arith;
      wide = omega arith;
      ordered = within_zero 0;
      under = omega arith;
      agrees = agrees_of_within (within_zero 0) (within_zero 0);
    }

module _ (S : Spot) (i t : ℕ) (o : Offered S i t) where
  abbrev pub n : ℕ
  n = positions S

  abbrev pub fields : ℕ
  fields = (shape_of S.kind).fields

  -- a position that the kind does not have stands for a variable of one bit
  abbrev pub wide : ℕ → ℕ
  wide j = at S.widths j + (1 - at S.widths j)

  abbrev pub variable : ℕ → Node
  variable j = record { kind = 0; width = wide j; a = 0; b = 0; c = 0; lo = at S.los j; hi = at S.his j }

  abbrev pub operator : Node
  operator =
      record {
        kind = S.kind;
        width = S.width;
        a = 0;
        b = one_of (ltb n fields) S.low (one_of (ltb 1 n) 1 0);
        c = one_of (ltb 2 n) 2 0;
        lo = 0;
        hi = 0;
      }

  abbrev pub bytes : List ℕ
  bytes = four (variable 0) (variable 1) (variable 2) operator

  abbrev pub start : List ℕ
  start = S.current.a ∷ S.current.b ∷ S.current.c ∷ 0 ∷ []

  slot : (j : ℕ) → j < 3 → Slot (wide j) (at S.los j) (at S.his j) (at S.current j)
  slot j l =
      elim (dec_lt j n) [
        | yes h ↦ let s = o.asked.fair.slots j h in let e : wide j ≡ at S.widths j = omega (arith, s.some) in rw e s
        | no h ↦ let z = o.unused j (omega arith) l in rw (z.no_width, z.no_lo, z.no_hi, z.no_value) one_bit
      ]

  width_is : (j : ℕ) → j < n → wide j ≡ at S.widths j
  width_is j h = omega (arith, (o.asked.fair.slots j h).some)

  -- the operands of the node: position j holds node j
  operand_is : (j : ℕ) → j < n → at (record { a = operator.a; b = operator.b; c = operator.c }) j ≡ j
  operand_is zero h = refl
  operand_is (suc zero) h = rw (le-ltb n fields (second h), lt-ltb 1 n h)
    where
      second : 1 < n → fields ≤ n
      second h = elim (dec_lt n fields) [ yes l ↦ let m = one_operand S.kind l in absurd (omega arith) | no l ↦ omega arith ]
  operand_is (suc (suc zero)) h = rw (lt-ltb 2 n h)
  operand_is (suc (suc (suc j))) h = let f = few_positions S.kind in absurd (omega arith)

  field_b : operator.b < 65536
  field_b =
      elim (dec_lt n fields) [
        | yes h ↦ rw (lt-ltb n fields h) low
        | no h ↦ rw (le-ltb n fields (omega arith)) (small_of (ltb 1 n) 1 (omega arith))
      ]
    where
      low : S.low < 65536
      low =
          let f = o.asked.fair in
          low_law S.kind S.width S.widths.a S.widths.b S.widths.c S.low f.kind_below
          (f.slots 0 (omega (arith, o.asked.position))).wide f.rule o.low_unused

  variable_fields : (j : ℕ) → j < 3 → Fields (variable j)
  variable_fields j l =
      let s = slot j l in
      let h : at S.his j < 2 ^ 64 = lt_of_lt_of_le s.under (pow_mono s.wide) in
      record {
        kind = omega arith;
        width = omega (arith, s.wide);
        a = omega arith;
        b = omega arith;
        c = omega arith;
        lo = lt_of_le_of_lt (within_le s.ordered) h;
        hi = h;
      }

  operator_fields : Fields operator
  operator_fields =
      let f = o.asked.fair in
      record {
        kind = omega (arith, f.kind_below);
        width = omega (arith, f.wide);
        a = omega arith;
        b = field_b;
        c = small_of (ltb 2 n) 2 (omega arith);
        lo = omega arith;
        hi = omega arith;
      }

  node_at_variable : (j : ℕ) → j < 3 → node_at bytes j ≡ variable j
  node_at_variable zero l = four_first (variable 0) (variable 1) (variable 2) operator (variable_fields 0 l)
  node_at_variable (suc zero) l = four_second (variable 0) (variable 1) (variable 2) operator (variable_fields 1 l)
  node_at_variable (suc (suc zero)) l = four_third (variable 0) (variable 1) (variable 2) operator (variable_fields 2 l)
  node_at_variable (suc (suc (suc j))) l = absurd (omega arith)

  operator_node : node_at bytes 3 ≡ operator
  operator_node = four_last (variable 0) (variable 1) (variable 2) operator operator_fields

  -- ---- the problem is accepted

  variable_facts : (j k wa wb wc : ℕ) → j < 3 → NodeFacts (variable j) k wa wb wc
  variable_facts j k wa wb wc l =
      let s = slot j l in
      record {
        kind_known = omega arith;
        width_some = s.some;
        width_most = s.wide;
        a_below = λ h. absurd (omega arith);
        b_below = λ h. absurd (omega arith);
        c_below = λ h. absurd (omega arith);
        a_unused = λ h. refl;
        b_unused = λ h. refl;
        c_unused = λ h. refl;
        lo_unused = λ h. absurd (omega arith);
        hi_unused = λ h. absurd (omega arith);
        rule = tt;
        lo_inside = λ h. s.ordered;
        hi_fits = λ h. s.under;
        constant_fixed = λ e. absurd (omega arith);
      }

  abbrev widths_read : Three
  widths_read = record { a = width_at bytes operator.a; b = width_at bytes operator.b; c = width_at bytes operator.c }

  width_read : (j : ℕ) → j < n → at S.widths j ≡ at widths_read j
  unfolding width_at
  width_read j h =
      let few = few_positions S.kind in
      sym (at_each (width_at bytes) (record { a = operator.a; b = operator.b; c = operator.c }) j
      ∙ ap (width_at bytes) (operand_is j h)
      ∙ ap (λ (m : Node). m.width) (node_at_variable j (omega arith))
      ∙ width_is j h)

  operator_facts : NodeFacts operator 3 widths_read.a widths_read.b widths_read.c
  operator_facts =
      let f = o.asked.fair in
      let more = operands_fields S.kind in
      record {
        kind_known = omega (arith, f.kind_below);
        width_some = f.some;
        width_most = f.wide;
        a_below = λ h. omega arith;
        b_below = λ h. omega (arith, operand_is 1 h);
        c_below = λ h. omega (arith, operand_is 2 h);
        a_unused = λ h. refl;
        b_unused = λ h. let p = o.asked.position in rw (le-ltb n fields (omega arith), le-ltb 1 n (omega arith));
        c_unused = λ h. rw (le-ltb 2 n (omega arith));
        lo_unused = λ h. refl;
        hi_unused = λ h. refl;
        rule =
            rule_of_lem S.kind S.width S.low operator.b S.widths widths_read width_read (λ l. rw (lt-ltb n fields l)) f.rule;
        lo_inside = λ h. absurd (omega (arith, f.kind_from));
        hi_fits = λ h. absurd (omega (arith, f.kind_from));
        constant_fixed = λ h. absurd (omega (arith, f.kind_from));
      }

  facts : Facts bytes
  facts =
      let counts = four_counts (variable 0) (variable 1) (variable 2) operator in
      record {
        header = four_header (variable 0) (variable 1) (variable 2) operator;
        node =
            λ k l.
            elim (dec_lt k 3) [
              | yes h ↦ rw (node_at_variable k h) (variable_facts k k _ _ _ h)
              | no h ↦ let e : k ≡ 3 = omega (arith, counts.0) in rw (e, operator_node) operator_facts
            ];
        root_below = λ j l. absurd (omega (arith, counts.1));
        root_bit = λ j l. absurd (omega (arith, counts.1));
        roots_differ = λ i j m l. absurd (omega (arith, counts.1));
      }

  start_at : (j : ℕ) → j < 3 → get_or start j 0 ≡ at S.current j
  start_at zero l = refl
  start_at (suc zero) l = refl
  start_at (suc (suc zero)) l = refl
  start_at (suc (suc (suc j))) l = absurd (omega arith)

  pub accepts_start : refusals bytes start ≡ Accepted
  unfolding VariablesAgree problem
  accepts_start =
      let counts = four_counts (variable 0) (variable 1) (variable 2) operator in
      start_accepted bytes start
      (record {
        problem_good = facts_accepted bytes facts;
        room = omega (arith, counts.0);
        agrees =
            λ k l v.
            elim (dec_lt k 3) [
              | yes h ↦ rw (node_at_variable k h, start_at k h) (slot k h).agrees
              | no h ↦
                  let e : k ≡ 3 = omega (arith, counts.0) in
                  let z : S.kind ≡ 0 = rw (e, operator_node) at v in absurd (omega (arith, o.asked.fair.kind_from))
            ];
      })

  -- ---- and its node 3 is S

  abbrev Q : Prob
  Q = problem bytes

  well : Good Q
  well = good_of bytes (facts_accepted bytes facts)

  nodes_four : Q.nodes ≡ 4
  unfolding problem
  nodes_four = (four_counts (variable 0) (variable 1) (variable 2) operator).0

  count_is : count Q 3 ≡ n
  unfolding problem
  count_is = ap (λ (m : Node). (shape_of m.kind).operands) operator_node

  arg_is : (j : ℕ) → j < n → arg Q 3 j ≡ j
  unfolding problem
  arg_is j h = rw operator_node (operand_is j h)

  is_variable : (j : ℕ) → j < 3 → Variable Q j
  unfolding problem
  is_variable j l = ap (λ (m : Node). m.kind) (node_at_variable j l)

  own_pair : (j : ℕ) → j < 3 → (get_or (pairs Q).los j 0 ≡ at S.los j) × (get_or (pairs Q).his j 0 ≡ at S.his j)
  unfolding problem
  own_pair j l =
      let e = pairs_own Q well j (omega (arith, nodes_four)) (omega (arith, is_variable j l)) in
      let m = node_at_variable j l in
      (ap (λ (p : Pair). p.lo) e ∙ ap (λ (x : Node). x.lo) m, ap (λ (p : Pair). p.hi) e ∙ ap (λ (x : Node). x.hi) m)

  own_width : (j : ℕ) → j < n → j < 3 → Q.width j ≡ at S.widths j
  unfolding problem
  own_width j h l = ap (λ (m : Node). m.width) (node_at_variable j l) ∙ width_is j h

  own_value : (j : ℕ) → j < 3 → get_or (evaluate Q start) j 0 ≡ at S.current j
  own_value j l = evaluate_variable Q start j (omega arith) (is_variable j l) ∙ start_at j l

  -- what the positions of node 3 hold
  held : (f : ℕ → ℕ) (x : Three) → ((j : ℕ) → j < n → j < 3 → f j ≡ at x j) → ((j : ℕ) → n ≤ j → j < 3 → at x j ≡ 0)
      → x ≡ three (count Q 3) (λ j. f (arg Q 3 j))
  held f x e z =
      rw count_is
      (column_is n (λ j. f (arg Q 3 j)) x
      (λ j h. let few = few_positions S.kind in ap f (arg_is j h) ∙ e j h (omega arith)) z)

  low_is : S.low ≡ one_of (ltb n fields) operator.b 0
  low_is =
      elim (dec_lt n fields) [
        | yes h ↦ rw (lt-ltb n fields h)
        | no h ↦ rw (le-ltb n fields (omega arith)) (o.low_unused (omega arith))
      ]

  pub taken : S ≡ plain (spot Q (evaluate Q start) 3)
  unfolding spot_of problem
  taken =
      let p = held (λ j. get_or (pairs Q).los j 0) S.los (λ j h l. (own_pair j l).0) (λ j h l. (o.unused j h l).no_lo) in
      joined_spot (sym (ap (λ (m : Node). m.kind) operator_node)) (sym (ap (λ (m : Node). m.width) operator_node)) (rw operator_node low_is)
      (held (λ j. Q.width j) S.widths own_width (λ j h l. (o.unused j h l).no_width)) p
      (held (λ j. get_or (pairs Q).his j 0) S.his (λ j h l. (own_pair j l).1) (λ j h l. (o.unused j h l).no_hi))
      (held (λ j. get_or (evaluate Q start) j 0) S.current (λ j h l. own_value j l) (λ j h l. (o.unused j h l).no_value))

  start_past : (k : ℕ) → 3 ≤ k → get_or start k 0 ≡ 0
  start_past zero h = absurd (omega arith)
  start_past (suc zero) h = absurd (omega arith)
  start_past (suc (suc zero)) h = absurd (omega arith)
  start_past (suc (suc (suc zero))) h = refl
  start_past (suc (suc (suc (suc k)))) h = refl

  pub small_start : (k : ℕ) → get_or start k 0 < 2 ^ 64
  small_start k =
      elim (dec_lt k 3) [
        | yes h ↦
            let s = slot k h in
            rw (start_at k h) (lt_of_lt_of_le (agrees_lt (wide k) s.under s.agrees) (pow_mono s.wide))
        | no h ↦ rw (start_past k (omega arith)) (omega arith)
      ]

  pub small_bytes : (k : ℕ) → get_or bytes k 0 < 256
  small_bytes =
      four_small (variable 0) (variable 1) (variable 2) operator (variable_fields 0 (omega arith)) (variable_fields 1 (omega arith))
      (variable_fields 2 (omega arith)) operator_fields

  pub node_inside : 3 < node_count bytes
  node_inside = omega (arith, (four_counts (variable 0) (variable 1) (variable 2) operator).0)

  pub node_operator : 2 ≤ (node_at bytes 3).kind
  node_operator = rw operator_node o.asked.fair.kind_from
