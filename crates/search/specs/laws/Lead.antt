-- Demand 3 for one walk: from a node whose value is not the solution's, some words lead to a variable that differs, and set
-- it to the solution's value. No operator's meaning is opened.
use Rattle.std.specs.Prelude.{◌≡◌, ◌⊎◌, List, [], ◌∷◌, ◌++◌, ℕ, zero, suc, ◌+◌, ◌*◌, ◌^◌, ◌/◌, ◌%◌, ◌≤◌, ◌<◌, length}
use Rattle.std.proofs.Math.Path.{refl, sym}
use Rattle.std.proofs.Common.{ap, ◌∙◌, arith, not-suc-le-zero, mod-eq_of_lt, lt_of_lt_of_le, pow_mono}
use Rattle.std.proofs.Math.Logic.{inl, inr}
use Rattle.std.proofs.Math.Decide.{ℕ_discrete}
use Rattle.std.proofs.Math.ListN.{get_or}
use Rattle.words.specs.Agree.{Agrees}
use Rattle.words.specs.laws.Agree.{agrees_only}
use Rattle.words.specs.laws.Pick.{pick_self}
use Rattle.picking.specs.declared.spot.Spot.{Spot}
use Rattle.picking.specs.Spot.{at, put, positions, Other, value, Admitted, Essential, NoneEssential, Consistent, Candidate}
use Rattle.nodes.specs.Problem.{Prob, count, arg, Variable, spot_of, spot, pair_lo, pair_hi}
use Rattle.moves.specs.Step.{Follows, Follows.consistent, Step, Step.followed, goes}
use Rattle.moves.specs.Moves.{sets, Walk, Walk.arrives, Walk.onward}
use Rattle.nodes.specs.Values.{Evaluated, NodesAgree}
use Rattle.evaluation.specs.Height.{Chain, Chain.ends, Chain.link}
use Rattle.nodes.specs.inner.Good.{Good}
use Rattle.picking.specs.laws.Positions.{few_positions, put_same}
use Rattle.evaluation.specs.laws.Decide.{Some, dec_some, all_or_some, Listed, listed, lists_length, Stands, lists_find}
use Rattle.moves.specs.laws.Candidates.{dec_essential, dec_candidate}
use Rattle.nodes.specs.laws.Nodes.{variable, constant, inner, which, at_column, operands, value_constant, value_operator, value_same, operand_node, at_width}
use Rattle.nodes.specs.laws.Pairs.{agreeing_lt}

-- words that a tape can hold
abbrev pub Small : List ℕ → Type 0
Small ws = (k : ℕ) → k < length ws → get_or ws k 0 < 2 ^ 64

pub small_cons : (x : ℕ) (ws : List ℕ) → x < 2 ^ 64 → Small ws → Small (x ∷ ws)
small_cons x ws h s zero l = h
small_cons x ws h s (suc k) l = s k (omega arith)

module _ (P : Prob) (g : Good P) (vs us : List ℕ) (ev : Evaluated P vs) (eu : Evaluated P us) (fv : NodesAgree P vs) (fu : NodesAgree P us) where
  abbrev pub Differs : ℕ → Type 0
  Differs n = get_or vs n 0 ≡ get_or us n 0 → ⊥

  -- node n differs, and is no variable
  module _ (n : ℕ) (l : n < P.nodes) (x : Variable P n → ⊥) (d : Differs n) where
    abbrev S : Spot
    S = spot P vs n

    abbrev t : ℕ
    t = get_or us n 0

    -- constants do not differ
    is_inner : 2 ≤ P.kind n
    unfolding Evaluated
    is_inner =
        elim (which (P.kind n)) [
          | variable e ↦ absurd (x e)
          | constant e ↦ absurd (d (ev n l ∙ value_constant P n vs e ∙ sym (value_constant P n us e) ∙ sym (eu n l)))
          | inner k ↦ k
        ]

    -- the solution's operands give the target
    target : value S (operands P us n) ≡ t
    unfolding Evaluated spot_of
    target = sym (eu n l ∙ value_operator P n us is_inner)

    under : (i : ℕ) → i < count P n → arg P n i < P.nodes
    under i h = operand_node P g n l i h

    -- with the solution's value at position i they still do
    gives_at : (i v : ℕ) → i < count P n → v ≡ get_or us (arg P n i) 0 → value S (put (operands P us n) i v) ≡ t
    gives_at i v h e =
        ap (value S) (put_same (operands P us n) i v (e ∙ sym (at_column P (λ m. get_or us m 0) n i h))) ∙ target

    -- values that agree everywhere agree with the positions' pairs
    agree_at : (xs : List ℕ) → NodesAgree P xs → (i : ℕ) → i < count P n → Agrees (at S.los i) (at S.his i) (get_or xs (arg P n i) 0)
    unfolding spot_of NodesAgree
    agree_at xs a i h = rw (at_column P (pair_lo P) n i h, at_column P (pair_hi P) n i h) (a (arg P n i) (under i h))

    agree_other : (i j : ℕ) → Other S i j → Agrees (at S.los j) (at S.his j) (at (operands P us n) j)
    unfolding spot_of
    agree_other i j o = rw (at_column P (λ m. get_or us m 0) n j o.below) (agree_at us fu j o.below)

    current_at : (i : ℕ) → i < count P n → at S.current i ≡ get_or vs (arg P n i) 0
    unfolding spot_of
    current_at i h = at_column P (λ m. get_or vs m 0) n i h

    -- "an essential position always differs": else the solution's other operands would give the target
    essential_differs : (i : ℕ) → i < count P n → Essential S t i → Differs (arg P n i)
    unfolding Essential
    essential_differs i h e same = e (operands P us n) (agree_other i) (gives_at i _ h (current_at i h ∙ same))

    -- a differing operand is not fully fixed
    differs_open : (i : ℕ) → i < count P n → Differs (arg P n i) → at S.los i ≡ at S.his i → ⊥
    differs_open i h y e = y (agrees_only (agree_at vs fv i h) e ∙ sym (agrees_only (agree_at us fu i h) e))

    fits : (i : ℕ) → i < count P n → get_or us (arg P n i) 0 < 2 ^ P.width (arg P n i)
    fits i h = agreeing_lt P g us fu (arg P n i) (under i h)

    position_width : (i : ℕ) → i < count P n → at S.widths i ≡ P.width (arg P n i)
    unfolding spot_of
    position_width i h = at_width P g n l i h

    -- the solution agrees with every node's pair, so its values are admitted
    admitted_at : (i j : ℕ) → Other S i j → Admitted S j (at (operands P us n) j)
    unfolding spot_of
    admitted_at i j o = record {
      fits = rw (at_column P (λ m. get_or us m 0) n j o.below, position_width j o.below) (fits j o.below);
      agrees = λ _. agree_other i j o;
    }

    -- the solution's value is consistent
    member : (i : ℕ) → i < count P n → Consistent S t i (get_or us (arg P n i) 0)
    member i h =
        record {
          agrees = agree_at us fu i h;
          reaches = record { others = operands P us n; admitted = admitted_at i; gives = gives_at i _ h refl };
        }

    -- a candidate that differs
    record Choice : Type 0 where
      place : ℕ
      place_lt : place < count P n
      differs : Differs (arg P n place)
      candidate : Candidate S t place

    some_differs : Some (λ i. Differs (arg P n i)) (count P n)
    unfolding Evaluated
    some_differs =
        elim (all_or_some (λ i. get_or vs (arg P n i) 0 ≡ get_or us (arg P n i) 0) (count P n) (λ i h. ℕ_discrete _ _)) [
          | inl same ↦ absurd (d (ev n l ∙ value_same P n vs us x same ∙ sym (eu n l)))
          | inr s ↦ s
        ]

    chosen : (i : ℕ) → i < count P n → Differs (arg P n i) → Essential S t i ⊎ NoneEssential S t → Choice
    chosen i h y w = record { place = i; place_lt = h; differs = y; candidate = record { wanted = w; open_bits = differs_open i h y } }

    choice : Choice
    unfolding spot_of NoneEssential
    choice =
        elim (dec_some (Essential S t) (positions S) (λ i h. dec_essential S t i h)) [
          | yes s ↦ chosen s.at s.at_lt (essential_differs s.at s.at_lt s.holds) (inl s.holds)
          | no y ↦
              let s : Some (λ i. Differs (arg P n i)) (count P n) = some_differs in
              chosen s.at s.at_lt s.holds (inr (λ j h e. y (record { at = j; at_lt = h; holds = e })))
        ]

    -- the words e and p of one step, and where it goes
    record Stepped : Type 0 where
      place : ℕ
      place_lt : place < count P n
      differs : Differs (arg P n place)
      word : ℕ
      word_lt : word < 2 ^ 64
      proposal_lt : get_or us (arg P n place) 0 < 2 ^ 64
      step : Step S t word (get_or us (arg P n place) 0) (goes place (get_or us (arg P n place) 0))

    follows : (e i j : ℕ) → e % 2 ≡ 1 → i < count P n → j ≡ i → Follows S t e (get_or us (arg P n i) 0) j (goes i (get_or us (arg P n i) 0))
    follows e i j o h q =
        rw q
        (consistent {v = get_or us (arg P n i) 0} (inl o) (rw (position_width i h, mod-eq_of_lt (fits i h)) (pick_self (member i h))))

    half_odd : (k : ℕ) → (2 * k + 1) / 2 ≡ k
    half_odd k = omega arith

    odd_odd : (k : ℕ) → (2 * k + 1) % 2 ≡ 1
    odd_odd k = omega arith

    positions_count : positions S ≡ count P n
    unfolding spot_of
    positions_count = refl

    -- "Take it with e = 2·number + 1 and p = the solution's value there"
    stepped : Stepped
    stepped =
        let c : Choice = choice in
        let h : c.place < count P n = c.place_lt in
        let ls : Listed (Candidate S t) (positions S) = listed (Candidate S t) (positions S) (dec_candidate S t) in
        let st : Stands c.place ls.list = lists_find c.place ls.lists (omega (arith, positions_count)) c.candidate in
        record {
          place = c.place;
          place_lt = h;
          differs = c.differs;
          word = 2 * st.place + 1;
          word_lt = omega (arith, st.place_lt, lists_length ls.lists, positions_count, few_positions (P.kind n));
          proposal_lt = lt_of_lt_of_le (fits c.place h) (pow_mono (g.node _ (under c.place h)).wide);
          step =
              followed ls.list ls.lists (omega (arith, st.place_lt))
              (follows (2 * st.place + 1) c.place _ (odd_odd st.place) h (rw (half_odd st.place, mod-eq_of_lt st.place_lt) st.is));
        }

  -- the words that lead from node n, two for each link of a chain, to a variable that differs
  pub record Led (n s : ℕ) : Type 0 where
    pub words : List ℕ
    pub links : ℕ
    pub chain : Chain P n links
    pub few : length words ≤ 2 * links
    pub small : Small words
    pub var : ℕ
    pub var_lt : var < P.nodes
    pub is_var : Variable P var
    pub differs : Differs var
    pub steps : ℕ
    pub walk : (rest : List ℕ) → Walk P vs n (get_or us n 0) (words ++ rest) s (sets var (get_or us var 0) steps rest)

  led_here : (n s : ℕ) → n < P.nodes → Variable P n → Differs n → Led n s
  led_here n s l v d =
      record {
        words = [];
        links = 0;
        chain = ends;
        few = omega arith;
        small = λ k x. absurd (not-suc-le-zero x);
        var = n;
        var_lt = l;
        is_var = v;
        differs = d;
        steps = s;
        walk = λ rest. arrives v;
      }

  led_onward :
      (n s : ℕ) (l : n < P.nodes) (x : Variable P n → ⊥) (d : Differs n) (st : Stepped n l x d)
      → Led (arg P n st.place) (s + 1)
      → Led n s
  led_onward n s l x d st r =
      let p : ℕ = get_or us (arg P n st.place) 0 in
      record {
        words = st.word ∷ p ∷ r.words;
        links = suc r.links;
        chain = link st.place_lt r.chain;
        few = omega (arith, r.few);
        small = small_cons st.word (p ∷ r.words) st.word_lt (small_cons p r.words st.proposal_lt r.small);
        var = r.var;
        var_lt = r.var_lt;
        is_var = r.is_var;
        differs = r.differs;
        steps = r.steps;
        walk = λ rest. onward {ws = st.word ∷ p ∷ (r.words ++ rest)} x (omega arith) st.step (r.walk rest);
      }

  pub lead : (f n s : ℕ) → n < f → n < P.nodes → Differs n → Led n s
  lead zero n s h l d = absurd (not-suc-le-zero h)
  lead (suc f) n s h l d =
      elim (ℕ_discrete (P.kind n) 0) [
        | yes v ↦ led_here n s l v d
        | no x ↦
            let st : Stepped n l x d = stepped n l x d in
            let b : arg P n st.place < n = (g.node n l).below st.place st.place_lt in
            led_onward n s l x d st (lead f (arg P n st.place) (s + 1) (omega arith) (omega arith) st.differs)
      ]
