-- What the pass over the nodes takes from the definitions.
use Rattle.std.specs.Prelude.{◌≡◌, Bool, true, false, List, ℕ, zero, suc, ◌+◌, ◌*◌, ◌/◌, ◌≤◌, ◌<◌, length, get_or, set, replicate, Option, Some, None}
use Rattle.std.proofs.Math.Path.{refl}
use Rattle.std.proofs.Common.{sym, ap, ◌∙◌, subst, true≢false, inl, inr, arith, le_refl, add-one, length-set, get_or-set_same, get_or-set_other}
use Rattle.std.proofs.Math.Decide.{ℕ_discrete}
use Rattle.std.proofs.lemmas.List.{length-replicate}
use Rattle.problem.specs.Layout.{node_at}
use Rattle.nodes.specs.Problem.{Prob, problem, value_of, eval_up, evaluate}
use Rattle.evaluation.specs.Lists.{Lists}
use Rattle.evaluation.specs.Readers.{Chain, Reads, Above, itself, onward}
use Rattle.nodes.specs.inner.Good.{Good}
use Rattle.nodes.specs.inner.Nodes.{Evaluable, Marked, ReadsMarked, Wanted, Takes, Takes.value, Takes.nothing}
use Rattle.evaluation.specs.inner.Evaluation.{Assigned, Passed, Passed.renewed, Passed.left, Clear, Due, Asked, Asked.whole, Asked.part, Answered, Answered.whole, Answered.part, Changed, Renewal}
use Rattle.evaluation.specs.inner.Lists.{Count}
use Rattle.evaluation.specs.inner.Readers.{Ended}
use Rattle.evaluation.specs.laws.Decide.{lists_find, lists_length, lists_member}
use Rattle.nodes.specs.laws.Good.{good_of}
use Rattle.evaluation.specs.laws.Values.{length_eval_up, eval_up_none, eval_up_step, eval_up_lt, evaluate_variable}
use Rattle.evaluation.specs.laws.Lists.{count_none, count_keep, count_skip, lists_least}
use Rattle.evaluation.specs.laws.Linking.{zeros_at}
use Rattle.evaluation.specs.laws.Chains.{chain_none, chain_first}
use Rattle.evaluation.specs.laws.Above.{Renewed, renewed_none, renewed_all, renewed_skip, renewed_keep, above_from, above_through, reads_below}

-- ---- one node

module _ {s vs marks : List ℕ} {i : ℕ} {all : Bool} {r : Option ℕ} (t : Takes s i all vs marks r) where
  pub passed_over : r ≡ None → Passed s i all vs marks vs marks 0
  passed_over q = over (rw q at t)
    where
      over : Takes s i all vs marks None → Passed s i all vs marks vs marks 0
      over (nothing x) = left x refl refl refl

  pub passed_on : {x : ℕ} → r ≡ Some x → Passed s i all vs marks (set vs i x) (set marks i 1) 1
  passed_on {x} q = on (rw q at t)
    where
      on : Takes s i all vs marks (Some x) → Passed s i all vs marks (set vs i x) (set marks i 1) 1
      on (value w z) = renewed w (ap (set vs i) z) refl refl

pub passed_few : {s vs marks us next : List ℕ} {i r : ℕ} {all : Bool} → Passed s i all vs marks us next r → r ≤ 1
passed_few (renewed m p q e) = omega arith
passed_few (left x p q e) = omega arith

pub passed_long : {s vs marks us next : List ℕ} {i r : ℕ} {all : Bool} → Passed s i all vs marks us next r → length next ≡ length marks
passed_long {marks = marks} {i = i} (renewed m p q e) = ap length q ∙ length-set marks i 1
passed_long (left x p q e) = ap length q

-- ---- the pass over all nodes

-- the first i nodes are evaluated
pub evaluable :
    (s vs us : List ℕ) (i : ℕ)
    → Assigned s vs
    → i < (problem s).nodes
    → us ≡ eval_up (problem s) i vs
    → Evaluable s us i
evaluable s vs us i a l e =
    record {
      places = rw (e, length_eval_up (problem s) i vs) a.places;
      inside = l;
      narrow = λ m h. rw e (eval_up_lt (problem s) (good_of s a.accepted) vs a.places a.agrees i (omega arith) m h);
    }

-- all nodes are
pub evaluated_all : (P : Prob) (vs us : List ℕ) (i : ℕ) → i ≡ P.nodes → us ≡ eval_up P i vs → us ≡ evaluate P vs
unfolding evaluate
evaluated_all P vs us i n e = rw n at e

-- ---- the pass over what is above v

-- where it is: the nodes below i are evaluated, c of them are above v, and those are marked
pub record Passing (s vs : List ℕ) (v i : ℕ) (ws marks : List ℕ) (c : ℕ) : Type 0 where
  pub after : v < i
  pub inside : i ≤ (problem s).nodes
  pub room : (problem s).nodes ≤ length marks
  pub renewed : Renewed (problem s) vs i ws
  pub counted : Count (Above (problem s) v) i c
  pub of : (m : ℕ) → Marked marks m → (m < i) × Above (problem s) v m
  pub to : (m : ℕ) → m < i → Above (problem s) v m → Marked marks m

module _ {s slots vs : List ℕ} {v : ℕ} (C : Changed s slots vs v) where
  abbrev P : Prob
  P = problem s

  good : Good (problem s)
  good = good_of s C.assigned.accepted

  pub changed_few : (problem s).nodes ≤ 1024
  changed_few = good.few

  room : (problem s).nodes ≤ length C.before
  room = omega (arith, C.assigned.places, ap length C.is ∙ length-set C.before v C.value)

  -- no node from f up to n is above v
  passed :
      {f c : ℕ} {ws : List ℕ} (n : ℕ)
      → f ≤ n
      → n ≤ (problem s).nodes
      → ((k : ℕ) → f ≤ k → k < n → Above (problem s) v k → ⊥)
      → Renewed (problem s) vs f ws
      → Count (Above (problem s) v) f c
      → Renewed (problem s) vs n ws × Count (Above (problem s) v) n c
  passed {f} zero h l x r q = let e : f ≡ 0 = omega arith in (rw e at r, rw e at q)
  passed {f} {c} {ws} (suc n) h l x r q =
      elim (ℕ_discrete f (suc n)) [
        | yes e ↦ (rw e at r, rw e at q)
        | no y ↦
            let w = passed n (omega arith) (omega arith) (λ k a b. x k a (omega arith)) r q in
            let z = x n (omega arith) (omega arith) in (
              rw (← add-one n, C.is) (renewed_skip P good C.before room C.evaluated v C.value C.variable (rw C.is at w.0) l z),
              rw (← add-one n) (count_skip (Above P v) w.1 z),
            )
      ]

  -- v has its value
  after_v : Renewed (problem s) vs (v + 1) vs × Count (Above (problem s) v) (v + 1) 1
  after_v =
      let p = passed v (omega arith) (omega (arith, C.inside)) (λ k h l up. omega (arith, above_from P good up)) (renewed_none P vs) (count_none (Above P v)) in
      let own = sym (evaluate_variable P vs v (omega (arith, C.inside, C.assigned.places)) C.variable) in (
        record {
          long = refl;
          done = λ n h. elim (ℕ_discrete n v) [ yes e ↦ rw e own | no y ↦ p.0.done n (omega arith) ];
          left = λ n h. refl;
        },
        count_keep (Above P v) p.1 itself,
      )

  -- no node below f reads v
  module _ {f : ℕ} (least : (n : ℕ) → n < f → Reads (problem s) v n → ⊥) where
    only_itself : {n : ℕ} → Above (problem s) v n → n < f → n ≡ v
    only_itself itself h = refl
    only_itself (onward {m} {n} a l r) h =
        absurd (least n h (subst (λ (k : ℕ). Reads (problem s) k n) (only_itself a (omega (arith, reads_below P good l r))) r))

    up_to_there : v < f → f ≤ (problem s).nodes → Renewed (problem s) vs f vs × Count (Above (problem s) v) f 1
    up_to_there h l =
        passed f (omega arith) l (λ k a b up. omega (arith, only_itself up b)) after_v.0 after_v.1

  -- ---- from the index

  listed : Lists (Reads (problem s) v) (problem s).nodes (C.indexed.index.readers v)
  listed = C.indexed.index.each v C.inside

  chained : Chain slots (get_or slots (4 * v) 0) (C.indexed.index.readers v)
  chained = C.indexed.index.chain v C.inside

  ended : Ended s 0 slots v
  ended = C.indexed.end v C.variable

  -- nobody reads v
  pub alone : get_or slots (4 * v) 0 ≡ 0 → Renewal s vs v vs 1
  alone e =
      let w = up_to_there (λ n h r. omega (arith, chain_none chained e, (lists_find n listed h r).place_lt)) C.inside (le_refl P.nodes) in
      record { values = renewed_all P vs (le_refl P.nodes) w.0; count = w.1 }

  -- the chain begins with the first that does
  pub due : (get_or slots (4 * v) 0 ≡ 0 → ⊥) → Due s vs v (get_or slots (4 * v) 0 / 4) (get_or slots (4 * v + 1) 0)
  due x =
      let first = chain_first chained x in
      let m = lists_member listed 0 first.0 in
      record {
        slots = slots;
        changed = C;
        inside = omega (arith, m.below, first.1);
        reads = rw first.1 m.holds;
        least = λ n h r. omega (arith, first.1, m.below, lists_least listed n (omega (arith, first.1, m.below)) r);
        most = ended.most;
        past = λ k h a.
            elim (above_through a) [
              | inl e ↦ absurd (omega arith)
              | inr t ↦ ended.past t.reader k (omega arith) t.inside t.reads t.above
            ];
      }

  module _ {i c : ℕ} {ws marks : List ℕ} (o : Passing s vs v i ws marks c) where
    pass_few : c ≤ 1024
    pass_few = omega (arith, o.inside, good.few, sym o.counted.is, lists_length o.counted.lists)

    -- no node from i on is above v
    pass_end : ((k : ℕ) → v < k → Above (problem s) v k → k < i) → Renewal s vs v ws c
    pass_end x =
        let w = passed P.nodes o.inside (le_refl P.nodes) (λ k h l up. omega (arith, x k (omega (arith, o.after)) up)) o.renewed o.counted in
        record { values = renewed_all P vs (le_refl P.nodes) w.0; count = w.1 }

    module _ (l : i < (problem s).nodes) where
      pass_evaluable : Evaluable s ws i
      unfolding evaluate
      pass_evaluable =
          record {
            places = omega (arith, o.renewed.long, C.assigned.places);
            inside = l;
            narrow = λ k h.
                rw (o.renewed.done k h)
                (eval_up_lt P good vs C.assigned.places C.assigned.agrees P.nodes (le_refl P.nodes) k (omega arith));
          }

      reads_above : Wanted false marks (node_at s i) → Above (problem s) v i
      unfolding problem
      reads_above (inl e) = absurd (true≢false (sym e))
      reads_above (inr r) = onward (o.of _ r.is).1 l (record { position = r.position; there = r.there; is = refl })

      above_reads : {n : ℕ} → n ≡ i → Above (problem s) v n → ReadsMarked marks (node_at s i)
      unfolding problem
      above_reads e itself = absurd (omega (arith, o.after))
      above_reads e (onward {m} {n} a h r) =
          let q : Reads P m i = rw e at r in
          record { position = q.position; there = q.there; is = rw q.is (o.to m (omega (arith, reads_below P good h r)) a) }

      pass_more : {us next : List ℕ} {r : ℕ} → Passed s i false ws marks us next r → Passing s vs v (i + 1) us next (c + r)
      pass_more (renewed m p q e) =
          rw (p, q, e)
          (record {
            after = omega (arith, o.after);
            inside = omega arith;
            room = omega (arith, o.room, length-set marks i 1);
            renewed = rw C.is (renewed_keep P good C.before room C.evaluated v C.value C.variable (rw C.is at o.renewed) l refl);
            counted = count_keep (Above P v) o.counted (reads_above m);
            of = λ k h.
                elim (ℕ_discrete k i) [
                  | yes z ↦ (omega arith, rw z (reads_above m))
                  | no x ↦ let w = o.of k (rw (get_or-set_other marks i k 1 0 x) at h) in (omega (arith, w.0), w.1)
                ];
            to = λ k h a.
                elim (ℕ_discrete k i) [
                  | yes z ↦ rw (z, get_or-set_same marks i 1 0 (omega (arith, o.room))) (omega arith)
                  | no x ↦ rw (get_or-set_other marks i k 1 0 x) (o.to k (omega arith) a)
                ];
          })
      pass_more (left x p q e) =
          rw (p, q, e)
          (record {
            after = omega (arith, o.after);
            inside = omega arith;
            room = o.room;
            renewed = rw C.is (renewed_skip P good C.before room C.evaluated v C.value C.variable (rw C.is at o.renewed) l not_above);
            counted = let z : c + 0 ≡ c = omega arith in rw z (count_skip (Above P v) o.counted not_above);
            of = λ k h. let w = o.of k h in (omega (arith, w.0), w.1);
            to = λ k h a. o.to k (elim (ℕ_discrete k i) [ yes z ↦ absurd (not_above (rw z at a)) | no y ↦ omega arith ]) a;
          })
        where
          not_above : Above (problem s) v i → ⊥
          not_above a = x (inr (above_reads refl a))

-- v is marked
pass_start : {s vs marks : List ℕ} {v first end : ℕ} → Due s vs v first end → Clear s marks → Passing s vs v first vs (set marks v 1) 1
pass_start {s} {vs} {marks} {v} {first} D clear =
    let P : Prob = problem s in
    let C = D.changed in
    let after : v < first = reads_below P (good C) D.inside D.reads in
    let w = up_to_there C D.least after (omega (arith, D.inside)) in
    record {
      after = after;
      inside = omega (arith, D.inside);
      room = omega (arith, clear.room, length-set marks v 1);
      renewed = w.0;
      counted = w.1;
      of = λ k h.
          elim (ℕ_discrete k v) [
            | yes z ↦ (omega arith, rw z itself)
            | no x ↦ absurd (omega (arith, clear.none k, rw (get_or-set_other marks v k 1 0 x) at h))
          ];
      to = λ k h a. rw (only_itself C D.least a h, get_or-set_same marks v 1 0 (omega (arith, clear.room, C.inside))) (omega arith);
    }

-- ---- either pass

-- where it is, and how many it counted
pub data Going (s vs : List ℕ) (v i : ℕ) (ws marks : List ℕ) (c : ℕ) : Bool → Type 0 where
  over_all :
      Assigned s vs
      → i ≤ (problem s).nodes
      → (problem s).nodes ≤ length marks
      → c ≤ i + 1
      → ws ≡ eval_up (problem s) i vs
      → Going s vs v i ws marks c true
  over_above : {slots : List ℕ} → Changed s slots vs v → Passing s vs v i ws marks c → Going s vs v i ws marks c false

module _ {s vs marks : List ℕ} {v first end : ℕ} where
  pub going_marks : {all : Bool} → Asked s vs v first end all → Clear s marks → v < length marks
  going_marks (whole a z e l) clear = omega (arith, clear.some)
  going_marks (part D) clear = omega (arith, clear.room, D.changed.inside)

  pub going_start : {all : Bool} → Asked s vs v first end all → Clear s marks → Going s vs v first vs (set marks v 1) 1 all
  going_start (whole a z e l) clear =
      over_all a (omega arith) (omega (arith, clear.room, length-set marks v 1)) (omega arith) (sym (ap (λ (k : ℕ). eval_up (problem s) k vs) e ∙ eval_up_none (problem s) vs))
  going_start (part D) clear = over_above D.changed (pass_start D clear)

module _ {s vs ws marks : List ℕ} {v i c : ℕ} where
  pub going_few : {all : Bool} → Going s vs v i ws marks c all → c ≤ 1025
  going_few (over_all a l r h e) = omega (arith, (good_of s a.accepted).few)
  going_few (over_above C o) = omega (arith, pass_few C o)

  pub going_room : {all : Bool} → Going s vs v i ws marks c all → (problem s).nodes ≤ length marks
  going_room (over_all a l r h e) = r
  going_room (over_above C o) = o.room

  pub going_long : {all : Bool} → Going s vs v i ws marks c all → length ws ≡ length vs
  going_long (over_all a l r h e) = ap length e ∙ length_eval_up (problem s) i vs
  going_long (over_above C o) = o.renewed.long

  pub going_evaluable : {all : Bool} → Going s vs v i ws marks c all → i < (problem s).nodes → Evaluable s ws i
  going_evaluable (over_all a l r h e) b = evaluable s vs ws i a b e
  going_evaluable (over_above C o) b = pass_evaluable C o b

  pub going_more :
      {us next : List ℕ} {r : ℕ} {all : Bool}
      → Going s vs v i ws marks c all
      → i < (problem s).nodes
      → Passed s i all ws marks us next r
      → Going s vs v (i + 1) us next (c + r) all
  going_more (over_all a l m h e) b p = all_more a m h e b p
    where
      all_more :
          {us next : List ℕ} {r : ℕ}
          → Assigned s vs
          → (problem s).nodes ≤ length marks
          → c ≤ i + 1
          → ws ≡ eval_up (problem s) i vs
          → i < (problem s).nodes
          → Passed s i true ws marks us next r
          → Going s vs v (i + 1) us next (c + r) true
      all_more a m h e b (renewed w p q z) =
          over_all a (omega arith) (omega (arith, ap length q ∙ length-set marks i 1)) (omega arith)
          (p ∙ eval_up_step (problem s) i (value_of (problem s) ws i) ws vs e refl)
      all_more a m h e b (left x p q z) = absurd (x (inl refl))
  going_more (over_above C o) b p = over_above C (pass_more C o b p)

  pub going_end : {first end : ℕ} {all : Bool} → Asked s vs v first end all → Going s vs v i ws marks c all → end ≤ i → Answered s vs v all ws c
  going_end (whole b z f q) (over_all a l r h e) p = whole (evaluated_all (problem s) vs ws i (omega arith) e)
  going_end (part D) (over_above C o) p = part (pass_end C o (λ k h a. omega (arith, D.past k h a)))

-- marks in an array of zeros
pub clear_in : {s : List ℕ} (size : ℕ) → 0 < size → (problem s).nodes ≤ size → Clear s (replicate size 0)
clear_in size p l =
    record {
      some = omega (arith, length-replicate {A = ℕ} size 0);
      room = omega (arith, length-replicate {A = ℕ} size 0);
      none = zeros_at size;
    }

-- what is asked for ends with the nodes
pub asked_most : {s vs : List ℕ} {v first end : ℕ} {all : Bool} → Asked s vs v first end all → end ≤ (problem s).nodes
asked_most (whole a z e l) = omega arith
asked_most (part D) = D.most

pub asked_few : {s vs : List ℕ} {v first end : ℕ} {all : Bool} → Asked s vs v first end all → (problem s).nodes ≤ 1024
asked_few {s} (whole a z e l) = (good_of s a.accepted).few
asked_few (part D) = changed_few D.changed

pub answered_whole : {s vs us : List ℕ} {v r : ℕ} → Answered s vs v true us r → us ≡ evaluate (problem s) vs
answered_whole (whole e) = e

pub answered_part : {s vs us : List ℕ} {v r : ℕ} → Answered s vs v false us r → Renewal s vs v us r
answered_part (part w) = w
