-- What is promised of `run`, as theorems over all that its contract allows (`Called`): demands 1, 2 and 3, and that what
-- inner places held before has no bearing.
use Rattle.std.specs.Prelude.{◌≡◌, refl, ◌↔◌, List, [], ◌++◌, ℕ, ◌+◌, ◌*◌, ◌^◌, ◌≤◌, ◌<◌, get_or}
use Rattle.std.proofs.Math.Path.{sym}
use Rattle.std.proofs.Common.{ap, ◌∙◌, subst, arith, le_antisymm, length-append}
use Rattle.std.proofs.Math.Decide.{dec_lt}
use Rattle.std.proofs.Math.ListN.{length}
use Rattle.std.proofs.Math.Seq.{ext_get_or}
use Rattle.problem.specs.declared.Refusal.{Refusal}
use Rattle.problem.specs.Layout.{node_count}
use Rattle.problem.specs.Refusals.{Accepted, number_of as refusal_number, place_of as refusal_place, checked}
use Rattle.search.specs.declared.Verdict.{Verdict}
use Rattle.search.specs.declared.Outcome.{Outcome}
use Rattle.search.specs.declared.Answer.{Answer}
use Rattle.search.specs.Answers.{number_of, place_of, name, said}
use Rattle.nodes.specs.Problem.{Prob, problem, Variable, evaluate}
use Rattle.moves.specs.Moves.{AllOne, ClosedRoot}
use Rattle.search.specs.Run.{answer, Whole, Whole.closed, Whole.searched}
use Rattle.search.specs.Call.{refusals, refused, Called, Called.refuses, Called.runs}
use Rattle.nodes.specs.Values.{Evaluated, NodesAgree}
use Rattle.search.specs.Reach.{Solution, apart}
use Rattle.evaluation.specs.Height.{Longest}
use Rattle.nodes.specs.inner.Good.{Good}
use Rattle.nodes.specs.laws.Good.{good_of}
use Rattle.evaluation.specs.laws.Values.{length_evaluate, evaluate_above, evaluate_variable, evaluate_fixed, evaluated_same}
use Rattle.nodes.specs.laws.Pairs.{every_node}
use Rattle.search.specs.laws.Runs.{Kept, whole_kept, same_name, whole_closed, Leaves, Concluded, whole_concluded}
use Rattle.evaluation.specs.laws.Height.{longest, longest_is, longest_unique}
use Rattle.search.specs.laws.Found.{found}
use Rattle.search.specs.promises.Accepted.{Accepts, accepted_start}
use Rattle.search.specs.laws.Starts.{refusals_same}
use Rattle.search.specs.promises.Determined.{not_both, same_refusal, whole_unique, called_unique}

-- ---- a call that is not refused

module _ (s start : List ℕ) (e : refusals s start ≡ Accepted) where
  accepts : Accepts s start
  accepts = accepted_start s start e

  good : Good (problem s)
  good = good_of s accepts.problem_good

  room : (problem s).nodes ≤ length start
  unfolding problem
  room = accepts.room

  kept : {ws : List ℕ} {B : ℕ} {out : List ℕ} {a : Answer} → Whole (problem s) B start ws out a → Kept (problem s) good start out
  kept w = whole_kept (problem s) good w room accepts.agrees

  concluded :
      {ws : List ℕ} {B : ℕ} {out : List ℕ} {a : Answer}
      → Whole (problem s) B start ws out a
      → Concluded (problem s) B 0 0 (length ws) out a
  concluded {B = B} w = whole_concluded (problem s) good B w room accepts.agrees

-- a refusal is no verdict, and each is one
pub clash : {o : Outcome} {r : Refusal} {v : Verdict} → o ≡ Outcome.Refused r → o ≡ Outcome.Settled v → ⊥
clash p q = let z : ◌≡◌ {A = ℕ} 0 1 = cc in omega arith

pub same_outcome : {r r' : Refusal} → Outcome.Refused r ≡ Outcome.Refused r' → r ≡ r'
same_outcome p = cc

-- an outcome that is a verdict is called by the name of another exactly if it is that one
is_called : {o : Outcome} {v : Verdict} (u : Verdict) → o ≡ Outcome.Settled v → (said o ≡ name u) ↔ (v ≡ u)
is_called {v = v} u q = (λ e. same_name v u (sym (ap said q) ∙ e), λ e. ap said q ∙ ap name e)

-- ---- demand 1

-- a verdict was reached
pub record Settled (a : Answer) : Type 0 where
  pub verdict : Verdict
  pub is : a.outcome ≡ Outcome.Settled verdict

-- the answer's number and place are those that the table gives; a refusal "has all counts 0 and changes no lent place";
-- "None is given otherwise."
pub record Demand1 (s start out : List ℕ) (a : Answer) : Type 0 where
  pub number : number_of a.outcome ≡ refusal_number (refusals s start)
  pub place : place_of a.outcome ≡ refusal_place (refusals s start)
  pub none_otherwise : Settled a ↔ (refusals s start ≡ Accepted)
  pub silent : (r : Refusal) → a.outcome ≡ Outcome.Refused r → (a ≡ refused r) × (out ≡ start)

pub demand_1 : {s start ws : List ℕ} {B : ℕ} {out : List ℕ} {a : Answer} → Called s start ws B out a → Demand1 s start out a
demand_1 (refuses r e) =
    record {
      number = sym (ap refusal_number e);
      place = sym (ap refusal_place e);
      none_otherwise = (λ t. absurd (clash refl t.is), λ q. absurd (not_both q e));
      silent = λ r' q. (ap refused (same_outcome q), refl);
    }
demand_1 {s} {start} (runs e w) =
    let c = concluded s start e w in
    record {
      number = ap number_of c.settled ∙ sym (ap refusal_number e);
      place = ap place_of c.settled ∙ sym (ap refusal_place e);
      none_otherwise = (λ _. e, λ _. record { verdict = c.verdict; is = c.settled });
      silent = λ r q. absurd (clash q c.settled);
    }

-- ---- demand 2

-- the answer says model exactly when every root is 1 under the values handed back, closed exactly when a root is fixed at 0,
-- spent only where the budget is used up, and ended only where it is not; "After a verdict the first N places hold
-- every node's value under the final variables; later places are untouched"; every value agrees with its pair; "words =
-- moves + 2 x steps", within the budget and the tape
pub record Demand2 (s start ws : List ℕ) (B : ℕ) (out : List ℕ) (a : Answer) : Type 0 where
  pub model : (said a.outcome ≡ "model") ↔ AllOne (problem s) out
  pub closed : (said a.outcome ≡ "closed") ↔ ClosedRoot (problem s)
  pub spent : said a.outcome ≡ "spent" → a.moves ≡ B
  pub ended : said a.outcome ≡ "ended" → a.moves < B
  pub evaluated : Evaluated (problem s) out
  pub agrees : NodesAgree (problem s) out
  pub places : length out ≡ length start
  pub untouched : (n : ℕ) → node_count s ≤ n → get_or out n 0 ≡ get_or start n 0
  pub counts : a.words ≡ a.moves + 2 * a.steps
  pub budget : a.moves ≤ B
  pub tape : a.words ≤ length ws

pub demand_2 :
    {s start ws : List ℕ} {B : ℕ} {out : List ℕ} {a : Answer}
    → Called s start ws B out a
    → Settled a
    → Demand2 s start ws B out a
unfolding problem
demand_2 (refuses r e) t = absurd (clash refl t.is)
demand_2 {s} {start} {B = B} {out = out} {a = a} (runs e w) t =
    let k = kept s start e w in
    let c = concluded s start e w in
    let is_a_model = is_called Verdict.Model c.settled in
    let leaves : (u : Verdict) → said a.outcome ≡ name u → Leaves B a.moves u =
    λ u h. subst (Leaves B a.moves) ((is_called u c.settled).0 h) c.leaves in
    record {
      model = (λ h. c.model.0 (is_a_model.0 h), λ y. is_a_model.1 (c.model.1 y));
      closed = whole_closed w;
      spent = λ h. le_antisymm (c.budget (omega arith)) (leaves Verdict.Spent h);
      ended = leaves Verdict.Ended;
      evaluated = k.values.evaluated;
      agrees = every_node (problem s) (good s start e) out k.values;
      places = k.long;
      untouched = k.beyond;
      counts = c.counts;
      budget = c.budget (omega arith);
      tape = omega (arith, c.tape);
    }

-- ---- what inner places held before has no bearing

-- two starts of one length, with the same values of the variables and beyond the nodes
pub record Alike (s start other : List ℕ) : Type 0 where
  pub lengths : length start ≡ length other
  pub variables : (n : ℕ) → n < node_count s → Variable (problem s) n → get_or start n 0 ≡ get_or other n 0
  pub beyond : (n : ℕ) → node_count s ≤ n → get_or start n 0 ≡ get_or other n 0

module _ (s start other : List ℕ) (like : Alike s start other) where
  refused_alike : refusals s start ≡ refusals s other
  refused_alike = refusals_same s start other like.lengths like.variables

  evaluated_alike : refusals s start ≡ Accepted → evaluate (problem s) start ≡ evaluate (problem s) other
  unfolding problem
  evaluated_alike e =
      let P : Prob = problem s in
      let e' : refusals s other ≡ Accepted = sym refused_alike ∙ e in
      let g : Good P = good s start e in
      let r : P.nodes ≤ length start = room s start e in
      let r' : P.nodes ≤ length other = room s other e' in
      ext_get_or 0 _ _ (length_evaluate P start ∙ like.lengths ∙ sym (length_evaluate P other))
      (λ n _.
      elim (dec_lt n P.nodes) [
        | yes l ↦
            evaluated_same P g (evaluate P start) (evaluate P other) (evaluate_fixed P g start r) (evaluate_fixed P g other r')
            (λ m k v.
            evaluate_variable P start m (omega arith) v ∙ like.variables m k v ∙ sym (evaluate_variable P other m (omega arith) v))
            n l
        | no x ↦ evaluate_above P start n (omega arith) ∙ like.beyond n (omega arith) ∙ sym (evaluate_above P other n (omega arith))
      ])

  whole_alike :
      {P : Prob} {B : ℕ} {ws out : List ℕ} {a : Answer}
      → evaluate P start ≡ evaluate P other
      → Whole P B start ws out a
      → Whole P B other ws out a
  whole_alike e (closed c) = rw e (closed c)
  whole_alike e (searched c r) = searched c (rw e at r)

  -- the same answer, and after a verdict the same values
  pub start_no_bearing :
      {ws : List ℕ} {B : ℕ} {out out' : List ℕ} {a a' : Answer}
      → Called s start ws B out a
      → Called s other ws B out' a'
      → (a ≡ a') × (Settled a → out ≡ out')
  start_no_bearing (refuses r e) (refuses r' e') =
      (ap refused (same_refusal e (refused_alike ∙ e')), λ t. absurd (clash refl t.is))
  start_no_bearing (refuses r e) (runs e' w') = absurd (not_both (refused_alike ∙ e') e)
  start_no_bearing (runs e w) (refuses r' e') = absurd (not_both (sym refused_alike ∙ e) e')
  start_no_bearing (runs e w) (runs e' w') =
      let same = whole_unique (problem s) _ (whole_alike (evaluated_alike e) w) w' in (same.answers, λ _. same.values)

-- ---- demand 3

-- a call with the tape ws
pub record Call (s start ws : List ℕ) (B : ℕ) : Type 0 where
  pub out : List ℕ
  pub answer : Answer
  pub called : Called s start ws B out answer

-- model, within d moves and so many words
pub record ModelWithin (d most : ℕ) (a : Answer) : Type 0 where
  pub model : said a.outcome ≡ "model"
  pub moves : a.moves ≤ d
  pub words : a.words ≤ most

-- words of a tape with which, whatever follows them, every result that the contract allows is model within d moves and
-- d x (1 + 2H) words; and there is one
pub record Demand3 (s start : List ℕ) (B d H : ℕ) : Type 0 where
  pub words : List ℕ
  pub few : length words ≤ d * (1 + 2 * H)
  pub small : (k : ℕ) → k < length words → get_or words k 0 < 2 ^ 64
  pub some : (rest : List ℕ) → Call s start (words ++ rest) B
  pub every : (rest out : List ℕ) (a : Answer) → Called s start (words ++ rest) B out a → ModelWithin d (d * (1 + 2 * H)) a

-- "any accepted problem, any solution that agrees with the variables' fixed bits, any accepted start that differs from it
-- in d variables, any budget of at least d: there is a tape of at most d x (1 + 2H) words"
pub demand_3 :
    (s start us : List ℕ) (d B H : ℕ)
    → refusals s start ≡ Accepted
    → Solution (problem s) us
    → apart (problem s) start us (node_count s) ≤ d
    → d ≤ B
    → Longest (problem s) H
    → Demand3 s start B d H
unfolding problem
demand_3 s start us d B H e sol near b top =
    let f = found (problem s) (good s start e) H top us sol B start d (room s start e) (accepts s start e).agrees near b in
    -- with nothing after them it reads no more than these words
    let read : f.moves + 2 * f.steps ≤ length (f.words ++ []) = (demand_2 (runs e (f.ends [])) (record { verdict = Verdict.Model; is = refl })).tape in
    record {
      words = f.words;
      few = f.few;
      small = f.small;
      some = λ rest. record { out = f.out; answer = answer f.moves f.steps f.evaluated Verdict.Model; called = runs e (f.ends rest) };
      every =
          λ rest out a c.
          let same = (called_unique c (runs e (f.ends rest))).answers in
          rw same
          (record { model = refl; moves = f.moves_le; words = omega (arith, read, f.few, length-append f.words []) });
    }

-- of every accepted problem there is exactly one such H
pub longest_exact :
    (s : List ℕ) → checked s ≡ Accepted → Longest (problem s) (longest (problem s)) × ((h : ℕ) → Longest (problem s) h → h ≡ longest (problem s))
longest_exact s e = let l = longest_is (problem s) (good_of s e) in (l, λ h t. longest_unique t l)
