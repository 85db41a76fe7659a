-- What the loop of a run takes from the definitions, and how a call begins.
use Rattle.std.specs.Prelude.{◌≡◌, refl, List, ℕ, ◌+◌, ◌*◌, ◌^◌, ◌≤◌, ◌<◌, length, drop, Some, None, Err as Refused}
use Rattle.std.proofs.Common.{sym, ◌∙◌, arith, add-zero}
use Rattle.problem.specs.declared.Refusal.{Refusal}
use Rattle.problem.specs.Layout.{node_count}
use Rattle.problem.specs.Refusals.{Checked, Accepted, first_below, checked, ◌then◌}
use Rattle.problem.specs.laws.First.{then_refused}
use Rattle.search.specs.declared.Verdict.{Verdict}
use Rattle.search.specs.declared.Answer.{Answer}
use Rattle.search.specs.declared.progress.Progress.{Progress}
use Rattle.nodes.specs.Problem.{problem, evaluate}
use Rattle.moves.specs.declared.turn.Turn.{Turn}
use Rattle.moves.specs.declared.tape.Tape.{Tape}
use Rattle.moves.specs.declared.view.Prepared.{Prepared}
use Rattle.moves.specs.Moves.{Unsatisfied, AllOne}
use Rattle.search.specs.Run.{answer, Run, Run.model, Run.spent, Run.ended, Run.moved, Run.held}
use Rattle.search.specs.Call.{places_fault, start_fault, refusals}
use Rattle.nodes.specs.Values.{VariablesAgree}
use Rattle.nodes.specs.inner.Good.{Good, Held}
use Rattle.nodes.specs.laws.Good.{good_of}
use Rattle.evaluation.specs.laws.Values.{held_evaluate}
use Rattle.search.specs.promises.Accepted.{accepted_start}
use Rattle.search.specs.laws.Starts.{then_assoc, refusals_lent}
use Rattle.moves.specs.laws.Moves.{move_lands, no_more, some_left}
use Rattle.search.specs.laws.Runs.{kept_after}
use Rattle.evaluation.specs.inner.Lists.{Count}
use Rattle.evaluation.specs.laws.Decide.{lists_length}
use Rattle.moves.specs.inner.Moves.{prob_in, Drawing, Finishes, Finishes.sets_one, Finishes.sets_none, Turned}
use Rattle.search.specs.inner.Run.{Searched}

-- where the loop of a run is: values that hold, so far on the tape; and what the rest of the run comes to, the whole run comes to
pub record Going (r : Prepared) (start tape : List ℕ) (B : ℕ) (vs : List ℕ) (p : Progress) : Type 0 where
  pub held : Held (prob_in r) vs
  pub most : p.moves ≤ B
  pub on_tape : p.next ≤ length tape
  pub words : p.next ≡ p.moves + 2 * p.steps
  pub few : p.evaluated ≤ 1024 * (p.moves + 1)
  pub onto :
      (out : List ℕ) (a : Answer)
      → Run (prob_in r) B vs (drop p.next tape) p.moves p.steps p.evaluated out a
      → Searched r.pairs.problem.bytes.now start tape B out a

pub going_start :
    (r : Prepared) {start tape : List ℕ} {B n : ℕ}
    → Held (prob_in r) start
    → n ≡ (prob_in r).nodes
    → Going r start tape B start (record { moves = 0; steps = 0; next = 0; evaluated = n })
going_start r h e =
    record {
      held = h;
      most = omega arith;
      on_tape = omega arith;
      words = refl;
      few = omega (arith, e, (good_of _ r.pairs.problem.accepted).few);
      onto = λ out a x. rw e at x;
    }

module _ {r : Prepared} {start tape : List ℕ} {B : ℕ} {vs : List ℕ} {p : Progress} (o : Going r start tape B vs p)
    {u : ℕ} (c : Count (Unsatisfied (prob_in r) vs) (prob_in r).entries u) where
  abbrev s : List ℕ
  s = r.pairs.problem.bytes.now

  pub going_model : u ≡ 0 → Searched s start tape B vs (answer p.moves p.steps p.evaluated Verdict.Model)
  going_model z = o.onto _ _ (model (no_more (problem s) vs (rw z at c)))

  module _ (h : 0 < u) where
    not_all : AllOne (problem s) vs → ⊥
    not_all = some_left (problem s) vs h c

    pub going_spent : B ≤ p.moves → Searched s start tape B vs (answer p.moves p.steps p.evaluated Verdict.Spent)
    going_spent b = o.onto _ _ (spent not_all b)

    pub going_draws : (t : Tape) → t.at ≡ p.next → Drawing r vs t u p.steps
    going_draws t e = record { held = o.held; counted = c; some = h; made_le = omega (arith, e, o.words) }

    module _ (b : p.moves < B) where
      pub going_ended : {us : List ℕ} → Turned (problem s) vs tape p.next p.steps us None → Searched s start tape B us (answer p.moves p.steps p.evaluated Verdict.Ended)
      going_ended q = rw q.1 (o.onto _ _ (ended not_all b q.0))

      good : Good (problem s)
      good = good_of s r.pairs.problem.accepted

      few_more : {us : List ℕ} {e t l : ℕ} → Finishes (problem s) vs tape p.next p.steps us e t l → e ≤ 1024
      few_more (sets_one q y w) = omega (arith, w.is, lists_length w.lists, good.few)
      few_more (sets_none q y z) = omega arith

      -- the count fits
      pub going_fits : {us : List ℕ} {t : Turn} → Turned (problem s) vs tape p.next p.steps us (Some t) → B < 65536 → p.evaluated + t.above < 2 ^ 64
      going_fits w h = omega (arith, o.few, few_more w.0)

      -- the values after a finished move hold, and the rest of the run goes on from them
      record Onward (us : List ℕ) (e t l : ℕ) : Type 0 where
        held_on : Held (problem s) us
        run_on : (out : List ℕ) (a : Answer) → Run (problem s) B us (drop l tape) (p.moves + 1) t (p.evaluated + e) out a → Run (problem s) B vs (drop p.next tape) p.moves p.steps p.evaluated out a

      onward : {us : List ℕ} {e t l : ℕ} → Finishes (problem s) vs tape p.next p.steps us e t l → Onward us e t l
      onward (sets_one {n} {v} q y w) =
          let after = kept_after (problem s) good vs o.held n v (move_lands (problem s) good vs r.open not_all q) in
          record {
            held_on = rw y after.values;
            run_on = λ out a x. moved not_all b q w.lists (rw (y, ← w.is) at x);
          }
      onward (sets_none q y z) =
          record {
            held_on = rw y o.held;
            run_on = λ out a x. held not_all b q (rw (y, z, add-zero p.evaluated) at x);
          }

      pub going_on :
          {us : List ℕ} {t : Turn}
          → Turned (problem s) vs tape p.next p.steps us (Some t)
          → Going r start tape B us (record { moves = p.moves + 1; steps = t.steps; next = t.next; evaluated = p.evaluated + t.above })
      going_on w =
          let on = onward w.0 in
          record {
            held = on.held_on;
            most = omega arith;
            on_tape = w.1;
            words = omega (arith, o.words, w.2);
            few = omega (arith, o.few, few_more w.0);
            onto = λ out a x. o.onto out a (on.run_on out a x);
          }

-- ---- refusals of a call

pub refused_of : (s vs : List ℕ) (r : Refusal) → (checked s then places_fault s vs) ≡ Refused r → refusals s vs ≡ Refused r
unfolding refusals
refused_of s vs r e = sym (then_assoc (checked s) (places_fault s vs) _) ∙ then_refused _ _ r e

-- where there is a place for each node of an accepted problem, a call is refused by 15 alone
pub refusals_there :
    (s vs : List ℕ) {x : Checked}
    → checked s ≡ Accepted
    → node_count s ≤ length vs
    → first_below (start_fault s vs) (node_count s) ≡ x
    → refusals s vs ≡ x
refusals_there s vs a l e = refusals_lent (record { accepted = a; places = l }) ∙ e

-- ---- a call that is not refused

module _ (s start : List ℕ) (a : refusals s start ≡ Accepted) where
  pub agrees_of : VariablesAgree (problem s) start
  agrees_of = (accepted_start s start a).agrees

  -- the values that the search begins with
  pub begins : {us : List ℕ} → us ≡ evaluate (problem s) start → Held (problem s) us
  unfolding problem
  begins e =
      let p = accepted_start s start a in
      rw e (held_evaluate (problem s) (good_of s p.problem_good) start p.room p.agrees)
