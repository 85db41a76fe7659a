-- Laws of runs: that the values stay evaluated and agreeing, that places beyond the nodes are kept, and what the answer says
-- of the values handed back, of the budget and of the tape.
use Rattle.std.specs.Prelude.{◌≡◌, refl, ◌↔◌, Bool, true, false, ◌||◌, List, ℕ, ◌+◌, ◌*◌, ◌≤◌, ◌<◌, length, get_or, set, T}
use Rattle.std.proofs.Common.{sym, ap, ◌∙◌, subst, arith, length-set, get_or-set_other}
use Prim.Native.String.{String}
use lib.Text.{eqt, eqt_refl}
use Rattle.words.specs.laws.Agree.{within_hi, within_le}
use Rattle.search.specs.declared.Verdict.{Verdict}
use Rattle.search.specs.declared.Outcome.{Outcome}
use Rattle.search.specs.declared.Answer.{Answer}
use Rattle.search.specs.Answers.{name, said}
use Rattle.nodes.specs.Problem.{Prob, evaluate}
use Rattle.moves.specs.Moves.{AllOne, ClosedRoot}
use Rattle.search.specs.Run.{answer, Run, Run.model, Run.spent, Run.ended, Run.moved, Run.held, Whole, Whole.closed, Whole.searched}
use Rattle.nodes.specs.Values.{VariablesAgree, NodesAgree}
use Rattle.nodes.specs.inner.Good.{Good, Held}
use Rattle.evaluation.specs.laws.Values.{length_evaluate, evaluate_above, held_evaluate}
use Rattle.nodes.specs.laws.Pairs.{every_node}
use Rattle.moves.specs.laws.Moves.{Lands, move_lands, move_spends}
use Rattle.moves.specs.laws.Setting.{after_agrees}

module _ (P : Prob) (g : Good P) where
  -- values that hold, in as many places, with those beyond the nodes untouched
  pub record Kept (vs out : List ℕ) : Type 0 where
    pub values : Held P out
    pub long : length out ≡ length vs
    pub beyond : (n : ℕ) → P.nodes ≤ n → get_or out n 0 ≡ get_or vs n 0

  kept_self : (vs : List ℕ) → Held P vs → Kept vs vs
  kept_self vs h = record { values = h; long = refl; beyond = λ n l. refl }

  kept_on : {vs us out : List ℕ} → Kept vs us → Kept us out → Kept vs out
  kept_on a b = record { values = b.values; long = b.long ∙ a.long; beyond = λ n l. b.beyond n l ∙ a.beyond n l }

  pub kept_start : (start : List ℕ) → P.nodes ≤ length start → VariablesAgree P start → Kept start (evaluate P start)
  kept_start start room a =
      record {
        values = held_evaluate P g start room a;
        long = length_evaluate P start;
        beyond = λ n l. evaluate_above P start n l;
      }

  -- "the variable takes the target, all nodes are evaluated"
  module _ (vs : List ℕ) (h : Held P vs) (n v : ℕ) (to : Lands P n v) where
    room : P.nodes ≤ length (set vs n v)
    room = omega (arith, length-set vs n v, h.places)

    pub kept_after : Kept vs (evaluate P (set vs n v))
    kept_after =
        let e = kept_start (set vs n v) room (after_agrees P g vs h n v to) in
        record {
          values = e.values;
          long = e.long ∙ length-set vs n v;
          beyond = λ m l. e.beyond m l ∙ get_or-set_other vs n m v 0 (λ q. let k = to.node in omega arith);
        }

  pub run_kept :
      {B : ℕ} {vs ws : List ℕ} {m s e : ℕ} {out : List ℕ} {a : Answer}
      → (ClosedRoot P → ⊥)
      → Run P B vs ws m s e out a
      → Held P vs
      → Kept vs out
  run_kept {vs = vs} c (model y) h = kept_self vs h
  run_kept {vs = vs} c (spent x b) h = kept_self vs h
  run_kept {vs = vs} c (ended x b k) h = kept_self vs h
  run_kept {vs = vs} c (moved {n = n} {v = v} x b k u r) h =
      let e = kept_after vs h n v (move_lands P g vs c x k) in kept_on e (run_kept c r e.values)
  run_kept c (held x b k r) h = run_kept c r h

  pub whole_kept :
      {B : ℕ} {start ws out : List ℕ} {a : Answer}
      → Whole P B start ws out a
      → P.nodes ≤ length start
      → VariablesAgree P start
      → Kept start out
  whole_kept {start = start} (closed c) room va = kept_start start room va
  whole_kept {start = start} (searched c r) room va = let e = kept_start start room va in kept_on e (run_kept c r e.values)

-- ---- what the answer says

-- a verdict is known by its name
abbrev known : Bool → Verdict → Verdict → Verdict
known true v u = v
known false v u = u

abbrev called : String → Verdict
called x =
    known (eqt x (name Verdict.Model)) Verdict.Model
    (known (eqt x (name Verdict.Spent)) Verdict.Spent (known (eqt x (name Verdict.Ended)) Verdict.Ended Verdict.Closed))

called_name : (v : Verdict) → called (name v) ≡ v
called_name Verdict.Model = refl
called_name Verdict.Spent = refl
called_name Verdict.Ended = refl
called_name Verdict.Closed = refl

pub same_name : (v u : Verdict) → name v ≡ name u → v ≡ u
same_name v u e = sym (called_name v) ∙ ap called e ∙ called_name u

-- two texts that are one; of two literals that are not, this is absurd
pub same_text : {x y : String} → x ≡ y → T (eqt x y)
same_text {x} e = subst (λ (y : String). T (eqt x y)) e (eqt_refl x)

-- what a run says that is not closed
abbrev searches : String → Bool
searches x = eqt x "model" || eqt x "spent" || eqt x "ended"

run_says :
    {P : Prob} {B : ℕ} {vs ws : List ℕ} {m s e : ℕ} {out : List ℕ} {a : Answer}
    → Run P B vs ws m s e out a
    → T (searches (said a.outcome))
run_says (model y) = tt
run_says (spent x b) = tt
run_says (ended x b k) = tt
run_says (moved x b k u r) = run_says r
run_says (held x b k r) = run_says r

pub says_other :
    {P : Prob} {B : ℕ} {vs ws : List ℕ} {m s e : ℕ} {out : List ℕ} {a : Answer} {x : String}
    → Run P B vs ws m s e out a
    → said a.outcome ≡ x
    → T (searches x)
says_other r q = subst (λ (x : String). T (searches x)) q (run_says r)

pub whole_closed :
    {P : Prob} {B : ℕ} {start ws out : List ℕ} {a : Answer}
    → Whole P B start ws out a
    → (said a.outcome ≡ "closed") ↔ ClosedRoot P
whole_closed (closed c) = (λ _. c, λ _. refl)
whole_closed (searched x r) = (λ q. absurd (says_other r q), λ c. absurd (x c))

-- how a verdict leaves the budget B after m moves
abbrev pub Leaves : ℕ → ℕ → Verdict → Type 0
Leaves B m Verdict.Model = Unit {0}
Leaves B m Verdict.Spent = B ≤ m
Leaves B m Verdict.Ended = m < B
Leaves B m Verdict.Closed = Unit {0}

-- the verdicts by number, to tell model from the others
abbrev number : Verdict → ℕ
number Verdict.Model = 0
number Verdict.Spent = 1
number Verdict.Ended = 2
number Verdict.Closed = 3

not_model : (v : Verdict) {A : Type 0} → 0 < number v → (A → ⊥) → (v ≡ Verdict.Model) ↔ A
not_model v h y = (λ e. absurd (let z : number v ≡ 0 = ap number e in omega arith), λ a. absurd (y a))

-- the verdict is model exactly when every root is 1; m moves and s steps were made before, under the budget B, with so many
-- words left
pub record Concluded (P : Prob) (B m s left : ℕ) (out : List ℕ) (a : Answer) : Type 0 where
  pub verdict : Verdict
  pub settled : a.outcome ≡ Outcome.Settled verdict
  pub model : (verdict ≡ Verdict.Model) ↔ AllOne P out
  pub counts : a.words ≡ a.moves + 2 * a.steps
  pub leaves : Leaves B a.moves verdict
  pub budget : m ≤ B → a.moves ≤ B
  pub tape : a.words ≤ m + 2 * s + left

module _ (P : Prob) (B : ℕ) where
  concluded_here :
      (m s e left : ℕ) (out : List ℕ) (v : Verdict)
      → (v ≡ Verdict.Model) ↔ AllOne P out
      → Leaves B m v
      → Concluded P B m s left out (answer m s e v)
  concluded_here m s e left out v q l =
      record { verdict = v; settled = refl; model = q; counts = refl; leaves = l; budget = λ h. h; tape = omega arith }

  -- after a move more
  concluded_on :
      (m s s' : ℕ) (ws ws' : List ℕ) {out : List ℕ} {a : Answer}
      → m < B
      → 1 + length ws' + 2 * s' ≡ length ws + 2 * s
      → Concluded P B (m + 1) s' (length ws') out a
      → Concluded P B m s (length ws) out a
  concluded_on m s s' ws ws' b e c =
      record {
        verdict = c.verdict;
        settled = c.settled;
        model = c.model;
        counts = c.counts;
        leaves = c.leaves;
        budget = λ _. c.budget (omega arith);
        tape = omega (arith, c.tape);
      }

  pub run_concluded :
      {vs ws : List ℕ} {m s e : ℕ} {out : List ℕ} {a : Answer}
      → Run P B vs ws m s e out a
      → Concluded P B m s (length ws) out a
  run_concluded {vs} {ws} {m} {s} {e} (model y) = concluded_here m s e (length ws) vs Verdict.Model (λ _. y, λ _. refl) tt
  run_concluded {vs} {ws} {m} {s} {e} (spent x b) = concluded_here m s e (length ws) vs Verdict.Spent (not_model Verdict.Spent (omega arith) x) b
  run_concluded {vs} {ws} {m} {s} {e} (ended x b k) = concluded_here m s e (length ws) vs Verdict.Ended (not_model Verdict.Ended (omega arith) x) b
  run_concluded {vs} {ws} {m} {s} (moved {ws' = ws'} {s' = s'} x b k u r) =
      concluded_on m s s' ws ws' b (move_spends P vs k) (run_concluded r)
  run_concluded {vs} {ws} {m} {s} (held {ws' = ws'} {s' = s'} x b k r) =
      concluded_on m s s' ws ws' b (move_spends P vs k) (run_concluded r)

-- a root that is fixed at 0 is not 1
pub closed_none : (P : Prob) → Good P → (vs : List ℕ) → NodesAgree P vs → ClosedRoot P → AllOne P vs → ⊥
unfolding NodesAgree
closed_none P g vs h c y =
    omega (
      arith,
      within_le (within_hi (h (P.root c.at) (g.root_below c.at c.at_lt))),
      y c.at c.at_lt,
      c.is_zero,
    )

pub whole_concluded :
    (P : Prob) (g : Good P) (B : ℕ) {start ws out : List ℕ} {a : Answer}
    → Whole P B start ws out a
    → P.nodes ≤ length start
    → VariablesAgree P start
    → Concluded P B 0 0 (length ws) out a
whole_concluded P g B {start} {ws} (closed c) room va =
    concluded_here P B 0 0 P.nodes (length ws) (evaluate P start) Verdict.Closed
    (not_model Verdict.Closed (omega arith)
    (closed_none P g (evaluate P start) (every_node P g (evaluate P start) (kept_start P g start room va).values) c))
    tt
whole_concluded P g B (searched c r) room va = run_concluded P B r
