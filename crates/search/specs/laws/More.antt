-- Laws of a longer call: the words that a run used lead it again to where it ended, whatever follows them.
use Rattle.std.specs.Prelude.{◌≡◌, refl, List, [], ◌∷◌, ◌++◌, ℕ, ◌+◌, ◌*◌, ◌%◌, ◌≤◌, length, get_or, take, drop}
use Rattle.std.proofs.Common.{sym, ap, ◌∙◌, subst, append_assoc, arith, length-append, take-append-drop}
use Rattle.std.proofs.Math.Seq.{take-append_seam}
use Rattle.search.specs.declared.Verdict.{Verdict}
use Rattle.search.specs.declared.Answer.{Answer}
use Rattle.search.specs.Answers.{said}
use Rattle.nodes.specs.Problem.{Prob, problem, evaluate, arg, spot, Variable}
use Rattle.evaluation.specs.Lists.{Lists}
use Rattle.evaluation.specs.laws.Lists.{lists_unique}
use Rattle.moves.specs.Step.{Step, goes, blocked}
use Rattle.moves.specs.Moves.{End, sets, stuck, short, Walk, Walk.arrives, Walk.unserved, Walk.stops, Walk.onward, Unsatisfied, Move, Move.no_word, Move.from_root, ClosedRoot}
use Rattle.search.specs.Run.{answer, Run, Run.model, Run.spent, Run.ended, Run.moved, Run.held, Whole, Whole.closed, Whole.searched}
use Rattle.search.specs.Call.{refusals, Called, Called.refuses, Called.runs}
use Rattle.moves.specs.laws.Moves.{move_spends}
use Rattle.search.specs.laws.Runs.{same_name, run_concluded}
use Rattle.moves.specs.promises.Determined.{move_unique, two_ends}
use Rattle.search.specs.promises.Determined.{not_both, called_unique}
use Rattle.search.specs.Passing.{Longer, Only, Passes, Passes.here, Passes.after_set, Passes.after_held, Through}
use Rattle.problem.specs.Refusals.{Accepted}

-- ---- the same words again

-- of the words ws the first were used and ws' are left; W holds of them whatever is left
record Begun (W : List ℕ → List ℕ → Type 0) (ws ws' : List ℕ) : Type 0 where
  used : List ℕ
  is : ws ≡ used ++ ws'
  again : (rest : List ℕ) → W (used ++ rest) rest

-- first some words, then others
begun_on :
    {U W : List ℕ → List ℕ → Type 0} (first : List ℕ) {ws ws' : List ℕ}
    → ((tape rest : List ℕ) → U tape rest → W (first ++ tape) rest)
    → Begun U ws ws'
    → Begun W (first ++ ws) ws'
begun_on {W = W} first {ws} {ws'} f b =
    record {
      used = first ++ b.used;
      is = ap (λ (l : List ℕ). first ++ l) b.is ∙ sym (append_assoc first b.used ws');
      again = λ rest. rw append_assoc (f (b.used ++ rest) rest (b.again rest));
    }

-- what a walk or a move comes to, whatever is left on the tape; nothing is said of one that the tape cannot serve
abbrev Again : (List ℕ → End → Type 0) → List ℕ → End → Type 0
Again W ws (sets n v s ws') = Begun (λ tape rest. W tape (sets n v s rest)) ws ws'
Again W ws (stuck s ws') = Begun (λ tape rest. W tape (stuck s rest)) ws ws'
Again W ws short = Unit {0}

again_on :
    (U W : List ℕ → End → Type 0) (first ws : List ℕ) (r : End)
    → ((tape : List ℕ) (r : End) → U tape r → W (first ++ tape) r)
    → Again U ws r
    → Again W (first ++ ws) r
again_on U W first ws (sets n v s ws') f b = begun_on first (λ tape rest. f tape (sets n v s rest)) b
again_on U W first ws (stuck s ws') f b = begun_on first (λ tape rest. f tape (stuck s rest)) b
again_on U W first ws short f b = tt

module _ (P : Prob) (vs : List ℕ) where
  abbrev Walks : ℕ → ℕ → ℕ → List ℕ → End → Type 0
  Walks n t s tape r = Walk P vs n t tape s r

  abbrev Moves : ℕ → List ℕ → End → Type 0
  Moves s tape r = Move P vs tape s r

  -- a step reads two words
  stops_again :
      {n t s : ℕ} (ws : List ℕ)
      → (Variable P n → ⊥)
      → 2 ≤ length ws
      → Step (spot P vs n) t (get_or ws 0 0) (get_or ws 1 0) blocked
      → Again (Walks n t s) ws (stuck (s + 1) (drop 2 ws))
  stops_again [] x h st = absurd (omega arith)
  stops_again (e ∷ []) x h st = absurd (omega arith)
  stops_again (e ∷ p ∷ ws) x h st =
      record { used = e ∷ p ∷ []; is = refl; again = λ rest. stops {ws = e ∷ p ∷ rest} x (omega arith) st }

  onward_again :
      {n t i v : ℕ} (s : ℕ) (ws : List ℕ) (r : End)
      → (Variable P n → ⊥)
      → 2 ≤ length ws
      → Step (spot P vs n) t (get_or ws 0 0) (get_or ws 1 0) (goes i v)
      → Again (Walks (arg P n i) v (s + 1)) (drop 2 ws) r
      → Again (Walks n t s) ws r
  onward_again s [] r x h st b = absurd (omega arith)
  onward_again s (e ∷ []) r x h st b = absurd (omega arith)
  onward_again {n} {t} {i} {v} s (e ∷ p ∷ ws) r x h st b =
      again_on (Walks (arg P n i) v (s + 1)) (Walks n t s) (e ∷ p ∷ []) ws r
      (λ tape r w. onward {ws = e ∷ p ∷ tape} x (omega arith) st w) b

  walk_again : {n t s : ℕ} {ws : List ℕ} {r : End} → Walk P vs n t ws s r → Again (Walks n t s) ws r
  walk_again (arrives v) = record { used = []; is = refl; again = λ rest. arrives v }
  walk_again (unserved x h) = tt
  walk_again {ws = ws} (stops x h st) = stops_again ws x h st
  walk_again {s = s} {ws = ws} {r = r} (onward x h st w) = onward_again s ws r x h st (walk_again w)

  -- a move reads one word before
  root_again :
      (s : ℕ) (us ws : List ℕ) (r : End)
      → 1 ≤ length ws
      → Lists (Unsatisfied P vs) P.entries us
      → Again (Walks (P.root (get_or us (get_or ws 0 0 % length us) 0)) 1 s) (drop 1 ws) r
      → Again (Moves s) ws r
  root_again s us [] r h l b = absurd (omega arith)
  root_again s us (k ∷ ws) r h l b =
      again_on (Walks (P.root (get_or us (k % length us) 0)) 1 s) (Moves s) (k ∷ []) ws r (λ tape r w. from_root us (omega arith) l w) b

  move_again : {s : ℕ} {ws : List ℕ} {r : End} → Move P vs ws s r → Again (Moves s) ws r
  move_again (no_word h) = tt
  move_again {s = s} {ws = ws} {r = r} (from_root us h l w) = root_again s us ws r h l (walk_again w)

-- ---- a run again, under a greater or equal budget

module _ (P : Prob) (B B' : ℕ) (more : B ≤ B') where
  -- it passes through where the first one ended, having read the words that the answer counts
  record Retraced (vs ws : List ℕ) (m s e : ℕ) (out : List ℕ) (a : Answer) : Type 0 where
    left : List ℕ
    begun : Begun (λ tape rest. Passes P B' vs tape m s e out rest a.moves a.steps a.evaluated) ws left
    count : m + 2 * s + length begun.used ≡ a.words

  retraced_here : (vs ws : List ℕ) (m s e : ℕ) (v : Verdict) → Retraced vs ws m s e vs (answer m s e v)
  retraced_here vs ws m s e v =
      record { left = ws; begun = record { used = []; is = refl; again = λ rest. here }; count = omega arith }

  -- after a move more
  retraced_on :
      {M : List ℕ → List ℕ → Type 0} {vs vs₁ ws ws₁ : List ℕ} {m s e s₁ e₁ : ℕ} {out : List ℕ} {a : Answer}
      → 1 + length ws₁ + 2 * s₁ ≡ length ws + 2 * s
      → Begun M ws ws₁
      → ((tape rest rest' : List ℕ) → M tape rest → Passes P B' vs₁ rest (m + 1) s₁ e₁ out rest' a.moves a.steps a.evaluated → Passes P B' vs tape m s e out rest' a.moves a.steps a.evaluated)
      → Retraced vs₁ ws₁ (m + 1) s₁ e₁ out a
      → Retraced vs ws m s e out a
  retraced_on {ws = ws} {ws₁ = ws₁} q b f r =
      let u : List ℕ = r.begun.used in
      record {
        left = r.left;
        begun = record {
          used = b.used ++ u;
          is = b.is ∙ ap (λ (l : List ℕ). b.used ++ l) r.begun.is ∙ sym (append_assoc b.used u r.left);
          again = λ rest. rw append_assoc (f _ _ rest (b.again (u ++ rest)) (r.begun.again rest));
        };
        count = omega (
          arith,
          q,
          r.count,
          length-append b.used u,
          ap length b.is,
          length-append b.used ws₁,
        );
      }

  retrace : {vs ws : List ℕ} {m s e : ℕ} {out : List ℕ} {a : Answer} → Run P B vs ws m s e out a → Retraced vs ws m s e out a
  retrace {vs} {ws} {m} {s} {e} (model y) = retraced_here vs ws m s e Verdict.Model
  retrace {vs} {ws} {m} {s} {e} (spent x b) = retraced_here vs ws m s e Verdict.Spent
  retrace {vs} {ws} {m} {s} {e} (ended x b k) = retraced_here vs ws m s e Verdict.Ended
  retrace {vs} (moved x b k u r) = retraced_on (move_spends P vs k) (move_again P vs k) (λ tape rest rest' k p. after_set x (omega arith) k u p) (retrace r)
  retrace {vs} (held x b k r) = retraced_on (move_spends P vs k) (move_again P vs k) (λ tape rest rest' k p. after_held x (omega arith) k p) (retrace r)

-- ---- a run cut open is a run

module _ (P : Prob) (B : ℕ) where
  passes_run :
      {vs ws vs' ws' out : List ℕ} {m s e m' s' e' : ℕ} {a : Answer}
      → Passes P B vs ws m s e vs' ws' m' s' e'
      → Run P B vs' ws' m' s' e' out a
      → Run P B vs ws m s e out a
  passes_run here r = r
  passes_run (after_set x b k u p) r = moved x b k u (passes_run p r)
  passes_run (after_held x b k p) r = held x b k (passes_run p r)

  -- what it comes to, it comes to from there
  passes_onward :
      {vs ws vs' ws' out : List ℕ} {m s e m' s' e' : ℕ} {a : Answer}
      → Passes P B vs ws m s e vs' ws' m' s' e'
      → Run P B vs ws m s e out a
      → Run P B vs' ws' m' s' e' out a
  passes_onward here r = r
  passes_onward (after_set x b k u p) (model y) = absurd (x y)
  passes_onward (after_set x b k u p) (spent x' b') = absurd (omega arith)
  passes_onward (after_set x b k u p) (ended x' b' k') = absurd (two_ends P _ k k' (omega arith))
  passes_onward {vs} (after_set {ws₁ = ws₁} {us = us₁} {s₁ = s₁} {n = n} {v = v} x b k u p) (moved {ws' = ws₂} {us = us₂} {s' = s₂} {n = n'} {v = v'} x' b' k' u' r') =
      let e : sets n v s₁ ws₁ ≡ sets n' v' s₂ ws₂ = move_unique P vs k k' in
      let e₁ : n ≡ n' = cc in
      let e₂ : v ≡ v' = cc in
      let e₃ : s₁ ≡ s₂ = cc in
      let e₄ : ws₁ ≡ ws₂ = cc in
      let e₅ : us₁ ≡ us₂ = lists_unique u (rw e₁ u') in
      passes_onward p (rw (e₁, e₂, e₃, e₄, e₅) r')
  passes_onward (after_set x b k u p) (held x' b' k' r') = absurd (two_ends P _ k k' (omega arith))
  passes_onward (after_held x b k p) (model y) = absurd (x y)
  passes_onward (after_held x b k p) (spent x' b') = absurd (omega arith)
  passes_onward (after_held x b k p) (ended x' b' k') = absurd (two_ends P _ k k' (omega arith))
  passes_onward (after_held x b k p) (moved x' b' k' u' r') = absurd (two_ends P _ k k' (omega arith))
  passes_onward {vs} (after_held {ws₁ = ws₁} {s₁ = s₁} x b k p) (held {ws' = ws₂} {s' = s₂} x' b' k' r') =
      let e : stuck s₁ ws₁ ≡ stuck s₂ ws₂ = move_unique P vs k k' in
      let e₃ : s₁ ≡ s₂ = cc in
      let e₄ : ws₁ ≡ ws₂ = cc in
      passes_onward p (rw (e₃, e₄) r')

whole_run : {P : Prob} {B : ℕ} {start ws out : List ℕ} {a : Answer} → (ClosedRoot P → ⊥) → Whole P B start ws out a → Run P B (evaluate P start) ws 0 0 P.nodes out a
whole_run x (closed c) = absurd (x c)
whole_run x (searched c r) = r

called_run :
    {s start ws : List ℕ} {B : ℕ} {out : List ℕ} {a : Answer}
    → refusals s start ≡ Accepted
    → (ClosedRoot (problem s) → ⊥)
    → Called s start ws B out a
    → Run (problem s) B (evaluate (problem s) start) ws 0 0 (problem s).nodes out a
called_run e x (refuses r e') = absurd (not_both e e')
called_run e x (runs e' w) = whole_run x w

-- ---- the longer call

-- a tape that begins with the used words
begins_used :
    (k : ℕ) (used left : List ℕ) {ws ws' : List ℕ}
    → length used ≡ k
    → ws ≡ used ++ left
    → take k ws' ≡ take k ws
    → used ++ drop k ws' ≡ ws'
begins_used k used left {ws} {ws'} n e h =
    let first : take k ws ≡ used = rw (e, ← n) (take-append_seam used left) in
    ap (λ (l : List ℕ). l ++ drop k ws') (sym first ∙ sym h) ∙ take-append-drop k ws'

pub go_through :
    {s start ws ws' : List ℕ} {B B' : ℕ} {out : List ℕ} {a : Answer}
    → refusals s start ≡ Accepted
    → (ClosedRoot (problem s) → ⊥)
    → Run (problem s) B (evaluate (problem s) start) ws 0 0 (problem s).nodes out a
    → Longer ws B a ws' B'
    → Through s start ws' B' out a
go_through {s} {start} {ws} {ws'} {B} {B'} {out} {a} e x r l =
    let t = retrace (problem s) B B' l.budget r in
    let same : t.begun.used ++ drop a.words ws' ≡ ws' = begins_used a.words t.begun.used t.left (omega (arith, t.count)) t.begun.is l.begins in
    let p : Passes (problem s) B' (evaluate (problem s) start) ws' 0 0 (problem s).nodes out (drop a.words ws') a.moves a.steps a.evaluated =
    subst (λ (tape : List ℕ). Passes (problem s) B' (evaluate (problem s) start) tape 0 0 (problem s).nodes out (drop a.words ws') a.moves a.steps a.evaluated) same
    (t.begun.again (drop a.words ws')) in
    record {
      accepted = e;
      none_closed = x;
      passes = p;
      onward = λ out' a' c. passes_onward (problem s) B' p (called_run e x c);
    }

pub only : {s start ws : List ℕ} {B : ℕ} {out : List ℕ} {a : Answer} → Called s start ws B out a → Only s start ws B out a
only c = record { allowed = c; no_other = λ out' a' c'. let same = called_unique c' c in (same.values, same.answers) }

pub model_on :
    {s start ws ws' : List ℕ} {B B' : ℕ} {out : List ℕ} {a : Answer}
    → refusals s start ≡ Accepted
    → (ClosedRoot (problem s) → ⊥)
    → Run (problem s) B (evaluate (problem s) start) ws 0 0 (problem s).nodes out a
    → said a.outcome ≡ "model"
    → Longer ws B a ws' B'
    → Called s start ws' B' out a
model_on {s} {start} {ws} {ws'} {B} {B'} {out} {a} e x r q l =
    let c = run_concluded (problem s) B r in
    let v : c.verdict ≡ Verdict.Model = same_name c.verdict Verdict.Model (sym (ap said c.settled) ∙ q) in
    let is : answer a.moves a.steps a.evaluated Verdict.Model ≡ a = rw (← c.counts, ← v, ← c.settled) in
    let t : Through s start ws' B' out a = go_through e x r l in
    runs e
    (searched x
    (passes_run (problem s) B' t.passes
    (subst (λ (a' : Answer). Run (problem s) B' out (drop a.words ws') a.moves a.steps a.evaluated out a') is (model (c.model.0 v)))))
