-- What the definitions of a run allow is one result: runs and whole calls are each determined.
use Rattle.std.specs.Prelude.{Err as Refused, ◌≡◌, refl, Bool, List, ℕ, ◌*◌, ◌<◌, get_or}
use Rattle.std.proofs.Common.{sym, ap, ◌∙◌, arith}
use Rattle.std.specs.Borrow.{Bor}
use Rattle.words.specs.laws.Decides.{decides_unique}
use Rattle.problem.specs.declared.Problem.{Problem}
use Rattle.problem.specs.declared.Refusal.{Refusal}
use Rattle.problem.specs.laws.First.{refused_not}
use Rattle.search.specs.declared.Answer.{Answer}
use Rattle.search.specs.declared.Outcome.{Outcome}
use Rattle.search.specs.Answers.{verdict_code, refusal_code, outcome_code}
use Rattle.nodes.specs.Problem.{Prob, problem}
use Rattle.evaluation.specs.Readers.{Chain}
use Rattle.nodes.specs.inner.Nodes.{Fills}
use Rattle.nodes.specs.promises.Determined.{fill_determined}
use Rattle.evaluation.specs.promises.Determined.{index_readers_determined}
use Rattle.search.specs.inner.Run.{Prepared, Readied}
use Rattle.search.specs.declared.ready.Ready.{Ready}
use Rattle.evaluation.specs.laws.Lists.{lists_unique}
use Rattle.moves.specs.Moves.{sets, stuck}
use Rattle.search.specs.Run.{Run, Run.model, Run.spent, Run.ended, Run.moved, Run.held, Whole, Whole.closed, Whole.searched}
use Rattle.search.specs.Call.{Called, Called.refuses, Called.runs, refused}
use Rattle.moves.specs.promises.Determined.{move_unique, two_ends}
use Rattle.problem.specs.Refusals.{Checked, Accepted}

-- ---- a run

-- the values handed back and the answer
pub record Same (out out' : List ℕ) (a a' : Answer) : Type 0 where
  pub values : out ≡ out'
  pub answers : a ≡ a'

itself : {out : List ℕ} {a : Answer} → Same out out a a
itself = record { values = refl; answers = refl }

module _ (P : Prob) (B : ℕ) where
  pub run_unique :
      {vs ws : List ℕ} {m s e : ℕ} {out out' : List ℕ} {a a' : Answer}
      → Run P B vs ws m s e out a
      → Run P B vs ws m s e out' a'
      → Same out out' a a'
  run_unique (model y) (model y') = itself
  run_unique (model y) (spent x' b') = absurd (x' y)
  run_unique (model y) (ended x' b' k') = absurd (x' y)
  run_unique (model y) (moved x' b' k' u' r') = absurd (x' y)
  run_unique (model y) (held x' b' k' r') = absurd (x' y)
  run_unique (spent x b) (model y') = absurd (x y')
  run_unique (spent x b) (spent x' b') = itself
  run_unique (spent x b) (ended x' b' k') = absurd (omega arith)
  run_unique (spent x b) (moved x' b' k' u' r') = absurd (omega arith)
  run_unique (spent x b) (held x' b' k' r') = absurd (omega arith)
  run_unique (ended x b k) (model y') = absurd (x y')
  run_unique (ended x b k) (spent x' b') = absurd (omega arith)
  run_unique (ended x b k) (ended x' b' k') = itself
  run_unique (ended x b k) (moved x' b' k' u' r') = absurd (two_ends P _ k k' (omega arith))
  run_unique (ended x b k) (held x' b' k' r') = absurd (two_ends P _ k k' (omega arith))
  run_unique (moved x b k u r) (model y') = absurd (x y')
  run_unique (moved x b k u r) (spent x' b') = absurd (omega arith)
  run_unique (moved x b k u r) (ended x' b' k') = absurd (two_ends P _ k k' (omega arith))
  run_unique {vs} (moved {ws' = ws₁} {us = us₁} {s' = s₁} {n = n} {v = v} x b k u r) (moved {ws' = ws₂} {us = us₂} {s' = s₂} {n = n'} {v = v'} x' b' k' u' r') =
      let e : sets n v s₁ ws₁ ≡ sets n' v' s₂ ws₂ = move_unique P vs k k' in
      let e₁ : n ≡ n' = cc in
      let e₂ : v ≡ v' = cc in
      let e₃ : s₁ ≡ s₂ = cc in
      let e₄ : ws₁ ≡ ws₂ = cc in
      let e₅ : us₁ ≡ us₂ = lists_unique u (rw e₁ u') in
      run_unique r (rw (e₁, e₂, e₃, e₄, e₅) r')
  run_unique (moved x b k u r) (held x' b' k' r') = absurd (two_ends P _ k k' (omega arith))
  run_unique (held x b k r) (model y') = absurd (x y')
  run_unique (held x b k r) (spent x' b') = absurd (omega arith)
  run_unique (held x b k r) (ended x' b' k') = absurd (two_ends P _ k k' (omega arith))
  run_unique (held x b k r) (moved x' b' k' u' r') = absurd (two_ends P _ k k' (omega arith))
  run_unique {vs} (held {ws' = ws₁} {s' = s₁} x b k r) (held {ws' = ws₂} {s' = s₂} x' b' k' r') =
      let e : stuck s₁ ws₁ ≡ stuck s₂ ws₂ = move_unique P vs k k' in
      let e₃ : s₁ ≡ s₂ = cc in
      let e₄ : ws₁ ≡ ws₂ = cc in
      run_unique r (rw (e₃, e₄) r')

  pub whole_unique :
      {start ws out out' : List ℕ} {a a' : Answer}
      → Whole P B start ws out a
      → Whole P B start ws out' a'
      → Same out out' a a'
  whole_unique (closed c) (closed c') = itself
  whole_unique (closed c) (searched x' r') = absurd (x' c)
  whole_unique (searched x r) (closed c') = absurd (x c')
  whole_unique (searched x r) (searched x' r') = run_unique r r'

-- ---- a call

pub not_both : {x : Checked} {r : Refusal} → x ≡ Accepted → x ≡ Refused r → ⊥
not_both p q = refused_not (sym q ∙ p)

pub same_refusal : {x : Checked} {r r' : Refusal} → x ≡ Refused r → x ≡ Refused r' → r ≡ r'
same_refusal p q = cc

-- the answer and every lent place are determined, refused calls included
pub called_unique :
    {s start ws : List ℕ} {B : ℕ} {out out' : List ℕ} {a a' : Answer}
    → Called s start ws B out a
    → Called s start ws B out' a'
    → Same out out' a a'
called_unique (refuses r e) (refuses r' e') = record { values = refl; answers = ap refused (same_refusal e e') }
called_unique (refuses r e) (runs e' w') = absurd (not_both e' e)
called_unique (runs e w) (refuses r' e') = absurd (not_both e e')
called_unique (runs e w) (runs e' w') = whole_unique _ _ w w'

-- "the contract determines the result and every lent place afterwards": of `run`
pub run_determined :
    (s start ws : List ℕ) (B : ℕ) (out out' : List ℕ) (a a' : Answer)
    → Called s start ws B out a
    → Called s start ws B out' a'
    → (out ≡ out') × (a ≡ a')
run_determined s start ws B out out' a a' c c' = let same = called_unique c c' in (same.values, same.answers)

-- of `run_one`
pub run_one_determined :
    (s start ws : List ℕ) (B : ℕ) (out out' : List ℕ) (a a' : Answer)
    → Called s start ws B out a
    → Called s start ws B out' a'
    → (out ≡ out') × (a ≡ a')
run_one_determined = run_determined

-- of `prepare`: pairs and answer; of the index the nodes of every chain, as `index_readers_determined` says
pub prepare_determined :
    (s los his los' his' slots' los'' his'' slots'' : List ℕ) (r r' : Bool)
    → Prepared s los' his' slots' r × Fills s los his los' his'
    → Prepared s los'' his'' slots'' r' × Fills s los his los'' his''
    → ((los' ≡ los'') × (his' ≡ his'')) × (r ≡ r') × ((m : ℕ) (l l' : List ℕ) → m < (problem s).nodes → Chain slots' (get_or slots' (4 * m) 0) l → Chain slots'' (get_or slots'' (4 * m) 0) l' → l ≡ l')
prepare_determined s los his los' his' slots' los'' his'' slots'' r r' p q =
    (fill_determined s los his los' his' los'' his'' p.1 q.1, decides_unique _ r r' p.0.decided q.0.decided, index_readers_determined s slots' slots'' p.0.indexed q.0.indexed)

-- of `Ready::of`: a view shows what it was made of
abbrev pub Shows : Problem → Bor (List ℕ) → Bor (List ℕ) → Bor (List ℕ) → Bool → Ready → Type 0
Shows p los his slots fixed r = (r.pairs.problem ≡ p) × (r.pairs.los ≡ los) × (r.pairs.his ≡ his) × (r.slots ≡ slots) × (r.closed ≡ fixed)

pub ready_of_determined :
    (p : Problem) (los his slots : Bor (List ℕ)) (fixed : Bool) (r r' : Ready)
    → Shows p los his slots fixed r
    → Shows p los his slots fixed r'
    → (r.pairs.problem ≡ r'.pairs.problem) × (r.pairs.los ≡ r'.pairs.los) × (r.pairs.his ≡ r'.pairs.his) × (r.slots ≡ r'.slots) × (r.closed ≡ r'.closed)
ready_of_determined p los his slots fixed r r' c d =
    (c.0 ∙ sym d.0, c.1 ∙ sym d.1, c.2 ∙ sym d.2, c.3 ∙ sym d.3, c.4 ∙ sym d.4)

-- of a `Ready` that shows what `prepare` left
pub ready_determined :
    (s los his : List ℕ) (r r' : Ready)
    → r.pairs.problem.bytes.now ≡ s
    → r'.pairs.problem.bytes.now ≡ s
    → Readied r × Fills s los his r.pairs.los.now r.pairs.his.now
    → Readied r' × Fills s los his r'.pairs.los.now r'.pairs.his.now
    → ((r.pairs.los.now ≡ r'.pairs.los.now) × (r.pairs.his.now ≡ r'.pairs.his.now)) × (r.closed ≡ r'.closed) × ((m : ℕ) (l l' : List ℕ) → m < (problem s).nodes → Chain r.slots.now (get_or r.slots.now (4 * m) 0) l → Chain r'.slots.now (get_or r'.slots.now (4 * m) 0) l' → l ≡ l')
ready_determined s los his r r' e e' p q = prepare_determined s los his _ _ _ _ _ _ _ _ (rw e at p.0, p.1) (rw e' at q.0, q.1)

-- of `Answer::from`
pub answer_from_determined : (why : Refusal) (r s : Answer) → r ≡ refused why → s ≡ refused why → r ≡ s
answer_from_determined why r s e f = e ∙ sym f

-- of the codes of an answer
pub verdict_code_determined : (o : Outcome) (r r' : ℕ) → r ≡ verdict_code o → r' ≡ verdict_code o → r ≡ r'
verdict_code_determined o r r' e e' = e ∙ sym e'

pub refusal_code_determined : (why : Refusal) (r r' : ℕ) → r ≡ refusal_code why.number why.place → r' ≡ refusal_code why.number why.place → r ≡ r'
refusal_code_determined why r r' e e' = e ∙ sym e'

pub outcome_code_determined : (o : Outcome) (r r' : ℕ) → r ≡ outcome_code o → r' ≡ outcome_code o → r ≡ r'
outcome_code_determined o r r' e e' = e ∙ sym e'
