-- What is promised of the bench: kept, repeats and unkept sum to the runs with verdict model; kept solutions are models that differ
-- pairwise on the named variables, in order of arrival; every model agrees with a kept one, unless 64 are kept; and a start that is
-- refused is passed over.
use Rattle.std.specs.Prelude.{◌≡◌, refl, ◌⊎◌, ◌↔◌, List, [], ◌∷◌, ◌++◌, ℕ, suc, ◌+◌, ◌*◌, ◌≤◌, ◌<◌, length, get_or, drop}
use Rattle.std.proofs.Common.{sym, ap, ◌∙◌, inl, inr, lt-suc_self, not-suc-le-zero, arith, length-append, get_or-take, get_or-drop}
use Rattle.std.proofs.Math.Decide.{ℕ_discrete}
use Rattle.std.proofs.Math.ListN.{get_or-append}
use Rattle.std.proofs.Math.Seq.{get_or-append_seam}
use Rattle.problem.specs.declared.Refusal.{Refusal}
use Rattle.nodes.specs.Problem.{problem}
use Rattle.nodes.specs.Values.{Evaluated, NodesAgree}
use Rattle.evaluation.specs.Lists.{Lists, Lists.done, Lists.keep, Lists.skip}
use Rattle.search.specs.declared.Verdict.{Verdict}
use Rattle.search.specs.declared.Outcome.{Outcome}
use Rattle.search.specs.declared.Answer.{Answer}
use Rattle.search.specs.Answers.{said, verdict_number, verdict_code, answer_words}
use Rattle.moves.specs.Moves.{AllOne}
use Rattle.search.specs.Call.{Called}
use Rattle.batches.specs.Batch.{places, stretch, Start, Batch}
use Rattle.search.specs.promises.Demands.{clash, demand_2}
use Rattle.batches.specs.promises.Batch.{starts_of}
use Rattle.search.specs.promises.Determined.{called_unique}
use Rattle.frames.specs.Names.{most}
use Rattle.frames.specs.Bench.{Alike, Modelled, Agrees, Gathers, Gathers.none, Gathers.passed, Gathers.keeps, Gathers.repeats, Gathers.unkept, Bench}
use Rattle.problem.specs.Refusals.{Accepted}

-- ---- counts

-- "Kept, repeats and unkept sum to the runs with verdict model": ms lists those runs
pub counts_sum :
    {s names values answers : List ℕ} {k r u : ℕ} {l ms : List ℕ}
    → Gathers s names values answers k l r u
    → Lists (Modelled answers) k ms
    → length l + r + u ≡ length ms
counts_sum none done = refl
counts_sum (passed g x) (keep q m) = absurd (x m)
counts_sum (passed g x) (skip q y) = counts_sum g q
counts_sum (keeps {k} {l = l} g m x h) (keep {l = ms} q m') =
    omega (arith, length-append l (k ∷ []), length-append ms (k ∷ []), counts_sum g q)
counts_sum (keeps g m x h) (skip q y) = absurd (y m)
counts_sum (repeats {k} g m a) (keep {l = ms} q m') = omega (arith, length-append ms (k ∷ []), counts_sum g q)
counts_sum (repeats g m a) (skip q y) = absurd (y m)
counts_sum (unkept {k} g m x h) (keep {l = ms} q m') = omega (arith, length-append ms (k ∷ []), counts_sum g q)
counts_sum (unkept g m x h) (skip q y) = absurd (y m)

pub kept_sum :
    {s : List ℕ} {starts : ℕ} {names values answers kept kept' : List ℕ} {m r u : ℕ} {ms : List ℕ}
    → Bench s starts names values answers kept kept' m r u
    → Lists (Modelled answers) starts ms
    → m + r + u ≡ length ms
kept_sum b q = omega (arith, b.count, counts_sum b.gathers q)

-- ---- the starts that are kept

-- a start that is kept: it is one of the starts, and its verdict is model
pub record Kept (answers : List ℕ) (n k : ℕ) : Type 0 where
  pub start_lt : k < n
  pub is_a_model : Modelled answers k

kept_later : {answers : List ℕ} {n k : ℕ} → Kept answers n k → Kept answers (suc n) k
kept_later q = record { start_lt = omega (arith, q.start_lt); is_a_model = q.is_a_model }

-- of two kept starts: one comes first, and they do not agree on all named variables
pub record Apart (s names values : List ℕ) (k k' : ℕ) : Type 0 where
  pub arrives : k < k'
  pub differ : Alike names (places s k values) (places s k' values) → ⊥

agrees_later : {s names values l vs : List ℕ} (n : ℕ) → Agrees s names values l vs → Agrees s names values (l ++ (n ∷ [])) vs
agrees_later {l = l} n a =
    record {
      at = a.at;
      at_lt = omega (arith, a.at_lt, length-append l (n ∷ []));
      alike = rw (get_or-append l (n ∷ []) 0 a.at a.at_lt) a.alike;
    }

module _ {s names values answers : List ℕ} where
  pub kept_starts :
      {n r u : ℕ} {l : List ℕ} → Gathers s names values answers n l r u → (j : ℕ) → j < length l → Kept answers n (get_or l j 0)
  kept_starts none j h = absurd (not-suc-le-zero h)
  kept_starts (passed g x) j h = kept_later (kept_starts g j h)
  kept_starts (keeps {k = n} {l = l} g m x q) j h =
      elim (ℕ_discrete j (length l)) [
        | yes e ↦ rw (e, get_or-append_seam l n [] 0) (record { start_lt = lt-suc_self n; is_a_model = m })
        | no y ↦
            let b : j < length l = omega (arith, length-append l (n ∷ [])) in
            rw (get_or-append l (n ∷ []) 0 j b) (kept_later (kept_starts g j b))
      ]
  kept_starts (repeats g m a) j h = kept_later (kept_starts g j h)
  kept_starts (unkept g m x q) j h = kept_later (kept_starts g j h)

  pub kept_apart :
      {n r u : ℕ} {l : List ℕ}
      → Gathers s names values answers n l r u
      → (i j : ℕ)
      → i < j
      → j < length l
      → Apart s names values (get_or l i 0) (get_or l j 0)
  kept_apart none i j h b = absurd (not-suc-le-zero b)
  kept_apart (passed g x) i j h b = kept_apart g i j h b
  kept_apart (keeps {k = n} {l = l} g m x q) i j h b =
      let longer = length-append l (n ∷ []) in
      let first : i < length l = omega (arith, longer) in
      elim (ℕ_discrete j (length l)) [
        | yes e ↦
            rw (e, get_or-append_seam l n [] 0, get_or-append l (n ∷ []) 0 i first)
            (record {
              arrives = (kept_starts g i first).start_lt;
              differ = λ a. x (record { at = i; at_lt = first; alike = a });
            })
        | no y ↦
            let last : j < length l = omega (arith, longer) in
            rw (get_or-append l (n ∷ []) 0 i first, get_or-append l (n ∷ []) 0 j last) (kept_apart g i j h last)
      ]
  kept_apart (repeats g m a) i j h b = kept_apart g i j h b
  kept_apart (unkept g m x q) i j h b = kept_apart g i j h b

  -- "up to 64 solutions"
  pub at_most : {n r u : ℕ} {l : List ℕ} → Gathers s names values answers n l r u → length l ≤ most
  at_most none = omega arith
  at_most (passed g x) = at_most g
  at_most (keeps {k = n} {l = l} g m x q) = omega (arith, length-append l (n ∷ []))
  at_most (repeats g m a) = at_most g
  at_most (unkept g m x q) = at_most g

  -- what is kept is what the rule keeps: every model agrees with a kept one, perhaps itself, unless all room is taken
  pub every_model :
      {n r u : ℕ} {l : List ℕ}
      → Gathers s names values answers n l r u
      → (k : ℕ)
      → k < n
      → Modelled answers k
      → Agrees s names values l (places s k values) ⊎ (length l ≡ most)
  every_model none k h m = absurd (not-suc-le-zero h)
  every_model (passed {k = n} g x) k h m =
      elim (ℕ_discrete k n) [ yes e ↦ absurd (x (rw e at m)) | no y ↦ every_model g k (omega arith) m ]
  every_model (keeps {k = n} {l = l} g m' x q) k h m =
      elim (ℕ_discrete k n) [
        | yes e ↦
            inl (record {
              at = length l;
              at_lt = omega (arith, length-append l (n ∷ []));
              alike = rw (e, get_or-append_seam l n [] 0) (λ i b. refl);
            })
        | no y ↦ later (every_model g k (omega arith) m)
      ]
    where
      later : Agrees s names values l (places s k values) ⊎ (length l ≡ most) → Agrees s names values (l ++ (n ∷ [])) (places s k values) ⊎ (length (l ++ (n ∷ [])) ≡ most)
      later (inl a) = inl (agrees_later n a)
      later (inr e) = absurd (omega arith)
  every_model (repeats {k = n} g m' a) k h m =
      elim (ℕ_discrete k n) [ yes e ↦ inl (rw e a) | no y ↦ every_model g k (omega arith) m ]
  every_model (unkept {k = n} {l = l} g m' x q) k h m =
      elim (ℕ_discrete k n) [ yes e ↦ inr (omega (arith, at_most g)) | no y ↦ every_model g k (omega arith) m ]

-- ---- what the words of an answer say

is_a_model : (v : Verdict) → verdict_number v ≡ 0 → v ≡ Verdict.Model
is_a_model Verdict.Model e = refl
is_a_model Verdict.Spent e = absurd (omega arith)
is_a_model Verdict.Ended e = absurd (omega arith)
is_a_model Verdict.Closed e = absurd (omega arith)

says_model : (o : Outcome) → verdict_code o ≡ 0 → o ≡ Outcome.Settled Verdict.Model
says_model (Outcome.Settled v) e = ap Outcome.Settled (is_a_model v e)
says_model (Outcome.Refused r) e = absurd (omega arith)

module _ {s : List ℕ} {starts : ℕ} {values tape lengths budgets answers values' answers' : List ℕ}
    (b : Batch s starts values tape lengths budgets answers values' answers' Accepted) (k : ℕ) (h : k < starts) where
  this : Start s values tape lengths budgets values' answers' k
  this = (starts_of b).start k h

  verdict_word : get_or answers' (k * answer_words + 1) 0 ≡ verdict_code this.answer.outcome
  verdict_word =
      sym (get_or-take answer_words (drop (k * answer_words) answers') 1 0 (omega arith) ∙ get_or-drop (k * answer_words) answers' 1 0)
      ∙ ap (λ (l : List ℕ). get_or l 1 0) this.is_told

  -- a start counts as a model exactly if `run` on it alone says so
  pub modelled_exactly :
      {out : List ℕ} {a : Answer}
      → Called s (places s k values) (stretch tape lengths k) (get_or budgets k 0) out a
      → Modelled answers' k ↔ (a.outcome ≡ Outcome.Settled Verdict.Model)
  modelled_exactly c =
      let e = ap (λ (x : Answer). x.outcome) (called_unique this.called c).answers in (
        λ m. sym e ∙ says_model this.answer.outcome (sym verdict_word ∙ m),
        λ q. verdict_word ∙ ap verdict_code (e ∙ q),
      )

  -- "a start refused 15 is passed over"
  pub refused_passed :
      {out : List ℕ} {a : Answer}
      → Called s (places s k values) (stretch tape lengths k) (get_or budgets k 0) out a
      → (r : Refusal)
      → a.outcome ≡ Outcome.Refused r
      → Modelled answers' k
      → ⊥
  refused_passed c r e m = clash e ((modelled_exactly c).0 m)

-- ---- kept solutions

-- a solution of the problem: "every root 1, every node its value", and every value agrees with its pair
pub record Solves (s vs : List ℕ) : Type 0 where
  pub evaluated : Evaluated (problem s) vs
  pub agrees : NodesAgree (problem s) vs
  pub all_one : AllOne (problem s) vs

module _ {s : List ℕ} {starts : ℕ} {values tape lengths budgets answers values' answers' : List ℕ}
    (b : Batch s starts values tape lengths budgets answers values' answers' Accepted)
    {names kept kept' : List ℕ} {m r u : ℕ} (f : Bench s starts names values' answers' kept kept' m r u) where
  solves : (k : ℕ) → Kept answers' starts k → Solves s (places s k values')
  solves k q =
      let t = (starts_of b).start k q.start_lt in
      let e = (modelled_exactly b k q.start_lt t.called).0 q.is_a_model in
      let d = demand_2 t.called (record { verdict = Verdict.Model; is = e }) in
      record { evaluated = d.evaluated; agrees = d.agrees; all_one = d.model.0 (ap said e) }

  -- every kept solution is a model of the problem
  pub kept_solves : (j : ℕ) → j < m → Solves s (places s j kept')
  kept_solves j h =
      let l : j < length f.list = omega (arith, f.count) in
      rw (f.solutions j l) (solves (get_or f.list j 0) (kept_starts f.gathers j l))

  -- two of them differ on the named variables
  pub kept_differ : (i j : ℕ) → i < j → j < m → Alike names (places s i kept') (places s j kept') → ⊥
  kept_differ i j h l =
      let b : j < length f.list = omega (arith, f.count) in
      rw (f.solutions i (omega arith), f.solutions j b) (kept_apart f.gathers i j h b).differ
