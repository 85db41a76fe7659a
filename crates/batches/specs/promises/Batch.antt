-- What is promised of `batch`: the contract settles the answer and every place; each start's answer and values are those of `run` on
-- it alone, whatever the other starts do; and a start is refused by 15 alone.
use Rattle.std.specs.Prelude.{Err as Refused, ◌≡◌, refl, Bool, true, false, cond, ◌&&◌, List, ℕ, ◌<◌, eqb, get_or}
use Rattle.std.proofs.Common.{sym, ap, ◌∙◌, subst}
use Rattle.problem.specs.declared.Refusal.{Refusal}
use Rattle.problem.specs.Layout.{node_count, node_at}
use Rattle.problem.specs.Refusals.{Checked, Accepted, refusal, first_of, first_below}
use Rattle.problem.specs.laws.First.{refused_not, first_below_each}
use Rattle.search.specs.declared.Outcome.{Outcome}
use Rattle.search.specs.declared.Answer.{Answer}
use Rattle.search.specs.Answers.{answer_words, told}
use Rattle.search.specs.Call.{disagrees, start_fault, Called, Called.refuses, Called.runs}
use Rattle.batches.specs.Batch.{part, batch_refusals, places, stretch, Starts, Batch, Batch.refuses as turned, Batch.runs as ran}
use Rattle.batches.specs.promises.Accepted.{Enough, accepted_batch}
use Rattle.search.specs.promises.Demands.{clash, same_outcome, demand_1}
use Rattle.search.specs.promises.Determined.{not_both, same_refusal, called_unique}
use Rattle.search.specs.inner.Run.{Lent}
use Rattle.batches.specs.laws.Batch.{lent_start}
use Rattle.search.specs.laws.Starts.{refusals_lent}
use Rattle.batches.specs.laws.Parts.{parts_same}

-- a call that is not refused makes every start, and what is lent is enough
made :
    {s : List ℕ} {starts : ℕ} {values tape lengths budgets answers values' answers' : List ℕ} {r : Checked}
    → r ≡ Accepted
    → Batch s starts values tape lengths budgets answers values' answers' r
    → Starts s starts values tape lengths budgets answers values' answers' × Enough s starts values tape lengths budgets answers
made q (turned r e) = absurd (refused_not q)
made {s} {starts} {values} {tape} {lengths} {budgets} {answers} q (ran e t) = (t, accepted_batch s starts values tape lengths budgets answers e)

module _ {s : List ℕ} {starts : ℕ} {values tape lengths budgets answers values' answers' : List ℕ}
    (b : Batch s starts values tape lengths budgets answers values' answers' Accepted) where
  pub starts_of : Starts s starts values tape lengths budgets answers values' answers'
  starts_of = (made refl b).0

  pub enough_of : Enough s starts values tape lengths budgets answers
  enough_of = (made refl b).1

-- what is answered is the first refusal of the call, or that there is none
pub batch_found :
    {s : List ℕ} {starts : ℕ} {values tape lengths budgets answers values' answers' : List ℕ} {r : Checked}
    → Batch s starts values tape lengths budgets answers values' answers' r
    → r ≡ batch_refusals s starts values tape lengths budgets answers
batch_found (turned r e) = sym e
batch_found (ran e t) = sym e

-- whatever `run` answers on the start's places, its stretch and its budget, that is the start's answer, and its places are those
-- that `run` leaves
pub start_alone :
    {s : List ℕ} {starts : ℕ} {values tape lengths budgets answers values' answers' : List ℕ}
    → Batch s starts values tape lengths budgets answers values' answers' Accepted
    → (k : ℕ)
    → k < starts
    → {out : List ℕ} {a : Answer}
    → Called s (places s k values) (stretch tape lengths k) (get_or budgets k 0) out a
    → (places s k values' ≡ out) × (part answer_words k answers' ≡ told a)
start_alone b k l c =
    let t = (starts_of b).start k l in
    let same = called_unique t.called c in (same.values, t.is_told ∙ ap told same.answers)

-- "whatever the other starts do": start k of a call and start j of another have the same values and answers afterwards, if they
-- had the same places, stretch and budget
pub others_no_bearing :
    {s : List ℕ} {starts starts₂ : ℕ} {values tape lengths budgets answers values' answers' values₂ tape₂ lengths₂ budgets₂ answers₂ values₂' answers₂' : List ℕ}
    → Batch s starts values tape lengths budgets answers values' answers' Accepted
    → Batch s starts₂ values₂ tape₂ lengths₂ budgets₂ answers₂ values₂' answers₂' Accepted
    → (k j : ℕ)
    → k < starts
    → j < starts₂
    → places s k values ≡ places s j values₂
    → stretch tape lengths k ≡ stretch tape₂ lengths₂ j
    → get_or budgets k 0 ≡ get_or budgets₂ j 0
    → (places s k values' ≡ places s j values₂') × (part answer_words k answers' ≡ part answer_words j answers₂')
others_no_bearing {s} {values₂' = values₂'} b b₂ k j l l₂ v w h =
    let t = (starts_of b₂).start j l₂ in
    let same = start_alone b k l {out = places s j values₂'} {a = t.answer} (rw (v, w, h) t.called) in (same.0, same.1 ∙ sym t.is_told)

-- ---- a start that is refused

-- a refusal by 15 of a node below n
abbrev Fifteen : ℕ → Checked → Type 0
Fifteen n c = (r : Refusal) → c ≡ Refused r → (r.number ≡ 15) × (r.place < n)

fifteen_line : (n i : ℕ) → i < n → (t : Bool) → Fifteen n (cond t (refusal 15 i) Accepted)
fifteen_line n i l true r e =
    let q : record { number = 15; place = i } ≡ r = same_refusal refl e in (sym (ap (λ (x : Refusal). x.number) q), subst (λ (x : Refusal). x.place < n) q l)
fifteen_line n i l false r e = absurd (refused_not (sym e))

fifteen_first : (s vs : List ℕ) → Fifteen (node_count s) (first_below (start_fault s vs) (node_count s))
unfolding start_fault first_of
fifteen_first s vs =
    first_below_each (start_fault s vs) (Fifteen (node_count s)) (λ r e. absurd (refused_not (sym e))) (node_count s)
    (λ i l. fifteen_line (node_count s) i l (eqb (node_at s i).kind 0 && disagrees (node_at s i).lo (node_at s i).hi (get_or vs i 0)))

-- "then each start's 15 in its own answer": a start that is refused is refused by 15 at a node, and its places are as they were
pub start_refused :
    {s : List ℕ} {starts : ℕ} {values tape lengths budgets answers values' answers' : List ℕ}
    → Batch s starts values tape lengths budgets answers values' answers' Accepted
    → (k : ℕ)
    → k < starts
    → {out : List ℕ} {a : Answer}
    → Called s (places s k values) (stretch tape lengths k) (get_or budgets k 0) out a
    → (r : Refusal)
    → a.outcome ≡ Outcome.Refused r
    → (r.number ≡ 15) × (r.place < node_count s) × (places s k values' ≡ places s k values)
start_refused {s} {values = values} b k l c r q = by_refusals c (start_alone b k l c).0 q
  where
    lent : Lent s (places s k values)
    lent = lent_start (enough_of b) l

    by_refusals :
        {out : List ℕ} {a : Answer} {ws : List ℕ} {B : ℕ} {vs : List ℕ}
        → Called s (places s k values) ws B out a
        → vs ≡ out
        → a.outcome ≡ Outcome.Refused r
        → (r.number ≡ 15) × (r.place < node_count s) × (vs ≡ places s k values)
    by_refusals (refuses r' e') e q =
        let same : r' ≡ r = same_outcome q in
        let f = rw same at (fifteen_first s (places s k values) r' (sym (refusals_lent lent) ∙ e')) in (f.0, f.1, e)
    by_refusals (runs e' w) e q = absurd (clash q ((demand_1 (runs e' w)).none_otherwise.1 e').is)

-- ---- the contracts settle every result and every lent place

-- of `run_starts`
pub run_starts_determined :
    (s : List ℕ) (starts : ℕ) (values tape lengths budgets answers : List ℕ) {values' answers' values'' answers'' : List ℕ}
    → Starts s starts values tape lengths budgets answers values' answers'
    → Starts s starts values tape lengths budgets answers values'' answers''
    → (values' ≡ values'') × (answers' ≡ answers'')
run_starts_determined s starts values tape lengths budgets answers {values'} {answers'} {values''} {answers''} t t' = (
  parts_same (node_count s) values' values'' starts (λ k l. (called_unique (t.start k l).called (t'.start k l).called).values) (t.values_beyond ∙ sym t'.values_beyond),
  parts_same answer_words answers' answers'' starts
      (λ k l. (t.start k l).is_told ∙ ap told (called_unique (t.start k l).called (t'.start k l).called).answers ∙ sym (t'.start k l).is_told)
      (t.answers_beyond ∙ sym t'.answers_beyond),
)

-- of `batch`
pub batch_determined :
    (s : List ℕ) (starts : ℕ) (values tape lengths budgets answers : List ℕ) {values' answers' values'' answers'' : List ℕ} {r r' : Checked}
    → Batch s starts values tape lengths budgets answers values' answers' r
    → Batch s starts values tape lengths budgets answers values'' answers'' r'
    → (values' ≡ values'') × (answers' ≡ answers'') × (r ≡ r')
batch_determined s starts values tape lengths budgets answers (turned r e) (turned r' e') = (refl, refl, ap Refused (same_refusal e e'))
batch_determined s starts values tape lengths budgets answers (turned r e) (ran e' t') = absurd (not_both e' e)
batch_determined s starts values tape lengths budgets answers (ran e t) (turned r' e') = absurd (not_both e e')
batch_determined s starts values tape lengths budgets answers (ran e t) (ran e' t') =
    let same = run_starts_determined s starts values tape lengths budgets answers t t' in (same.0, same.1, refl)

-- of `batch_refusal`
pub batch_refusal_determined :
    (s : List ℕ) (starts : ℕ) (values tape lengths budgets answers : List ℕ) (r r' : Checked)
    → r ≡ batch_refusals s starts values tape lengths budgets answers
    → r' ≡ batch_refusals s starts values tape lengths budgets answers
    → r ≡ r'
batch_refusal_determined s starts values tape lengths budgets answers r r' e e' = e ∙ sym e'
