-- The whole call: what the gathering asks for is there after the starts were made, and both together are what is promised.
use Rattle.std.proofs.Common.{◌≡◌, sym, ap, ◌∙◌, List, ℕ, zero, suc, ◌+◌, ◌*◌, ◌≤◌, ◌<◌, mul-zero, zero-mul, suc-mul, lt-suc_self, arith, length, drop, length-take, length-drop}
use Rattle.std.proofs.Math.Decide.{dec_lt}
use Rattle.std.proofs.lemmas.List.Elements.{All-from_get_or}
use Rattle.std.specs.Prelude.{Ok, Err as Refused}
use Rattle.problem.specs.declared.Refusal.{Refusal}
use Rattle.problem.specs.Layout.{node_count}
use Rattle.problem.specs.Refusals.{Accepted}
use Rattle.problem.specs.laws.First.{then_accepted, then_refused}
use Rattle.search.specs.Answers.{answer_words}
use Rattle.batches.specs.Batch.{part, batch_refusals, Starts, Batch.runs}
use Rattle.batches.specs.promises.Accepted.{Enough, accepted_batch}
use Rattle.batches.specs.laws.Batch.{called_long}
use Rattle.batches.specs.laws.Parts.{part_length, part_inside}
use Rattle.frames.specs.Names.{gather_refusals}
use Rattle.frames.specs.declared.gathering.Tally.{Tally}
use Rattle.frames.specs.Bench.{Gather, Gather.refuses, Gather.gathers as gathered}
use Rattle.frames.specs.inner.Bench.{Lent, Tallied, own_refusals, gathered_of}
use Rattle.frames.specs.promises.Accepted.{accepted_gather}

-- a whole part shows that its places are there
reaches : (w k : ℕ) (xs : List ℕ) → length (part w k xs) ≡ w → k * w + w ≤ length xs
reaches w k xs e =
    elim (dec_lt 0 w) [
      | yes h ↦ omega (arith, sym (length-take w (drop (k * w) xs)) ∙ e, length-drop (k * w) xs)
      | no x ↦ let z : w ≡ 0 = omega arith in rw (z, mul-zero k) (omega arith)
    ]

module _ {s : List ℕ} {values tape lengths budgets answers values' answers' : List ℕ} where
  pub room_after :
      (starts : ℕ)
      → starts * node_count s ≤ length values
      → Starts s starts values tape lengths budgets answers values' answers'
      → (starts * node_count s ≤ length values') × (starts * answer_words ≤ length answers')
  room_after zero h t = (rw (zero-mul (node_count s)) (omega arith), omega arith)
  room_after (suc k) h t =
      let q = t.start k (lt-suc_self k) in
      let there = part_inside {n = suc k} {k = k} (node_count s) values (lt-suc_self k) h in (
        rw (suc-mul k (node_count s)) (reaches (node_count s) k values' (called_long q.called ∙ part_length (node_count s) k values there)),
        rw (suc-mul k answer_words) (reaches answer_words k answers' (ap length q.is_told)),
      )

module _ (s : List ℕ) (starts : ℕ) (values tape lengths budgets answers : List ℕ) where
  pub lent_enough : batch_refusals s starts values tape lengths budgets answers ≡ Accepted → Enough s starts values tape lengths budgets answers
  lent_enough b = accepted_batch s starts values tape lengths budgets answers b

module _ (s : List ℕ) (starts : ℕ) (values tape lengths budgets names kept answers : List ℕ) where
  -- a refusal of the search's, and one of the bench's own after it
  pub first_refused :
      {r : Refusal}
      → batch_refusals s starts values tape lengths budgets answers ≡ Refused r
      → Gather s starts values tape lengths budgets names kept answers values kept answers (gathered_of (Refused r))
  unfolding gather_refusals
  first_refused {r} b = refuses r (then_refused _ _ r b)

  module _ (b : batch_refusals s starts values tape lengths budgets answers ≡ Accepted) where
    pub own_refused :
        {r : Refusal}
        → own_refusals s names kept ≡ Refused r
        → Gather s starts values tape lengths budgets names kept answers values kept answers (gathered_of (Refused r))
    unfolding gather_refusals
    own_refused {r} o = refuses r (then_accepted _ _ b ∙ o)

    module _ (o : own_refusals s names kept ≡ Accepted) where
      all_accepted : gather_refusals s starts values tape lengths budgets names kept answers ≡ Accepted
      unfolding gather_refusals
      all_accepted = then_accepted _ _ b ∙ o

      pub lent : Lent s names kept
      lent =
          let offers = accepted_gather s starts values tape lengths budgets names kept answers all_accepted in
          record { named = All-from_get_or (λ id. id < node_count s) names 0 (λ i l. (offers.named i l).inside); room = offers.room }

      pub all_gathered :
          {values' kept' answers' : List ℕ} {t : Tally}
          → Starts s starts values tape lengths budgets answers values' answers'
          → Tallied s starts names values' answers' kept kept' t
          → Gather s starts values tape lengths budgets names kept answers values' kept' answers' (gathered_of (Ok t))
      all_gathered t g = gathered all_accepted (runs b t) g
