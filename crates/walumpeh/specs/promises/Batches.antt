-- The contract of `wal_batch` determines its number and every lent place, and 255 is told exactly where the answers are too short.
use Rattle.std.specs.Prelude.{◌≡◌, Bool, ◌↔◌, List, ℕ, ◌*◌, ◌≤◌, ◌<◌, leb, length}
use Rattle.std.proofs.Math.Path.{refl}
use Rattle.std.proofs.Common.{ap, ◌∙◌, ⊎_elim, arith}
use Rattle.std.proofs.Math.Decide.{dec_lt}
use borrow.Author.Tests.{leb-true, lt-ltb}
use Rattle.problem.specs.Refusals.{Checked, refusal, first_of, ◌then◌, number_of, checked}
use Rattle.problem.specs.laws.First.{then_each, then_refused, then_accepted, first_of_each}
use Rattle.problem.specs.promises.Numbers.{numbered}
use Rattle.search.specs.Answers.{answer_words}
use Rattle.batches.specs.Batch.{answers_fault, lists_fault, tape_fault, room_fault, batch_refusals}
use Rattle.batches.specs.promises.Accepted.{answers_right}
use Rattle.batches.specs.promises.Batch.{batch_found, batch_determined}
use Rattle.walumpeh.specs.Codes.{checked_code, too_short}
use Rattle.walumpeh.specs.Batches.{BatchCode, BatchCode.told}

pub wal_batch_determined :
    (s : List ℕ) (starts : ℕ) (values tape lengths budgets answers : List ℕ) {vs vs' qs qs' : List ℕ} {r r' : ℕ}
    → BatchCode s starts values tape lengths budgets answers vs qs r
    → BatchCode s starts values tape lengths budgets answers vs' qs' r'
    → (vs ≡ vs') × (qs ≡ qs') × (r ≡ r')
wal_batch_determined s starts values tape lengths budgets answers (told b) (told b') =
    let e = batch_determined s starts values tape lengths budgets answers b b' in (e.0, e.1, ap checked_code e.2)

-- ---- 255 is told where the answers are too short, and nowhere else: the numbers of refusals go up to 20

abbrev Few : Checked → Type 0
Few c = number_of c ≤ 20

few_checked : (s : List ℕ) → number_of (checked s) ≤ 20
few_checked s =
    ⊎_elim (λ (l : number_of (checked s) ≤ 13). omega arith)
    (⊎_elim (λ (e : number_of (checked s) ≡ 16). omega arith) (λ (e : number_of (checked s) ≡ 20). omega arith)) (numbered s).known

module _ (s : List ℕ) (starts : ℕ) (values tape lengths budgets answers : List ℕ) where
  few : ℕ → Bool
  few k = leb k 20

  few_lists : Few (lists_fault starts lengths budgets)
  unfolding lists_fault few
  few_lists = first_of_each Few 0 few _ refl (λ k t. leb-true k 20 t) (omega arith)

  few_tape : Few (tape_fault tape lengths)
  unfolding tape_fault few
  few_tape = first_of_each Few 0 few _ refl (λ k t. leb-true k 20 t) (omega arith)

  few_room : Few (room_fault s starts values)
  unfolding room_fault few
  few_room = first_of_each Few 0 few _ refl (λ k t. leb-true k 20 t) (omega arith)

  -- what follows 255
  abbrev rest : Checked
  rest = checked s then lists_fault starts lengths budgets then tape_fault tape lengths then room_fault s starts values

  few_rest : Few rest
  few_rest =
      then_each Few (checked s) (lists_fault starts lengths budgets then tape_fault tape lengths then room_fault s starts values) (few_checked s)
      (then_each Few (lists_fault starts lengths budgets) (tape_fault tape lengths then room_fault s starts values) few_lists
      (then_each Few (tape_fault tape lengths) (room_fault s starts values) few_tape few_room))

  few_numbers : starts * answer_words ≤ length answers → number_of (batch_refusals s starts values tape lengths budgets answers) ≤ 20
  unfolding batch_refusals
  few_numbers h = rw (then_accepted (answers_fault starts answers) rest ((answers_right s starts values tape lengths budgets answers).1 h)) few_rest

  short_number : length answers < starts * answer_words → batch_refusals s starts values tape lengths budgets answers ≡ refusal too_short 0
  unfolding batch_refusals answers_fault first_of
  short_number h =
      then_refused (answers_fault starts answers) rest (record { number = too_short; place = 0 }) (rw (lt-ltb (length answers) (starts * answer_words) h))

pub batch_short_told :
    {s : List ℕ} {starts : ℕ} {values tape lengths budgets answers vs qs : List ℕ} {r : ℕ}
    → BatchCode s starts values tape lengths budgets answers vs qs r
    → (r ≡ too_short) ↔ (length answers < starts * answer_words)
batch_short_told {s} {starts} {values} {tape} {lengths} {budgets} {answers} (told b) =
    let e = batch_found b in (
      λ q.
          elim (dec_lt (length answers) (starts * answer_words)) [
            | yes h ↦ h
            | no x ↦ absurd (let n = few_numbers s starts values tape lengths budgets answers (omega arith) in let n' = ap number_of e in omega arith)
          ],
      λ h. ap checked_code (e ∙ short_number s starts values tape lengths budgets answers h),
    )
