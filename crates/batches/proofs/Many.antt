-- What the functions of a call with many starts take from the definitions.
use mathlib.Core.Path.{◌≡◌, refl, sym, ap, ◌∙◌}
use mathlib.Core.Bool.{true, false}
use mathlib.Core.List.{List, ◌++◌}
use Prim.Native.Nat.{ℕ, ◌+◌, ◌-◌, ◌*◌, ◌/◌, ◌≤◌, ◌<◌}
use native.Mathlib.Omega.{arith}
use native.Mathlib.Decide.{dec_lt}
use lib.Dec.{ltb}
use lib.ListN.{length, get_or, take, drop}
use lib.Seq.{take_all}
use borrow.Author.Tests.{lt-ltb, le-ltb}
use Rattle.problem.specs.declared.Refusal.{Refusal}
use Rattle.problem.specs.Layout.{node_count}
use Rattle.problem.specs.Refusals.{Checked}
use Rattle.search.specs.declared.Answer.{Answer}
use Rattle.search.specs.Answers.{answer_words, told}
use Rattle.search.specs.Call.{Called}
use Rattle.batches.specs.Batch.{sum, batch_refusals, stretch, Batch, Batch.refuses}
use Rattle.batches.specs.inner.Batch.{OneMore, Made}
use Rattle.batches.specs.promises.Accepted.{Enough}
use Rattle.batches.specs.laws.Batch.{made_more}
use Rattle.batches.specs.laws.Parts.{sum_more, sum_most}
use Rattle.std.specs.Prelude.{Err as Refused}

-- ---- the sum of the lengths

-- so much is left of the tape after the first k lengths
pub record Left (tape lengths : List ℕ) (left k : ℕ) : Type 0 where
  pub inside : k ≤ length lengths
  pub is : left + sum (take k lengths) ≡ length tape

pub left_all : (tape lengths : List ℕ) → Left tape lengths (length tape) 0
unfolding sum
left_all tape lengths = record { inside = omega arith; is = omega arith }

module _ {tape lengths : List ℕ} {left k : ℕ} (l : Left tape lengths left k) where
  pub left_short : k < length lengths → left < get_or lengths k 0 → true ≡ ltb (length tape) (sum lengths)
  left_short h s = sym (lt-ltb (length tape) (sum lengths) (omega (arith, l.is, sum_more k lengths h, sum_most (k + 1) lengths)))

  pub left_more : k < length lengths → get_or lengths k 0 ≤ left → Left tape lengths (left - get_or lengths k 0) (k + 1)
  left_more h s = record { inside = omega arith; is = omega (arith, l.is, sum_more k lengths h) }

  pub left_enough : length lengths ≤ k → false ≡ ltb (length tape) (sum lengths)
  left_enough h =
      let e = ap sum (take_all k lengths h) in sym (le-ltb (length tape) (sum lengths) (omega (arith, l.is)))

-- ---- refusals of the call

pub short_same : (n starts : ℕ) → ltb (n / 6) starts ≡ ltb n (starts * answer_words)
short_same n starts =
    elim (dec_lt (n / 6) starts) [
      | yes h ↦ lt-ltb (n / 6) starts h ∙ sym (lt-ltb n (starts * answer_words) (omega arith))
      | no x ↦ le-ltb (n / 6) starts (omega arith) ∙ sym (le-ltb n (starts * answer_words) (omega arith))
    ]

-- ---- a start's places and its answer

-- the part of a list that is lent, and what comes back
abbrev lent_part : ℕ → ℕ → List ℕ → List ℕ
lent_part from to xs = take (to - from) (drop from xs)

abbrev put_back : ℕ → ℕ → List ℕ → List ℕ → List ℕ
put_back from to xs ys = take from xs ++ (ys ++ drop (to - from) (drop from xs))

across : (a w : ℕ) → a + w - a ≡ w
across a w = omega arith

pub one_more :
    (s values ws : List ℕ) (B : ℕ) (answers : List ℕ) (k : ℕ) {n : ℕ} {out six : List ℕ} {a : Answer}
    → n ≡ node_count s
    → Called s (lent_part (k * n) (k * n + n) values) ws B out a
    → six ≡ told a
    → OneMore s values ws B answers k (put_back (k * n) (k * n + n) values out) (put_back (k * 6) (k * 6 + 6) answers six)
one_more s values ws B answers k {n} {out} {six} {a} e c t =
    rw (across (k * n) n, across (k * 6) 6, e, t)
    (record { out = out; answer = a; called = rw (across (k * n) n, e) at c; values_are = refl; answers_are = refl })

-- ---- all starts

module _ {s : List ℕ} {starts : ℕ} {values tape lengths budgets answers : List ℕ} (enough : Enough s starts values tape lengths budgets answers)
    {k from : ℕ} {vs ans : List ℕ} (m : Made s values tape lengths budgets answers k from vs ans) where
  stretch_is : lent_part from (from + get_or lengths k 0) tape ≡ stretch tape lengths k
  stretch_is = rw (across from (get_or lengths k 0), m.from_is)

  pub made_next :
      k < starts
      → {vs' ans' : List ℕ}
      → OneMore s vs (lent_part from (from + get_or lengths k 0) tape) (get_or budgets k 0) ans k vs' ans'
      → Made s values tape lengths budgets answers (k + 1) (from + get_or lengths k 0) vs' ans'
  made_next l o = made_more enough m l (rw stretch_is at o) refl

-- a call that is refused: what was found is what is answered, and nothing is changed
pub refused_call :
    {s : List ℕ} {starts : ℕ} {values tape lengths budgets answers : List ℕ} {x : Checked} {r : Refusal}
    → x ≡ batch_refusals s starts values tape lengths budgets answers
    → x ≡ Refused r
    → Batch s starts values tape lengths budgets answers values answers x
refused_call {r = r} e h = rw h (refuses r (sym e ∙ h))
