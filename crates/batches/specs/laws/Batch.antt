-- Laws of a call with many starts: how the starts follow one another, and that each stays on its own places.
use Rattle.std.specs.Prelude.{◌≡◌, List, ℕ, ◌+◌, ◌≤◌, ◌<◌, length, get_or}
use Rattle.std.proofs.Math.Path.{refl}
use Rattle.std.proofs.Common.{◌∙◌, arith}
use Rattle.std.proofs.Math.Decide.{dec_lt}
use Rattle.problem.specs.Layout.{node_count}
use Rattle.search.specs.declared.Answer.{Answer}
use Rattle.search.specs.Answers.{answer_words, told}
use Rattle.nodes.specs.Problem.{problem}
use Rattle.nodes.specs.laws.Good.{good_of}
use Rattle.search.specs.Call.{Called, Called.refuses, Called.runs}
use Rattle.batches.specs.Batch.{sum, places, stretch, Start}
use Rattle.search.specs.inner.Run.{Lent}
use Rattle.batches.specs.inner.Batch.{Own, OneMore, Made}
use Rattle.search.specs.promises.Accepted.{accepted_start}
use Rattle.batches.specs.promises.Accepted.{Enough}
use Rattle.search.specs.laws.Runs.{whole_kept}
use Rattle.batches.specs.laws.Parts.{part_length, part_inside, laid_length, laid_here, laid_below, laid_beyond, part_from, sum_more, sum_most}

-- a call keeps the number of places
pub called_long : {s start ws : List ℕ} {B : ℕ} {out : List ℕ} {a : Answer} → Called s start ws B out a → length out ≡ length start
unfolding problem
called_long (refuses r e) = refl
called_long {s} {start} (runs e w) =
    let p = accepted_start s start e in (whole_kept (problem s) (good_of s p.problem_good) w p.room p.agrees).long

-- ---- starts in turn

-- a start's places are lent to it
pub lent_part_lem : {s : List ℕ} {k : ℕ} {values answers : List ℕ} → Own s k values answers → Lent s (places s k values)
lent_part_lem {s} {k} {values} o = record { accepted = o.accepted; places = omega (arith, part_length (node_count s) k values o.values_there) }

pub lent_start :
    {s : List ℕ} {starts : ℕ} {values tape lengths budgets answers : List ℕ} {k : ℕ}
    → Enough s starts values tape lengths budgets answers
    → k < starts
    → Lent s (places s k values)
lent_start {s} {values = values} {k = k} e l =
    record { accepted = e.problem_good; places = omega (arith, part_length (node_count s) k values (part_inside (node_count s) values l e.room)) }

module _ {s : List ℕ} {starts : ℕ} {values tape lengths budgets answers : List ℕ} (enough : Enough s starts values tape lengths budgets answers) where
  pub made_none : Made s values tape lengths budgets answers 0 0 values answers
  unfolding sum
  made_none =
      record {
        from_is = refl;
        values_long = refl;
        answers_long = refl;
        starts = record { start = λ k l. absurd (omega arith); values_beyond = refl; answers_beyond = refl };
      }

  module _ {k from : ℕ} {vs ans : List ℕ} (m : Made s values tape lengths budgets answers k from vs ans) (l : k < starts) where
    -- the next start's places, answer and stretch are there
    pub own : Own s k vs ans
    own =
        record {
          accepted = enough.problem_good;
          values_there = omega (arith, part_inside (node_count s) values l enough.room, m.values_long);
          answers_there = omega (arith, part_inside answer_words answers l enough.answer_room, m.answers_long);
        }

    pub stretch_there : from + get_or lengths k 0 ≤ length tape
    stretch_there =
        omega (arith, m.from_is, sum_more k lengths (omega (arith, enough.a_length)), sum_most (k + 1) lengths, enough.words)

    module _ {vs' ans' : List ℕ} (o : OneMore s vs (stretch tape lengths k) (get_or budgets k 0) ans k vs' ans') where
      out_long : length o.out ≡ node_count s
      out_long = called_long o.called ∙ part_length (node_count s) k vs own.values_there

      -- the start that was made
      this_start : Start s values tape lengths budgets vs' ans' k
      this_start =
          record {
            answer = o.answer;
            called =
                rw (o.values_are, laid_here (node_count s) k vs o.out own.values_there out_long)
                (rw (part_from (node_count s) k vs values m.starts.values_beyond) at o.called);
            is_told = rw o.answers_are (laid_here answer_words k ans (told o.answer) own.answers_there refl);
          }

      -- one before it
      other_start : (j : ℕ) → j < k → Start s values tape lengths budgets vs' ans' j
      other_start j h =
          let t = m.starts.start j h in
          record {
            answer = t.answer;
            called = rw (o.values_are, laid_below (node_count s) k vs o.out own.values_there out_long j h) t.called;
            is_told = rw o.answers_are (laid_below answer_words k ans (told o.answer) own.answers_there refl j h ∙ t.is_told);
          }

      pub made_more : {to : ℕ} → to ≡ from + get_or lengths k 0 → Made s values tape lengths budgets answers (k + 1) to vs' ans'
      made_more e = record {
        from_is = e ∙ omega (arith, m.from_is, sum_more k lengths (omega (arith, enough.a_length)));
        values_long = rw o.values_are (laid_length (node_count s) k vs o.out own.values_there out_long ∙ m.values_long);
        answers_long = rw o.answers_are (laid_length answer_words k ans (told o.answer) own.answers_there refl ∙ m.answers_long);
        starts = record {
          start = λ j h. elim (dec_lt j k) [ yes b ↦ other_start j b | no x ↦ let e : j ≡ k = omega arith in rw e this_start ];
          values_beyond = rw o.values_are (laid_beyond (node_count s) k values vs o.out own.values_there out_long m.starts.values_beyond);
          answers_beyond = rw o.answers_are (laid_beyond answer_words k answers ans (told o.answer) own.answers_there refl m.starts.answers_beyond);
        };
      }
