-- The whole text has room: where 43,104 bytes or more are lent, all that is printed of an answer is put there; and what was read of
-- the files is enough.
use Rattle.std.specs.Prelude.{◌≡◌, List, ℕ, ◌≤◌, length, take}
use Rattle.std.proofs.Common.{sym, ap, ◌∙◌, arith, length-take, take_all}
use Rattle.problem.specs.Layout.{node_count}
use Rattle.problem.specs.Refusals.{checked}
use Rattle.problem.specs.laws.First.{then_left}
use Rattle.problem.specs.inner.Facts.{HeaderFacts}
use Rattle.problem.specs.laws.Facts.{accepted_facts}
use Rattle.search.specs.declared.Verdict.{Verdict}
use Rattle.search.specs.declared.Outcome.TheVariants.{Settled}
use Rattle.search.specs.declared.Answer.{Answer}
use Rattle.search.specs.Call.{Called, refuses, runs, refusals}
use Rattle.files.specs.Told.{Output, Read, Prints}
use Rattle.files.specs.inner.Told.{Told, NodesThere}
use Rattle.files.specs.Words.{file_problem, file_words}
use Rattle.files.specs.Text.{printed}
use Rattle.files.specs.laws.Laid.{laid_taken, laid_rest}
use Rattle.files.specs.laws.Text.{short_printed}
use Rattle.files.specs.laws.Enough.{read_problem, read_words, read_itself}

-- a problem with a verdict was accepted
accepted :
    {s start ws values : List ℕ} {B : ℕ} {a : Answer}
    → Called s start ws B values a
    → (v : Verdict)
    → a.outcome ≡ Settled v
    → HeaderFacts s
unfolding refusals
accepted (refuses r e) v q = let z : ◌≡◌ {A = ℕ} 0 1 = cc in absurd (omega arith)
accepted {s} (runs e w) v q = (accepted_facts s (then_left (checked s) _ e)).header

-- so all its nodes are there, at most 1,024
pub nodes_there : {s start ws values : List ℕ} {B : ℕ} {a : Answer} → Called s start ws B values a → NodesThere s a
nodes_there c = record { there = λ v q. let h = accepted c v q in omega arith }

few_nodes :
    {s start ws values : List ℕ} {B : ℕ} {a : Answer}
    → Called s start ws B values a
    → (v : Verdict)
    → a.outcome ≡ Settled v
    → node_count s ≤ 1024
few_nodes c v q = (accepted c v q).nodes

told_output :
    {P S T before after : List ℕ} {r : ℕ}
    → 43104 ≤ length before
    → Told (file_problem P) (file_words S) (file_words T) before after r
    → Output P S T before after r
told_output {P} {before = before} room t =
    let xs = printed (file_problem P) t.values t.answer in
    let short = short_printed (file_problem P) t.values t.answer (few_nodes t.called) in
    let all : length xs ≤ length before = omega (arith, short.most) in
    record {
      values = t.values;
      answer = t.answer;
      called = t.called;
      count = omega (arith, t.text.upto);
      text = laid_taken t.text ∙ take_all (length before) xs all;
      rest = laid_rest t.text all;
    }

-- what was read of the files P, S and T, and what was told of it
module _ {problem start tape before after : List ℕ} {p s t r : ℕ} (room : 43104 ≤ length before)
    (a : length problem ≡ 25098) (b : length start ≡ 8192) (c : length tape ≡ 8192)
    (told : Told (take p problem) (file_words (take s start)) (file_words (take t tape)) before after r) where
  pub told_files : {P S T : List ℕ} → Read P problem p → Read S start s → Read T tape t → Output P S T before after r
  told_files {P} {S} {T} x y z =
      told_output room (rw (read_problem a x, read_words b y, read_words c z) at told)

  pub told_prints : Prints problem p start s tape t before after r
  told_prints = record { of_files = λ P S T. told_files }

-- the text lies in its places
module _ {problem start tape before after : List ℕ} {p s t r : ℕ} (x : Prints problem p start s tape t before after r) where
  pub prints_counts : r ≡ length (take r after)
  prints_counts =
      let o = x.of_files _ _ _ (read_itself problem p) (read_itself start s) (read_itself tape t) in
      o.count ∙ ap length (sym o.text)

  pub prints_inside : r ≤ length after
  prints_inside = omega (arith, prints_counts, length-take r after)
