-- Laws of the gathering: one start more.
use Rattle.std.specs.Prelude.{◌≡◌, refl, List, [], ◌∷◌, ◌++◌, ℕ, ◌+◌, ◌*◌, ◌≤◌, ◌<◌, length, get_or}
use Rattle.std.proofs.Common.{sym, ap, ◌∙◌, add-one, arith, length-append}
use Rattle.std.proofs.Math.Decide.{dec_lt}
use Rattle.std.proofs.Math.ListN.{get_or-append}
use Rattle.std.proofs.Math.Seq.{get_or-append_seam}
use Rattle.problem.specs.Layout.{node_count}
use Rattle.search.specs.Answers.{answer_words}
use Rattle.batches.specs.Batch.{places}
use Rattle.batches.specs.laws.Parts.{laid, part_length, part_inside, laid_length, laid_here, laid_below, laid_beyond}
use Rattle.frames.specs.declared.gathering.Tally.{Tally}
use Rattle.frames.specs.Names.{most}
use Rattle.frames.specs.Bench.{Modelled, Agrees, Gathers, Gathers.none, Gathers.passed, Gathers.keeps, Gathers.repeats, Gathers.unkept, Bench}
use Rattle.frames.specs.inner.Bench.{AgreesIn, Taking, Taken, Taken.repeated, Taken.left_out, Taken.held as stored, StartThere, StartTaken, StartTaken.passed_over, StartTaken.model, Gatherable, Lent}

-- k starts were taken: what is kept, and how much was counted
pub record Going (s names values answers kept : List ℕ) (k : ℕ) (kept' : List ℕ) (t : Tally) : Type 0 where
  pub bench : Bench s k names values answers kept kept' t.kept t.repeats t.unkept
  pub long : length kept' ≡ length kept
  pub held : t.kept ≤ most
  pub few : t.kept + t.repeats + t.unkept ≤ k

pub going_none : (s names values answers kept : List ℕ) → Going s names values answers kept 0 kept (record { kept = 0; repeats = 0; unkept = 0 })
going_none s names values answers kept =
    record {
      bench = record { list = []; gathers = none; count = refl; solutions = λ j l. absurd (omega arith); beyond = refl };
      long = refl;
      held = omega arith;
      few = omega arith;
    }

module _ {s : List ℕ} {starts : ℕ} {names values answers kept : List ℕ} (few : starts ≤ 256) (there : starts * node_count s ≤ length values)
    (lent : Lent s names kept) {k : ℕ} {now : List ℕ} {t : Tally} (g : Going s names values answers kept k now t) (l : k < starts) where
  abbrev N : ℕ
  N = node_count s

  long : length (places s k values) ≡ N
  long = part_length N k values (part_inside N values l there)

  -- start k's solution, and the places to keep in
  pub model_taking : Taking names (places s k values) now t
  model_taking =
      record {
        named = rw long lent.named;
        room = rw long (omega (arith, lent.room, g.long));
        held = g.held;
        few_repeats = omega (arith, g.few, few);
        few_unkept = omega (arith, g.few, few);
      }

  -- a kept solution agrees: in the places, or in the list of starts
  to_list : AgreesIn names now t.kept (places s k values) → Agrees s names values g.bench.list (places s k values)
  to_list a =
      let b : a.at < length g.bench.list = omega (arith, a.at_lt, g.bench.count) in
      record { at = a.at; at_lt = b; alike = rw (long, g.bench.solutions a.at b) at a.alike }

  from_list : Agrees s names values g.bench.list (places s k values) → AgreesIn names now t.kept (places s k values)
  from_list a =
      record {
        at = a.at;
        at_lt = omega (arith, a.at_lt, g.bench.count);
        alike = rw (long, g.bench.solutions a.at a.at_lt) a.alike;
      }

  -- the places where the next one is kept
  keep_there : t.kept < most → t.kept * N + N ≤ length now
  keep_there h = part_inside N now h (omega (arith, lent.room, g.long))

  module _ (m : Modelled answers k) (x : AgreesIn names now t.kept (places s k values) → ⊥) (h : t.kept < most) where
    abbrev list : List ℕ
    list = g.bench.list ++ (k ∷ [])

    abbrev stored_at : List ℕ
    stored_at = laid N t.kept now (places s k values)

    longer : length list ≡ t.kept + 1
    longer = length-append g.bench.list (k ∷ []) ∙ omega (arith, g.bench.count)

    solution_at : (j : ℕ) → j < length list → places s j stored_at ≡ places s (get_or list j 0) values
    solution_at j b =
        elim (dec_lt j t.kept) [
          | yes c ↦
              laid_below N t.kept now (places s k values) (keep_there h) long j c
              ∙ g.bench.solutions j (omega (arith, g.bench.count))
              ∙ sym (ap (λ (n : ℕ). places s n values) (get_or-append g.bench.list (k ∷ []) 0 j (omega (arith, g.bench.count))))
          | no c ↦
              let e : j ≡ length g.bench.list = omega (arith, longer, g.bench.count) in
              let e' : j ≡ t.kept = omega (arith, e, g.bench.count) in
              ap (λ (i : ℕ). places s i (laid N t.kept now (places s k values))) e'
              ∙ laid_here N t.kept now (places s k values) (keep_there h) long
              ∙ sym (ap (λ (i : ℕ). places s (get_or (g.bench.list ++ (k ∷ [])) i 0) values) e
              ∙ ap (λ (n : ℕ). places s n values) (get_or-append_seam g.bench.list k [] 0))
        ]

    going_kept : Going s names values answers kept (k + 1) stored_at (record { kept = t.kept + 1; repeats = t.repeats; unkept = t.unkept })
    going_kept =
        record {
          bench =
              record {
                list = list;
                gathers = rw (add-one k) (keeps g.bench.gathers m (λ a. x (from_list a)) (omega (arith, g.bench.count)));
                count = sym longer;
                solutions = solution_at;
                beyond = rw longer (laid_beyond N t.kept kept now (places s k values) (keep_there h) long (rw g.bench.count g.bench.beyond));
              };
          long = laid_length N t.kept now (places s k values) (keep_there h) long ∙ g.long;
          held = omega arith;
          few = omega (arith, g.few);
        }

  -- as before but for the counts
  going_counted :
      (t' : Tally)
      → t'.kept ≡ t.kept
      → t'.kept + t'.repeats + t'.unkept ≤ k + 1
      → Gathers s names values answers (k + 1) g.bench.list t'.repeats t'.unkept
      → Going s names values answers kept (k + 1) now t'
  going_counted t' e f w =
      record {
        bench =
            record {
              list = g.bench.list;
              gathers = w;
              count = e ∙ g.bench.count;
              solutions = g.bench.solutions;
              beyond = g.bench.beyond;
            };
        long = g.long;
        held = omega (arith, g.held);
        few = f;
      }

  pub going_passed : (Modelled answers k → ⊥) → Going s names values answers kept (k + 1) now t
  going_passed x = going_counted t refl (omega (arith, g.few)) (rw (add-one k) (passed g.bench.gathers x))

  pub going_model :
      Modelled answers k
      → {now' : List ℕ} {t' : Tally}
      → Taken names (places s k values) now t now' t'
      → Going s names values answers kept (k + 1) now' t'
  going_model m (repeated a) = going_counted _ refl (omega (arith, g.few)) (rw (add-one k) (repeats g.bench.gathers m (to_list a)))
  going_model m (left_out x h) =
      going_counted _ refl (omega (arith, g.few))
      (rw (add-one k) (unkept g.bench.gathers m (λ a. x (from_list a)) (omega (arith, g.bench.count))))
  going_model m (stored x h) = rw long (going_kept m x h)

module _ {s : List ℕ} {starts : ℕ} {names values answers kept : List ℕ} (ready : Gatherable s starts values answers names kept)
    {k : ℕ} {now : List ℕ} {t : Tally} (g : Going s names values answers kept k now t) (l : k < starts) where
  pub start_there : StartThere (node_count s) k values answers names now t
  start_there =
      record {
        values_there = part_inside (node_count s) values l ready.values_there;
        answers_there = part_inside answer_words answers l ready.answers_there;
        named = ready.named;
        room = omega (arith, ready.room, g.long);
        held = g.held;
        few_repeats = omega (arith, g.few, ready.few);
        few_unkept = omega (arith, g.few, ready.few);
      }

  lent_of : Lent s names kept
  lent_of = record { named = ready.named; room = ready.room }

  pub going_more :
      {now' : List ℕ} {t' : Tally}
      → StartTaken (node_count s) k values answers names now t now' t'
      → Going s names values answers kept (k + 1) now' t'
  going_more (passed_over x) = going_passed ready.few ready.values_there lent_of g l x
  going_more (model m w) = going_model ready.few ready.values_there lent_of g l m w

-- all starts were taken
pub going_all :
    {s names values answers kept : List ℕ} {k starts : ℕ} {now : List ℕ} {t : Tally}
    → Going s names values answers kept k now t
    → k ≤ starts
    → starts ≤ k
    → Bench s starts names values answers kept now t.kept t.repeats t.unkept
going_all {k = k} {starts = starts} g a b = let e : k ≡ starts = omega arith in rw e at g.bench
