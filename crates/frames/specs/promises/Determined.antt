-- The contract of `gather` determines its answer and every lent place: any two results that it allows are equal.
use Rattle.std.specs.Prelude.{◌≡◌, refl, List, [], ◌∷◌, ◌++◌, ℕ, ◌+◌, length, get_or}
use Rattle.std.proofs.Common.{sym, ap, ◌∙◌, subst, arith}
use Rattle.problem.specs.Layout.{node_count}
use Rattle.batches.specs.Batch.{places}
use Rattle.batches.specs.laws.Parts.{parts_same}
use Rattle.search.specs.promises.Determined.{not_both, same_refusal}
use Rattle.batches.specs.promises.Batch.{batch_determined}
use Rattle.frames.specs.declared.Gathered.{Gathered}
use Rattle.frames.specs.Bench.{Agrees, Gathers, Gathers.none, Gathers.passed, Gathers.keeps, Gathers.repeats, Gathers.unkept, Bench, Gather, Gather.refuses, Gather.gathers as gathered}

-- the starts that are kept, and the counts
pub record Alike (l l' : List ℕ) (r r' u u' : ℕ) : Type 0 where
  pub list : l ≡ l'
  pub repeat : r ≡ r'
  pub left : u ≡ u'

-- no kept one agrees, and one of the same does
clash :
    {s names values l l' vs : List ℕ} → l ≡ l' → (Agrees s names values l vs → ⊥) → Agrees s names values l' vs → ⊥
clash {s} {names} {values} {vs = vs} e x a = x (subst (λ (m : List ℕ). Agrees s names values m vs) (sym e) a)

module _ {s names values answers : List ℕ} where
  pub gathers_unique :
      {k : ℕ} {l l' : List ℕ} {r r' u u' : ℕ}
      → Gathers s names values answers k l r u
      → Gathers s names values answers k l' r' u'
      → Alike l l' r r' u u'
  gathers_unique none none = record { list = refl; repeat = refl; left = refl }
  gathers_unique (passed g x) (passed g' x') = gathers_unique g g'
  gathers_unique (passed g x) (keeps g' m' x' h') = absurd (x m')
  gathers_unique (passed g x) (repeats g' m' a') = absurd (x m')
  gathers_unique (passed g x) (unkept g' m' x' h') = absurd (x m')
  gathers_unique (keeps g m x h) (passed g' x') = absurd (x' m)
  gathers_unique (keeps {k} g m x h) (keeps g' m' x' h') =
      let e = gathers_unique g g' in record { list = ap (λ (l : List ℕ). l ++ (k ∷ [])) e.list; repeat = e.repeat; left = e.left }
  gathers_unique (keeps g m x h) (repeats g' m' a') = absurd (clash (gathers_unique g g').list x a')
  gathers_unique (keeps g m x h) (unkept g' m' x' h') = absurd (omega (arith, ap length (gathers_unique g g').list))
  gathers_unique (repeats g m a) (passed g' x') = absurd (x' m)
  gathers_unique (repeats g m a) (keeps g' m' x' h') = absurd (clash (sym (gathers_unique g g').list) x' a)
  gathers_unique (repeats g m a) (repeats g' m' a') =
      let e = gathers_unique g g' in record { list = e.list; repeat = ap (λ (n : ℕ). n + 1) e.repeat; left = e.left }
  gathers_unique (repeats g m a) (unkept g' m' x' h') = absurd (clash (sym (gathers_unique g g').list) x' a)
  gathers_unique (unkept g m x h) (passed g' x') = absurd (x' m)
  gathers_unique (unkept g m x h) (keeps g' m' x' h') = absurd (omega (arith, ap length (gathers_unique g g').list))
  gathers_unique (unkept g m x h) (repeats g' m' a') = absurd (clash (gathers_unique g g').list x a')
  gathers_unique (unkept g m x h) (unkept g' m' x' h') =
      let e = gathers_unique g g' in record { list = e.list; repeat = e.repeat; left = ap (λ (n : ℕ). n + 1) e.left }

module _ {s : List ℕ} {starts : ℕ} {names values answers kept kept' kept'' : List ℕ} {m m' r r' u u' : ℕ} where
  pub bench_unique :
      Bench s starts names values answers kept kept' m r u
      → Bench s starts names values answers kept kept'' m' r' u'
      → (kept' ≡ kept'') × (m ≡ m') × (r ≡ r') × (u ≡ u')
  bench_unique b b' =
      let e = gathers_unique b.gathers b'.gathers in
      let n : length b.list ≡ length b'.list = ap length e.list in (
        parts_same (node_count s) kept' kept'' (length b.list)
            (λ j l.
            b.solutions j l ∙ ap (λ (x : List ℕ). places s (get_or x j 0) values) e.list ∙ sym (b'.solutions j (omega (arith, n))))
            (b.beyond ∙ sym (rw e.list b'.beyond)),
        b.count ∙ n ∙ sym b'.count,
        e.repeat,
        e.left,
      )

pub gather_determined :
    (s : List ℕ) (starts : ℕ) (values tape lengths budgets names kept answers : List ℕ)
    {values' kept' answers' values'' kept'' answers'' : List ℕ} {g g' : Gathered}
    → Gather s starts values tape lengths budgets names kept answers values' kept' answers' g
    → Gather s starts values tape lengths budgets names kept answers values'' kept'' answers'' g'
    → (values' ≡ values'') × (kept' ≡ kept'') × (answers' ≡ answers'') × (g ≡ g')
gather_determined s starts values tape lengths budgets names kept answers (refuses r e) (refuses r' e') =
    (refl, refl, refl, rw (same_refusal e e'))
gather_determined s starts values tape lengths budgets names kept answers (refuses r e) (gathered e' t' b') = absurd (not_both e' e)
gather_determined s starts values tape lengths budgets names kept answers (gathered e t b) (refuses r' e') = absurd (not_both e e')
gather_determined s starts values tape lengths budgets names kept answers (gathered {values' = v₁} {kept' = k₁} {answers' = a₁} {m = m} {r = r} {u = u} e t b) (gathered {values' = v₂} {kept' = k₂} {answers' = a₂} {m = m'} {r = r'} {u = u'} e' t' b') =
    let same = batch_determined s starts values tape lengths budgets answers t t' in
    let b₂ : Bench s starts names v₁ a₁ kept k₂ m' r' u' = rw (same.0, same.1) b' in
    let one = bench_unique b b₂ in (same.0, one.0, same.1, rw (one.1, one.2, one.3))
