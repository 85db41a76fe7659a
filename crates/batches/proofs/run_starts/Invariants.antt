use Rattle.batches.specs.inner.Batch.{Made}
use Rattle.batches.proofs.run_starts.Given as goal

abbrev pub invariant-loop-k : goal.invariant-loop-k
invariant-loop-k l = Made l.problem l.initial.values l.tape l.lengths l.budgets l.initial.answers l.k l.from l.values l.answers
