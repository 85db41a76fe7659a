use Rattle.std.proofs.Common.{◌≡◌, length}
use Rattle.nodes.specs.inner.Nodes.{is_all}
use Rattle.evaluation.specs.inner.Evaluation.{Asked}
use Rattle.evaluation.specs.laws.Passing.{Going}
use Rattle.evaluation.proofs.pass.pass.Given as goal

abbrev pub invariant-loop-i : goal.invariant-loop-i
invariant-loop-i l = Asked l.problem.bytes.now l.initial.values l.span.variable l.span.first l.i-end (is_all l.span.scope) × (length l.marks ≡ length l.initial.marks) × Going l.problem.bytes.now l.initial.values l.span.variable l.i l.values l.marks l.count (is_all l.span.scope)
