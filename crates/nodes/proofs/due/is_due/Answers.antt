use Rattle.std.proofs.Common.{◌≡◌, refl, ◌∙◌, ℕ, Bool, true, false, slice_index_or, nat_lt}
use Rattle.std.specs.Prelude.{cond}
use Rattle.nodes.specs.Problem.{one_of}
use Rattle.nodes.specs.laws.Taking.{due_tells}
use Rattle.nodes.proofs.due.is_due.Goals as goal

of_cond : (t : Bool) (x : ℕ) → cond t x 0 ≡ one_of t x 0
of_cond true x = refl
of_cond false x = refl

pub returns : goal.returns
returns c =
    let read = λ (i m : ℕ). of_cond (nat_lt i c.args.count) (slice_index_or c.args.marks.now m 0) in
    rw (
      c.from.ensures,
      c.is_all.ensures,
      c.at_if-a.ensures ∙ read 0 c.args.n.a,
      c.at_if-b.ensures ∙ read 1 c.args.n.b,
      c.at_if-c.ensures ∙ read 2 c.args.n.c,
    )
    (due_tells _ _ _ _ c.requires.counted)
