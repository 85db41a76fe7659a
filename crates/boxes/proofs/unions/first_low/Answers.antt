-- Without low bits in hi there are none; else the first value that agrees, or where that has no low bit the one after it.
use Rattle.std.proofs.Common.{sym, ◌∙◌, subst}
use Rattle.words.specs.Pick.{FirstFrom}
use Rattle.boxes.specs.declared.unions.Union.TheVariants.{Low}
use Rattle.boxes.proofs.UnionLaws.{next_is, low_none, low_next}
use Rattle.boxes.proofs.unions.first_low.Goals as goal

pub returns-then-cut-eq0 : goal.returns-then-cut-eq0
returns-then-cut-eq0 c = λ u m _. low_none c.args.pair.lo c.args.pair.hi c.args.m (sym c.cut.ensures ∙ c.if-cut-eq0.true) u m

pub returns : goal.returns
returns c =
    let a = subst (FirstFrom _ _) c.in_ok-v.was c.first_agreeing.ensures in
    let e = sym c.cut-2.ensures ∙ c.if-cut-ne0.false in
    next_is (Low c.args.m) c.first_after.result a (λ m. m.has e)
    (low_next c.args.pair.lo c.args.pair.hi c.args.m c.args.p _ c.args.pair.within (λ z. c.if-cut-eq0.false (c.cut.ensures ∙ z)) a e) c.first_after.ensures
