-- Every turn passes over a gap, of which there are at most 256.
use mathlib.Core.Path.{subst}
use Rattle.words.specs.Pick.{FirstFrom}
use Rattle.boxes.proofs.UnionLaws.{gap_turn}
use Rattle.boxes.proofs.unions.first_dividend.Goals as goal

pub loop-v-smaller : goal.loop-v-smaller
loop-v-smaller c =
    let a = subst (FirstFrom _ _) c.in_ok-v.was c.first_agreeing.ensures in
    gap_turn c.args.t c.args.m c.in_ok-v.v c.loop-v.from c.requires.0 c.requires.2 c.if-m-v.false c.if-v-t.false a.from
