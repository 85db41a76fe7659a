-- What the operator asks of the kind's one operand.
use Rattle.essentials.proofs.EssentialLaws.{not_fits, sext_fits, third}
use Rattle.essentials.proofs.value_now.Goals as goal

pub flip-requires : goal.flip-requires
flip-requires c = (c.requires.0.some, c.requires.0.wide, not_fits c.args.s c.requires.0 c.if-s-eq-NOT.true)

pub extend-requires : goal.extend-requires
extend-requires c = sext_fits c.args.s c.requires.0 (third c.requires.1 c.if-s-eq-NOT.false c.if-s-eq-EXTRACT.false)
