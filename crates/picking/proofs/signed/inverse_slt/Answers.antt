-- By the target and the position.
use Rattle.picking.proofs.ComparisonLaws.{bit_zero_of, position_one}
use Rattle.picking.proofs.SignedLaws.{less_by, not_less_by}
use Rattle.picking.proofs.signed.inverse_slt.Goals as goal

pub returns-then-i-eq0 : goal.returns-then-i-eq0
returns-then-i-eq0 c =
    rw c.if-i-eq0.true (less_by (λ v. v) (λ v. c.args.s) c.requires.1.some (λ v l. l) (λ v l. c.requires.1.fits) c.if-t-eq1.true c.below.ensures)

pub returns-then-t-eq1 : goal.returns-then-t-eq1
returns-then-t-eq1 c =
    rw (position_one c.args.i c.requires.0 c.if-i-eq0.false) (less_by (λ v. c.args.s) (λ v. v) c.requires.1.some (λ v l. c.requires.1.fits) (λ v l. l) c.if-t-eq1.true c.above.ensures)

pub returns-then-i-eq0-2 : goal.returns-then-i-eq0-2
returns-then-i-eq0-2 c =
    rw c.if-i-eq0-2.true (not_less_by (λ v. v) (λ v. c.args.s) c.requires.1.some (λ v l. l) (λ v l. c.requires.1.fits) (bit_zero_of c.args.t c.requires.2 c.if-t-eq1.false) c.from.ensures)

pub returns : goal.returns
returns c =
    rw (position_one c.args.i c.requires.0 c.if-i-eq0-2.false) (not_less_by (λ v. c.args.s) (λ v. v) c.requires.1.some (λ v l. c.requires.1.fits) (λ v l. l) (bit_zero_of c.args.t c.requires.2 c.if-t-eq1.false) c.up_to.ensures)
