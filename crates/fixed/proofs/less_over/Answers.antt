-- The test of the two words that were put together.
use Rattle.fixed.specs.laws.Sound.{sign_over_lt}
use Rattle.fixed.proofs.less_over.Goals as goal

pub less_signed-requires : goal.less_signed-requires
less_signed-requires c =
    (c.requires.0, c.requires.1, rw c.sign_over.ensures (sign_over_lt c.args.w c.args.a c.args.b c.requires.0 c.requires.2), rw c.sign_over-2.ensures (sign_over_lt c.args.w c.args.c c.args.d c.requires.0 c.requires.3))
