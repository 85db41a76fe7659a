-- The law of Newton's step, of the two products and the difference that the code takes.
use Rattle.std.proofs.Common.{arith}
use Rattle.words.specs.laws.Modular.{newton}
use Rattle.words.proofs.modular.newton.Goals as goal

pub returns : goal.returns
returns c = λ k h w i.
    rw c.wrapping_mul.ensures (newton k 64 c.args.a c.args.x c.wrapping_mul-y.result _ h w i c.wrapping_mul-y.ensures (omega arith))
