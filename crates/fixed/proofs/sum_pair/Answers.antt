-- with_free puts the pair together, from the sum and the carries that the definition names.
use Rattle.std.proofs.Common.{ap, ap₂, ◌∙◌}
use lib.Bits.{bit_or, bit_xor}
use Rattle.fixed.specs.Fixed.{free_in, known}
use Rattle.fixed.proofs.sum_pair.Goals as goal

pub returns : goal.returns
returns c =
    c.with_free.ensures
    ∙ ap₂ known c.sum.ensures
    (ap (bit_or (free_in c.args.p c.args.q)) (ap₂ bit_xor c.carried.ensures c.carried-2.ensures))
