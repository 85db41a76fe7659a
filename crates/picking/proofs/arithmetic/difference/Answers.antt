-- The difference modulo 2^64, cut to w bits, is the one solution.
use Rattle.std.proofs.Common.{arith}
use Rattle.picking.proofs.ArithmeticLaws.{add_by}
use Rattle.boxes.specs.laws.Solves.{only_one}
use Rattle.picking.proofs.arithmetic.difference.Goals as goal

pub returns : goal.returns
returns c =
    add_by c.args.s _ c.requires (omega arith) c.cut.ensures (only_one _)
