-- One box: the interval of all words.
use Rattle.std.proofs.Common.{◌-◌, ◌^◌, zero-le, le_refl}
use lib.Pow.{le_ones}
use Rattle.boxes.specs.laws.Solves.{solves_by, span_solves}
use Rattle.picking.proofs.basic.all.Goals as goal

pub returns : goal.returns
returns c = rw c.between.ensures (solves_by (le_refl 64) (span_solves 0 (2 ^ 64 - 1)) (λ v l m. tt) (λ v l m. (zero-le, le_ones 64 l)))
