-- The part of t at the position, where the rest of t agrees with the other.
use Rattle.boxes.specs.laws.Solves.{where_by}
use Rattle.picking.proofs.JoiningLaws.{some_concat_by}
use Rattle.picking.proofs.joining.consistent_concat.Goals as goal

pub returns : goal.returns
returns c =
    some_concat_by _ _ c.requires.0 c.requires.1 c.part.ensures c.part-2.ensures (where_by c.agrees.ensures c.only_where.ensures)
