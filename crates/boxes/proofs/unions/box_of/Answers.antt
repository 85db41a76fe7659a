-- Variant by variant the box of that shift; what the target has room for keeps the shifts within the word.
use native.Mathlib.Omega.{arith}
use Rattle.boxes.proofs.UnionLaws.{left_short}
use Rattle.boxes.proofs.unions.box_of.Goals as goal

pub low_are-requires : goal.low_are-requires
low_are-requires c =
    let h = left_short _ _ _ _ _ c.in-Left.is c.requires.0 c.requires.1 in
    (omega arith, h.2)
