-- Everything at its place.
use Rattle.std.proofs.Common.{arith}
use Rattle.lines.specs.laws.Format.{refs_few}
use Rattle.btor2.specs.laws.ReadOf.{read_told}
use Rattle.btor2.proofs.read.read_line.Goals as goal

pub overflow_add-place : goal.overflow_add-place
overflow_add-place c = omega (arith, c.ref_start-place.ensures.most, refs_few c.number_of-word.result _ c.refs_of-refs.ensures)

pub filled_line-requires : goal.filled_line-requires
filled_line-requires c = omega (arith, c.ref_start-place.ensures.most, refs_few c.number_of-word.result _ c.refs_of-refs.ensures)

pub returns : goal.returns
returns c = λ σ S R K. read_told S.sorted _ _ _ _ _ _ _ _ _ _ _ c.token_at.ensures c.number_of-word.ensures c.makes_of-makes.ensures c.ref_start-place.ensures.place c.refs_of-refs.ensures c.token_at-2.ensures c.sort_named-sort.ensures (c.width_of-width.ensures σ S.sorted K) (c.operands_of-ops.ensures σ S R) c.filled_line.ensures
