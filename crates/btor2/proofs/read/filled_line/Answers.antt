-- The numbers, the constant and the id, each at its place.
use Rattle.std.proofs.Common.{arith}
use Rattle.lines.specs.laws.Format.{numbers_few}
use Rattle.btor2.specs.laws.ReadOf.{filled_told}
use Rattle.btor2.proofs.read.filled_line.Goals as goal

pub overflow_add-last : goal.overflow_add-last
overflow_add-last c = omega (arith, numbers_few c.args.word _ c.numbers_of.ensures)

pub token_at-requires-3 : goal.token_at-requires-3
token_at-requires-3 c = omega (arith, numbers_few c.args.word _ c.numbers_of.ensures)

pub returns : goal.returns
returns c = filled_told _ _ _ _ _ _ _ _ _ _ _ _ _ _ c.token_at.ensures c.short_of-first.ensures c.token_at-2.ensures c.short_of-second.ensures c.numbers_of.ensures c.token_at-3.ensures c.literal_of-literal.ensures c.token_at-4.ensures c.small_of-id.ensures
