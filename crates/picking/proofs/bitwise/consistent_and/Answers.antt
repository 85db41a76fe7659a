-- t has to lie in h; then v has the bits of t and, outside l, any others.
use Rattle.picking.proofs.BitwiseLaws.{and_none, some_and_by}
use Rattle.std.proofs.Common.{rules}
use Rattle.boxes.specs.laws.Solves.{solves_none}
use Rattle.picking.proofs.bitwise.consistent_and.Goals as goal

pub returns-then-t-pair : goal.returns-then-t-pair
returns-then-t-pair c = let a = c.args in solves_none (λ v b m. and_none a.pair.lo a.pair.hi a.t c.if-t-pair.true v m)

pub returns : goal.returns
returns c =
    some_and_by c.args.pair.lo c.args.pair.hi c.args.t c.args.pair.within (search rules) c.if-t-pair.false c.agreeing.ensures
