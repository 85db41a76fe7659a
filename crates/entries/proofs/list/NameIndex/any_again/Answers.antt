-- A name that does not stand first at its own place stands earlier.
use Rattle.std.proofs.Common.{arith, eq-eqb, refl, true≢false}
use Rattle.entries.specs.laws.Names.{some_found, again_is}
use Rattle.entries.proofs.list.NameIndex.any_again.Goals as goal

pub returns-then-ne : goal.returns-then-ne
returns-then-ne c =
    let earlier =
    again_is _ _ _ _ c.name.ensures c.position.ensures (omega (arith, c.args.self.now.names.named.all))
    (λ e. let differs = c.if-ne.ensures in true≢false (rw (e, eq-eqb c.loop-k.k c.loop-k.k refl) at differs)) in
    some_found _ c.loop-k.k _ earlier (omega arith)
