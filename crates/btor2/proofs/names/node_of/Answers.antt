-- The loop's invariant: what is looked for is what the next id names.
use Rattle.std.proofs.Common.{◌≡◌, sym, ◌∙◌, arith}
use Rattle.btor2.specs.laws.Name.{named_zero, named_here, named_turn, named_stop}
use Rattle.btor2.proofs.names.node_of.Goals as goal

pub returns-in-Some : goal.returns-in-Some
returns-in-Some c = λ σ N R. sym (c.loop-next.invariant σ N R ∙ named_here N (c.beside.ensures R) c.in-Some.is)

pub returns-then-next-other : goal.returns-then-next-other
returns-then-next-other c = λ σ N R. sym (c.loop-next.invariant σ N R ∙ named_stop N _ _ (c.beside.ensures R) c.in_default.is c.loop-next-test.true c.line_of.ensures c.alias_of-other.ensures c.if-next-other.true)

pub loop-next-preserved : goal.loop-next-preserved
loop-next-preserved c = λ σ N R. c.loop-next.invariant σ N R ∙ named_turn N _ _ (c.beside.ensures R) c.in_default.is c.loop-next-test.true c.line_of.ensures c.alias_of-other.ensures

pub returns : goal.returns
returns c = λ σ N R. let z : c.loop-next.next ≡ 0 = omega arith in sym (c.loop-next.invariant σ N R ∙ rw z (named_zero N))
