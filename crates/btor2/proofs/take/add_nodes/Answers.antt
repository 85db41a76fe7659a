-- The loop's invariant: j of the nodes are put.
use Rattle.std.proofs.Common.{refl, ap, ◌∙◌, arith, length}
use lib.Seq.{length-sets}
use Rattle.spelling.specs.inner.Spelled.{new_read}
use Rattle.spelling.specs.laws.Spell.{count_few, new_length}
use Rattle.spelling.specs.laws.Written.{nodes_none, nodes_turn, nodes_all}
use Rattle.btor2.proofs.take.add_nodes.Goals as goal

pub loop-j-init : goal.loop-j-init
loop-j-init c = (refl, λ h. nodes_none _ _ (new_read c.args.x c.args.n))

pub overflow_add-n : goal.overflow_add-n
overflow_add-n c = omega (arith, count_few c.args.x)

pub loop-j-preserved : goal.loop-j-preserved
loop-j-preserved c = (ap length c.put_node.ensures ∙ simp length-sets c.loop-j.invariant.0, λ h. nodes_turn _ _ _ _ c.loop-j.j _ (new_read c.args.x c.args.n) _ (c.loop-j.invariant.1 h) (omega (arith, new_length c.args.x c.args.n, c.requires.2)) (c.new_node.ensures h (omega (arith, c.requires.2))) refl (rw c.from.ensures at c.put_node.ensures))

pub returns : goal.returns
returns c = λ h. nodes_all _ _ _ c.loop-j.j (new_read c.args.x c.args.n) (c.loop-j.invariant.1 h) (omega (arith, new_length c.args.x c.args.n, c.requires.2))
