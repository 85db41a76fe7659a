-- `evaluation::readers::link_node` meets its contract.
use Rattle.std.proofs.Common.{arith}
use Rattle.nodes.specs.laws.Good.{good_of}
use Rattle.nodes.specs.Problem.{problem}
use Rattle.evaluation.specs.laws.Linking.{linkable_2, linkable_1, linkable_0, linked_node}
use Rattle.evaluation.proofs.readers.link_node.Goals as goal

pub node-n-requires : goal.node-n-requires
unfolding problem
node-n-requires c = c.requires.inside

pub overflow_add-i : goal.overflow_add-i
overflow_add-i c = let p = c.requires in omega (arith, p.inside, (good_of _ c.args.problem.accepted).few)

pub link-requires : goal.link-requires
link-requires c = let p = c.requires in
    linkable_2 p.inside c.node-n.ensures.node p.linking

pub link-requires-2 : goal.link-requires-2
link-requires-2 c = let p = c.requires in
    linkable_1 p.inside c.node-n.ensures.node p.linking (rw c.from.ensures at c.max-end.ensures) c.link.ensures

pub link-requires-3 : goal.link-requires-3
link-requires-3 c = let p = c.requires in
    linkable_0 p.inside c.node-n.ensures.node p.linking (rw c.from.ensures at c.max-end.ensures) c.link.ensures c.link-2.ensures

pub returns-clause-linking : goal.returns-clause-linking
returns-clause-linking c =
    linked_node c.requires.inside c.node-n.ensures.node c.requires.linking (rw c.from.ensures at c.max-end.ensures) c.link.ensures c.link-2.ensures c.link-3.ensures
