-- The three slots, one after the other.
use Rattle.mending.specs.laws.Chains.{link_first, link_second, link_third, linked_node}
use Rattle.mending.proofs.readers.link_node.Goals as goal

pub link-requires : goal.link-requires
link-requires c = link_first c.requires c.node_at-n.ensures c.operand_count-operands.ensures

pub link-requires-2 : goal.link-requires-2
link-requires-2 c = link_second c.requires c.node_at-n.ensures c.operand_count-operands.ensures

pub link-requires-3 : goal.link-requires-3
link-requires-3 c = link_third c.requires c.node_at-n.ensures c.operand_count-operands.ensures

pub returns : goal.returns
returns c = linked_node c.requires c.node_at-n.ensures c.operand_count-operands.ensures c.link.ensures c.link-2.ensures c.link-3.ensures
