-- The first places are lent, and read back.
use Rattle.std.proofs.Common.{sym, ◌∙◌, length-take-le}
use Rattle.mending.proofs.Ends.{few_places, fresh, front_room, front_length, news_length}
use Rattle.mending.proofs.arrange.Goals as goal

pub slice_bounds-find_order-end : goal.slice_bounds-find_order-end
slice_bounds-find_order-end c = (few_places _ _ _ _ c.requires (c.from-n.ensures ∙ c.node_count.ensures)).0

pub slice_bounds-find_order-end-2 : goal.slice_bounds-find_order-end-2
slice_bounds-find_order-end-2 c = sym (length-take-le _ _ (few_places _ _ _ _ c.requires (c.from-n.ensures ∙ c.node_count.ensures)).0)

pub find_order-requires : goal.find_order-requires
find_order-requires c = fresh _ _ _ _ c.requires (c.from-n.ensures ∙ c.node_count.ensures)

pub slice_bounds-order-end : goal.slice_bounds-order-end
slice_bounds-order-end c = front_room _ _ _ (news_length _ _ _ _ (c.from-n.ensures ∙ c.node_count.ensures) c.find_order.ensures)

pub slice_bounds-order-end-2 : goal.slice_bounds-order-end-2
slice_bounds-order-end-2 c = front_length _ _ _ (news_length _ _ _ _ (c.from-n.ensures ∙ c.node_count.ensures) c.find_order.ensures)
