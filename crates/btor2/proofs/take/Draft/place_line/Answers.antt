-- Refusal 5, or the nodes, the name and the root.
use Rattle.std.proofs.Common.{◌≡◌, length, arith, rules}
use Rattle.btor2.specs.inner.Taking.{full}
use Rattle.spelling.specs.laws.Spell.{count_few}
use Rattle.btor2.specs.laws.NameIf.{adds_room, named_few}
use Rattle.btor2.specs.laws.Place.{place_judged, place_put, room_left}
use Rattle.btor2.proofs.take.Draft.place_line.Goals as goal

pub node_for-node-requires : goal.node_for-node-requires
node_for-node-requires c = let f = c.args.self.now.nodes_few in omega (arith, count_few c.args.x, c.new_count-total.ensures)

pub overflow_add-nodes : goal.overflow_add-nodes
overflow_add-nodes c = let f = c.args.self.now.nodes_few in omega (arith, count_few c.args.x, c.new_count-total.ensures)

pub returns-then-is_overfull : goal.returns-then-is_overfull
returns-then-is_overfull c = full (place_judged c.args.x c.args.self.now.counts c.args.room _ _ _ _ _ _ c.makes_of-makes.ensures c.new_count-total.ensures c.node_for-node.ensures c.roots_after-roots.ensures c.is_overfull.ensures c.if-is_overfull.true)

pub add_nodes-requires : goal.add_nodes-requires
add_nodes-requires c =
    let f = c.args.self.now.nodes_few in
    let g : length c.args.self.now.bytes ≡ 24576 = search rules in
    let r = room_left _ _ _ _ c.is_overfull.ensures c.if-is_overfull.false in
    (omega arith, omega arith, c.new_count-total.ensures)

pub add_name-names-requires : goal.add_name-names-requires
add_name-names-requires c = λ e.
    let f = c.args.self.now.names_few in
    let i : length c.args.self.now.ids ≡ 2048 = search rules in
    let p : length c.args.self.now.places ≡ 2048 = search rules in
    let r = room_left _ _ _ _ c.is_overfull.ensures c.if-is_overfull.false in
    let a = adds_room c.makes_of-makes.result c.new_count-total.result c.args.self.now.counts.names (rw c.adds_name-wanted.ensures at e) (omega arith) in
    (omega arith, omega arith, a)

pub add_root-requires : goal.add_root-requires
add_root-requires c = λ l.
    let g : length c.args.self.now.rooted ≡ 256 = search rules in
    let r = room_left _ _ _ _ c.is_overfull.ensures c.if-is_overfull.false in
    omega arith

pub invariant_of-self-clause-nodes_few : goal.invariant_of-self-clause-nodes_few
invariant_of-self-clause-nodes_few c = (room_left _ _ _ _ c.is_overfull.ensures c.if-is_overfull.false).0

pub invariant_of-self-clause-roots_few : goal.invariant_of-self-clause-roots_few
invariant_of-self-clause-roots_few c = (room_left _ _ _ _ c.is_overfull.ensures c.if-is_overfull.false).1

pub invariant_of-self-clause-names_few : goal.invariant_of-self-clause-names_few
invariant_of-self-clause-names_few c = named_few _ _ _ _ c.add_name-names.ensures c.adds_name-wanted.ensures c.args.self.now.names_few (room_left _ _ _ _ c.is_overfull.ensures c.if-is_overfull.false).0

pub returns : goal.returns
returns c = place_put c.args.x c.args.self.now.counts c.args.room _ _ _ _ _ _ _ _ _ _ _ _ _ _ c.makes_of-makes.ensures c.new_count-total.ensures c.node_for-node.ensures c.roots_after-roots.ensures c.is_overfull.ensures c.if-is_overfull.false c.add_nodes.ensures (rw c.adds_name-wanted.ensures at c.add_name-names.ensures) c.add_root.ensures
