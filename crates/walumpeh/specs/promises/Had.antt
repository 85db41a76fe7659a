-- That the picks are refused exactly if no accepted problem has such a node: `Offered` is what accepted problems have.
use Rattle.std.specs.Prelude.{◌≡◌, ◌↔◌, List, ℕ, ◌^◌, ◌≤◌, ◌<◌, get_or}
use Rattle.problem.specs.Layout.{node_count, node_at}
use Rattle.picking.specs.declared.spot.Spot.{Spot}
use Rattle.picking.specs.Spot.{positions}
use Rattle.nodes.specs.Problem.{problem, evaluate, spot}
use Rattle.search.specs.Call.{refusals}
use Rattle.walumpeh.specs.Offered.{Offered, plain}
use Rattle.walumpeh.specs.laws.Witness as witness
use Rattle.problem.specs.Refusals.{Accepted}

-- an accepted problem, an accepted start and an operator's node, which is S under the values that the start gives; one of its
-- positions, and a target of its width
pub record Had (S : Spot) (i t : ℕ) : Type 0 where
  pub bytes : List ℕ
  pub start : List ℕ
  pub node : ℕ
  pub small_bytes : (k : ℕ) → get_or bytes k 0 < 256
  pub small_words : (k : ℕ) → get_or start k 0 < 2 ^ 64
  pub accepted : refusals bytes start ≡ Accepted
  pub inside : node < node_count bytes
  pub operator : 2 ≤ (node_at bytes node).kind
  pub is : S ≡ plain (spot (problem bytes) (evaluate (problem bytes) start) node)
  pub position : i < positions S
  pub target : t < 2 ^ S.width

had_offered : (S : Spot) (i t : ℕ) → Had S i t → Offered S i t
had_offered S i t h =
    rw h.is
    (witness.accepted_offered h.bytes h.start h.node h.accepted h.inside h.operator i t (rw h.is at h.position)
    (rw h.is at h.target))

offered_had : (S : Spot) (i t : ℕ) → Offered S i t → Had S i t
offered_had S i t o =
    record {
      bytes = witness.bytes S i t o;
      start = witness.start S i t o;
      node = 3;
      small_bytes = witness.small_bytes S i t o;
      small_words = witness.small_start S i t o;
      accepted = witness.accepts_start S i t o;
      inside = witness.node_inside S i t o;
      operator = witness.node_operator S i t o;
      is = witness.taken S i t o;
      position = o.asked.position;
      target = o.asked.target;
    }

-- a spot, a position and a target are offered exactly if an accepted problem has them
pub offered_exactly : (S : Spot) (i t : ℕ) → Offered S i t ↔ Had S i t
offered_exactly S i t = (offered_had S i t, had_offered S i t)
