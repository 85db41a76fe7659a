-- Laws of the layout: a number cut short by the end, where a node's width stands, and a part of 24 bytes by its ends.
use Rattle.std.specs.Prelude.{◌≡◌, List, ℕ, ◌+◌, ◌*◌, ◌-◌, ◌≤◌, ◌<◌, length, get_or, take, drop}
use Rattle.std.proofs.Common.{sym, ap, ◌∙◌, arith, get_or-take, get_or-drop, lit<}
use Rattle.std.proofs.Math.ListN.{get_or-eq_default}
use Rattle.problem.specs.Layout.{le16, node_start, node_of, node_at, width_at}

-- a number of 16 bits whose second byte is past the end
pub short_number : (s : List ℕ) (p : ℕ) → length s < p + 2 → get_or s p 0 + 256 * 0 ≡ le16 s p
unfolding le16
short_number s p h =
    let l : length s ≤ p + 1 = omega arith in ap (λ (x : ℕ). get_or s p 0 + 256 * x) (sym (get_or-eq_default s 0 l))

pub width_byte : (s : List ℕ) (i : ℕ) → width_at s i ≡ get_or s (10 + 24 * i) 0
unfolding width_at node_at node_of
width_byte s i =
    get_or-take 24 (drop (node_start i) s) 1 0 (lit< tt) ∙ get_or-drop (node_start i) s 1 0
    ∙ ap (λ (n : ℕ). get_or s n 0) (omega arith)

pub part_node : (s : List ℕ) (i : ℕ) → node_of (take (node_start i + 24 - node_start i) (drop (node_start i) s)) ≡ node_at s i
unfolding node_at
part_node s i =
    let e : node_start i + 24 - node_start i ≡ 24 = omega arith in ap (λ (m : ℕ). node_of (take m (drop (node_start i) s))) e
