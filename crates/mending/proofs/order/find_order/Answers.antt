-- The chains, and then the order.
use Rattle.std.proofs.Common.{◌≡◌, ℕ, arith, get_or, replicate}
use native.Mathlib.Decide.{dec_lt}
use lib.ListN.{length-replicate, get_or-replicate, get_or-eq_default}
use Rattle.mending.specs.laws.Chains.{chained_none}
use Rattle.mending.proofs.order.find_order.Goals as goal

clear : (n k : ℕ) → ◌≡◌ {A = ℕ} (get_or (replicate n 0) k 0) 0
clear n k =
    elim (dec_lt k n) [
      | yes l ↦ get_or-replicate n k 0 0 l
      | no x ↦ get_or-eq_default (replicate n 0) 0 (omega (arith, length-replicate {A = ℕ} n 0))
    ]

pub link_all-requires : goal.link_all-requires
link_all-requires c =
    record {
      header = c.requires.header;
      inside = c.requires.inside;
      chained = chained_none _ _ _ (length-replicate {A = ℕ} 1024 0) (length-replicate {A = ℕ} 3072 0) (clear 1024) (clear 3072);
    }
