-- The answers of the C interface about a single node, by the tests that lead there.
use Rattle.std.specs.Prelude.{Option, None, Some}
use mathlib.Core.Path.{◌≡◌}
use mathlib.Core.Bool.{Bool, true, false}
use mathlib.Core.List.{List}
use Prim.Native.Nat.{ℕ, ◌%◌, ◌^◌}
use native.Mathlib.Omega.{arith}
use lib.ListN.{length, set}
use mir.Val.{bool_byte}
use Rattle.words.specs.Pick.{Picked}
use Rattle.words.specs.inner.Decides.{Decides}
use Rattle.picking.specs.declared.spot.Spot.{Spot}
use Rattle.picking.specs.Spot.{at, Essential}
use Rattle.walumpeh.specs.Offered.{Offered}
use Rattle.walumpeh.specs.Calls.{SetOf, EssentialCode, EssentialCode.essential, EssentialCode.not_essential, PickCode, PickCode.nothing, PickCode.found}

module _ (S T : Spot) (same : T ≡ S) (i t : ℕ) (o : Offered T i t) where
  offered_here : Offered S i t
  offered_here = rw same at o

  pub essential_code : (r : Bool) → Decides (Essential T t i) r → EssentialCode S i t (bool_byte r)
  essential_code true d = essential offered_here (rw same at d)
  essential_code false d = not_essential offered_here (rw same at d)

  module _ (p n : ℕ) (out : List ℕ) (place : length out ≡ 0 → ⊥) (r : Option ℕ) (d : Picked (SetOf n T t i) (p % 2 ^ at T.widths i) r) where
    here : Picked (SetOf n S t i) (p % 2 ^ at S.widths i) r
    here = rw same at d

    pub nothing_code : r ≡ None → PickCode S i t p n out out 0
    nothing_code e = nothing (omega arith) offered_here (rw e at here)

    pub found_code : (v : ℕ) → r ≡ Some v → PickCode S i t p n out (set out 0 v) 1
    found_code v e = found (omega arith) offered_here (rw e at here)
