-- What the tests of the bench's call take from the definitions.
use Rattle.std.proofs.Common.{◌≡◌, refl, Bool, List, [], ◌∷◌, ℕ, zero, suc, ◌≤◌, length, get_or, take, arith}
use Rattle.std.proofs.Math.Bool.{or-false}
use Rattle.std.proofs.Math.Seq.{take-suc}
use Rattle.std.specs.Prelude.{eqb}
use Rattle.std.specs.List.{list_any}
use Rattle.std.proofs.lemmas.List.Folds.{list_any-append}
use Rattle.frames.specs.Names.{named_before}

-- a name that stands among the first k
pub named_before_is : (names : List ℕ) (k id : ℕ) → k ≤ length names → list_any (λ y. eqb y id) (take k names) ≡ named_before names k id
unfolding named_before
named_before_is names zero id h = refl
named_before_is names (suc k) id h =
    let p : ℕ → Bool = λ y. eqb y id in
    rw (take-suc names k 0 h, list_any-append p (take k names) (get_or names k 0 ∷ []), or-false (eqb (get_or names k 0) id), named_before_is names k id (omega arith))
