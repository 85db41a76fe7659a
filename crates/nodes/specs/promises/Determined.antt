-- The contract of each public function determines its result and every lent place: any two that it allows are equal.
use Rattle.std.specs.Prelude.{◌≡◌, refl, List, Bool, ℕ, Option, Some}
use Rattle.std.proofs.Common.{sym, ap, ◌∙◌}
use Rattle.problem.specs.declared.layout.Node.{Node}
use Rattle.picking.specs.declared.spot.Spot.{Spot}
use Rattle.picking.specs.Spot.{at}
use Rattle.nodes.specs.Problem.{Pairs}
use Rattle.nodes.specs.inner.Nodes.{ids, Fills, spot_in, Takes, Takes.value, Takes.nothing}

-- where the contract is an equation
equal : {A : Type 0} {v r s : A} → r ≡ v → s ≡ v → r ≡ s
equal p q = p ∙ sym q

-- whether it is to be evaluated is told by the marks, so one of the two answers is ruled out
pub taken_at_determined :
    {s vs marks : List ℕ} {i : ℕ} {all : Bool} {r t : Option ℕ} → Takes s i all vs marks r → Takes s i all vs marks t → r ≡ t
taken_at_determined (value w e) (value w' e') = ap Some (equal e e')
taken_at_determined (value w e) (nothing x) = absurd (x w)
taken_at_determined (nothing x) (value w e) = absurd (x w)
taken_at_determined (nothing x) (nothing y) = refl

pub fill_determined :
    (s los his los' his' los'' his'' : List ℕ)
    → Fills s los his los' his'
    → Fills s los his los'' his''
    → (los' ≡ los'') × (his' ≡ his'')
fill_determined s los his los' his' los'' his'' f g =
    let e = equal f g in (ap (λ (w : Pairs). w.los) e, ap (λ (w : Pairs). w.his) e)

pub spot_of_determined :
    (s los his vs : List ℕ) (n : Node) (r t : Spot) → r ≡ spot_in s los his vs n → t ≡ spot_in s los his vs n → r ≡ t
spot_of_determined s los his vs n r t = equal

pub operand_determined : (n : Node) (i r t : ℕ) → r ≡ at (ids n) i → t ≡ at (ids n) i → r ≡ t
operand_determined n i r t = equal
