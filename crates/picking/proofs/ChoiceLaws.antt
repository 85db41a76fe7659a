-- If: what it gives, by the branch that is taken, and what solves its equations.
use Rattle.std.proofs.Common.{◌≡◌, ℕ, ◌-◌, ◌<◌, ◌≤◌, Bool, ◌&&◌, sym, ap, ◌∙◌, le_refl, arith}
use Rattle.words.specs.Agree.{Agrees}
use Rattle.words.specs.inner.Decides.{Decides}
use Rattle.words.specs.laws.Decides.{decides_and}
use Rattle.picking.specs.declared.spot.Three.{Three}
use Rattle.picking.specs.Spot.{at, put}
use Rattle.picking.specs.laws.Positions.{at_put_other}
use Rattle.picking.specs.laws.If.{chosen, chosen_at, branch_low, branch_few}
use Rattle.boxes.specs.declared.Set.{Set}
use Rattle.boxes.specs.inner.Boxes.{Solves}
use Rattle.picking.specs.inner.Asks.{branch_of}
use Rattle.boxes.specs.laws.Solves.{same_by}

-- ---- a branch with v in it: v where it is taken, else the other branch
branch_at : (x : Three) (i v j : ℕ) → 1 ≤ i → i < 3 → branch_of x.a ≡ j → chosen (put x i v) ≡ at (put x i v) j
branch_at x i v j l h e = chosen_at (put x i v) ∙ ap (λ (n : ℕ). at (put x i v) (branch_of n)) (at_put_other x i v 0 h (omega arith) (λ q. omega arith)) ∙ ap (at (put x i v)) e

branch_left : (x : Three) (i v : ℕ) → 1 ≤ i → i < 3 → (branch_of x.a ≡ i → ⊥) → chosen (put x i v) ≡ at x (3 - i)
branch_left x i v l h f =
    let e : branch_of x.a ≡ 3 - i = omega (arith, branch_low x.a, branch_few x.a) in
    branch_at x i v (3 - i) l h e ∙ at_put_other x i v (3 - i) h (omega arith) (λ q. omega arith)

module _ {i t : ℕ} {r : Set} (x : Three) (l : 1 ≤ i) (h : i < 3) where
  pub left_by : {o : ℕ} → (branch_of x.a ≡ i → ⊥) → o ≡ at x (3 - i) → Solves 64 (λ v. o ≡ t) r → Solves 64 (λ v. chosen (put x i v) ≡ t) r
  left_by f e s = same_by (λ v. chosen (put x i v)) (le_refl 64) (λ v k. branch_left x i v l h f ∙ sym e) s

-- ---- a branch, for some values of the others that agree: t at the other one, or the branch is taken with t

module _ (los his : Three) (t i : ℕ) (low : 1 ≤ i) (few : i < 3) (a b : Bool) (l h : ℕ) (el : l ≡ at los (3 - i)) (eh : h ≡ at his (3 - i)) (da : Decides (Agrees los.a his.a (1 - (2 - i))) a) (db : Decides (Agrees l h t) b) where
  abbrev Passed : Type 0
  Passed = Agrees los.a his.a (1 - (2 - i)) × Agrees (at los (3 - i)) (at his (3 - i)) t

  told : Decides Passed (a && b)
  told = decides_and (Agrees los.a his.a (1 - (2 - i))) (Agrees (at los (3 - i)) (at his (3 - i)) t) a b da (rw (el, eh) at db)
