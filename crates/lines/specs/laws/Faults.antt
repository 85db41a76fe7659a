-- Laws of refusals, and of the first of two.
use Rattle.std.specs.Prelude.{◌≡◌, cond, ℕ, ◌<◌, Result, Ok, Err, eqb}
use Rattle.std.proofs.Common.{refl, sym, ap, ◌∙◌, arith}
use Rattle.lines.specs.declared.fault.Fault.{Fault}
use Rattle.lines.specs.declared.fault.Fault.TheVariants.{Format, Keyword, Id, Width, Room}
use Rattle.lines.specs.Faults.{fault_number, told}
use Rattle.lines.specs.Format.{◌or_else◌}
use Rattle.lines.specs.laws.Format.{or_first, or_second}

-- no refusal has the number 0, and no two have the same
pub fault_some : (f : Fault) → 0 < fault_number f
fault_some Format = omega arith
fault_some Keyword = omega arith
fault_some Id = omega arith
fault_some Width = omega arith
fault_some Room = omega arith

pub fault_not_none : (f : Fault) → fault_number f ≡ 0 → ⊥
fault_not_none f e = omega (arith, fault_some f)

-- what is told first where it refuses, and what is told after it where it does not
pub fault_here : (r : Result Unit Fault) (f : Fault) (m n : ℕ) → told r ≡ m → r ≡ Err f → told r ≡ (m or_else n)
fault_here r f m n e h = e ∙ or_second m n (λ y. fault_not_none f (ap told (sym h) ∙ e ∙ y))

pub fault_after : (r : Result Unit Fault) (u : Unit {0}) (m n k : ℕ) → told r ≡ m → r ≡ Ok u → k ≡ n → k ≡ (m or_else n)
fault_after r u m n k e h q =
    let z : 0 ≡ m = rw h at e in
    q ∙ or_first m n (sym z)

-- the refusal with a number, and so the answer
fault_at : ℕ → Fault
fault_at n = cond (eqb n 1) Format (cond (eqb n 2) Keyword (cond (eqb n 3) Id (cond (eqb n 4) Width Room)))

at_number : (f : Fault) → fault_at (fault_number f) ≡ f
unfolding fault_at
at_number Format = refl
at_number Keyword = refl
at_number Id = refl
at_number Width = refl
at_number Room = refl

pub fault_one : (f g : Fault) → fault_number f ≡ fault_number g → f ≡ g
fault_one f g e = sym (at_number f) ∙ ap fault_at e ∙ at_number g

pub told_one : (r s : Result Unit Fault) → told r ≡ told s → r ≡ s
told_one (Ok u) (Ok v) e = refl
told_one (Ok u) (Err g) e = absurd (fault_not_none g (sym e))
told_one (Err f) (Ok u) e = absurd (fault_not_none f e)
told_one (Err f) (Err g) e = ap Err (fault_one f g e)
