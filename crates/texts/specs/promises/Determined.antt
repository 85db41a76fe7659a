-- The contract of each public function determines its result: any two results that it allows are equal.
use Rattle.std.specs.Prelude.{◌≡◌, Bool, List, ℕ, ◌+◌, drop, get_or, Option}
use Rattle.std.proofs.Common.{sym, ◌∙◌}
use Rattle.texts.specs.declared.runs.Class.{Class}
use Rattle.texts.specs.Runs.{is_white, is_in, length_of_run, equal}
use Rattle.texts.specs.Numbers.{digits_in, value_in, numbered}

-- every contract here is an equation
one : {A : Type 0} {v r s : A} → r ≡ v → s ≡ v → r ≡ s
one p q = p ∙ sym q

pub is_in_determined : (class : Class) (b : ℕ) (r s : Bool) → r ≡ is_in class b → s ≡ is_in class b → r ≡ s
is_in_determined class b r s = one

pub is_white_determined : (b : ℕ) (r s : Bool) → r ≡ is_white b → s ≡ is_white b → r ≡ s
is_white_determined b r s = one

pub byte_at_determined : (t : List ℕ) (p r s : ℕ) → r ≡ get_or t p 0 → s ≡ get_or t p 0 → r ≡ s
byte_at_determined t p r s = one

pub run_end_determined :
    (t : List ℕ) (at : ℕ) (class : Class) (r s : ℕ)
    → r ≡ at + length_of_run (is_in class) (drop at t)
    → s ≡ at + length_of_run (is_in class) (drop at t)
    → r ≡ s
run_end_determined t at class r s = one

pub same_determined : (t u : List ℕ) (r s : Bool) → r ≡ equal t u → s ≡ equal t u → r ≡ s
same_determined t u r s = one

pub digits_determined : (t : List ℕ) (base : ℕ) (r s : Bool) → r ≡ digits_in base t → s ≡ digits_in base t → r ≡ s
digits_determined t base r s = one

pub value_in_determined : (t : List ℕ) (base : ℕ) (r s : Option ℕ) → r ≡ numbered (value_in base t) → s ≡ numbered (value_in base t) → r ≡ s
value_in_determined t base r s = one
