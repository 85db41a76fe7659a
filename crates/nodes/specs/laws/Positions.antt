-- Laws of what stands at the three positions of a node, given by a function and how many there are.
use Rattle.std.specs.Prelude.{◌≡◌, refl, Bool, true, false, ℕ, zero, suc, ◌≤◌, ◌<◌, ltb}
use Rattle.std.proofs.Common.{sym, ◌∙◌, arith, lt-ltb, le-ltb, ltb-true}
use Rattle.picking.specs.declared.spot.Three.{Three}
use Rattle.picking.specs.Spot.{at}
use Rattle.nodes.specs.Problem.{one_of, three}

at_is : (c : ℕ) (f : ℕ → ℕ) (i : ℕ) → i < 3 → at (three c f) i ≡ one_of (ltb i c) (f i) 0
unfolding three
at_is c f zero h = refl
at_is c f (suc zero) h = refl
at_is c f (suc (suc zero)) h = refl
at_is c f (suc (suc (suc i))) h = absurd (omega arith)

pub at_three : (c : ℕ) (f : ℕ → ℕ) (i : ℕ) → i < c → c ≤ 3 → at (three c f) i ≡ f i
at_three c f i h l = at_is c f i (omega arith) ∙ rw (lt-ltb i c h)

pub past_three : (c : ℕ) (f : ℕ → ℕ) (i : ℕ) → c ≤ i → i < 3 → at (three c f) i ≡ 0
past_three c f i h l = at_is c f i l ∙ rw (le-ltb i c h)

-- three numbers are known by their positions
three_ext : (x y : Three) → ((i : ℕ) → i < 3 → at x i ≡ at y i) → x ≡ y
three_ext x y h = rw (h 0 (omega arith), h 1 (omega arith), h 2 (omega arith))

one_same : (b : Bool) (x y : ℕ) → (b ≡ true → x ≡ y) → one_of b x 0 ≡ one_of b y 0
one_same true x y h = h refl
one_same false x y h = refl

-- only the positions below the count bear
pub three_same : (c : ℕ) (f g : ℕ → ℕ) → ((i : ℕ) → i < c → f i ≡ g i) → three c f ≡ three c g
three_same c f g h =
    three_ext _ _ (λ i l. at_is c f i l ∙ one_same (ltb i c) (f i) (g i) (λ t. h i (ltb-true i c t)) ∙ sym (at_is c g i l))
