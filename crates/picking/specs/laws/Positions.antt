-- Laws of positions: how many a kind has, what stands at one and what is put there, and that a node's value does not
-- look at a position that the kind has not.
use Rattle.std.specs.Prelude.{◌≡◌, ℕ, zero, suc, ◌-◌, ◌<◌, ◌≤◌, Bool, ◌&&◌, T, List, [], ◌∷◌, ◌≢◌, nat_le, slice_index_or, refl}
use Rattle.std.proofs.Common.{arith, leb→le}
use Rattle.std.specs.Float.Ieee.Fits.{and_l, and_r}
use Rattle.operators.specs.Table.{Kind, variable, kinds, kind_of, shape, shape_of}
use Rattle.operators.specs.inner.Ready.{Used}
use Rattle.operators.specs.laws.Meaning.{meaning_used}
use Rattle.picking.specs.declared.spot.Three.{Three}
use Rattle.picking.specs.declared.spot.Spot.{Spot}
use Rattle.picking.specs.Spot.{at, put, positions, value}

-- ---- how many positions a kind has

-- a test that every kind of a list passes, and the kind of every number past it
abbrev pub passes : (Kind → Bool) → List Kind → Bool
passes f [] = f variable
passes f (o ∷ os) = f o && passes f os

pub every_kind : (f : Kind → Bool) (os : List Kind) → T (passes f os) → (n : ℕ) → T (f (slice_index_or os n variable))
every_kind f [] h n = h
every_kind f (o ∷ os) h zero = and_l (f o) (passes f os) h
every_kind f (o ∷ os) h (suc n) = every_kind f os (and_r (f o) (passes f os) h) n

pub few_positions : (k : ℕ) → (shape_of k).operands ≤ 3
few_positions k = leb→le _ _ (every_kind (λ o. nat_le (shape o).operands 3) kinds tt k)

-- ---- what stands at a position, and what is put there

pub at_put_same : (x : Three) (i v : ℕ) → i < 3 → at (put x i v) i ≡ v
at_put_same x zero v h = refl
at_put_same x (suc zero) v h = refl
at_put_same x (suc (suc i)) v h = refl

pub at_put_other : (x : Three) (i v j : ℕ) → i < 3 → j < 3 → (j ≢ i) → at (put x i v) j ≡ at x j
at_put_other x zero v zero h l f = absurd (f refl)
at_put_other x zero v (suc zero) h l f = refl
at_put_other x zero v (suc (suc j)) h l f = refl
at_put_other x (suc zero) v zero h l f = refl
at_put_other x (suc zero) v (suc zero) h l f = absurd (f refl)
at_put_other x (suc zero) v (suc (suc j)) h l f = refl
at_put_other x (suc (suc i)) v zero h l f = refl
at_put_other x (suc (suc i)) v (suc zero) h l f = refl
at_put_other x (suc (suc i)) v (suc (suc j)) h l f = absurd (f (omega arith))

pub put_same : (x : Three) (i v : ℕ) → v ≡ at x i → put x i v ≡ x
put_same x zero v e = rw e
put_same x (suc zero) v e = rw e
put_same x (suc (suc i)) v e = rw e

-- ---- facts of the positions, as the operators want them

pub used_of : (n : ℕ) (A : ℕ → Type 0) → ((j : ℕ) → j < n → A j) → Used n (A 0) (A 1) (A 2)
used_of n A h = record { a = h 0; b = h 1; c = h 2 }

pub value_used : (S : Spot) (x y : Three) → ((j : ℕ) → j < positions S → at x j ≡ at y j) → value S x ≡ value S y
value_used S x y h =
    meaning_used (kind_of S.kind) S.width S.widths.a S.widths.b S.low x.a x.b x.c y.a y.b y.c
    (used_of (positions S) (λ j. at x j ≡ at y j) h)

-- ---- of two positions

-- what holds of a and of b holds of any of two positions
pub two_of : (P : ℕ → Type 0) (i : ℕ) → i < 2 → P 0 → P 1 → P i
two_of P zero h a b = a
two_of P (suc zero) h a b = b
two_of P (suc (suc i)) h a b = absurd (omega arith)

pub two_by_two : (P : ℕ → ℕ → Type 0) (i j : ℕ) → i < 2 → j < 2 → P 0 0 → P 0 1 → P 1 0 → P 1 1 → P i j
two_by_two P i j h l a b c d = two_of (λ i. P i j) i h (two_of (P 0) j l a b) (two_of (P 1) j l c d)

pub other_of : (i j : ℕ) → i < 2 → j < 2 → (j ≢ i) → j ≡ 1 - i
other_of i j h l f = omega arith
